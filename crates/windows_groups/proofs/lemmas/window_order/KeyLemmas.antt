-- Rows of keys, compared place by place.
use Rattle.std.proofs.Common.{◌≡◌, ◌∙◌, ◌+◌, ◌<◌, ◌≤◌, true, false, not, ℕ, zero, suc, Ordering, Less, Equal, Greater, List, [], ◌∷◌, drop, get_or, length, map, refl, sym, ap, arith}
use Rattle.std.specs.Bool.{◌==◌}
use Rattle.std.specs.Ordering.{ordering_index, ordering_then}
use Rattle.values.specs.Row.{Row}
use Rattle.semantics.specs.Query as q
use Rattle.semantics.specs.Sequence.{directed_cmp, keys_cmp, value_at}
use Rattle.resolver_terms.specs.SelectView.{direction_of}
use Rattle.sql_reader_syntax.specs.declared.query.Direction.{Direction}

drop_tail : {X : Type 0} (n : ℕ) (xs : List X) → drop (suc n) xs ≡ drop n (drop 1 xs)
drop_tail zero [] = refl
drop_tail (suc n) [] = refl
drop_tail n (x ∷ xs) = refl

value_tail : (n : ℕ) (row : Row) → value_at row (suc n) ≡ value_at (drop 1 row) n
value_tail zero [] = refl
value_tail (suc n) [] = refl
value_tail n (v ∷ row) = refl

-- the keys from a place on differ there or behind it
keys_from : (ds : List q.Direction) (at : ℕ) (d : q.Direction) (x y : Row) → at < length ds
    → keys_cmp (drop at ds) (drop at x) (drop at y)
    ≡ ordering_then (directed_cmp (get_or ds at d) (value_at x at) (value_at y at)) (keys_cmp (drop (suc at) ds) (drop (suc at) x) (drop (suc at) y))
keys_from [] at d x y within = absurd (omega (arith, within))
keys_from (e ∷ ds) zero d x y within = refl
keys_from (e ∷ ds) (suc at) d x y within =
    rw (drop_tail at x, drop_tail at y, drop_tail (suc at) x, drop_tail (suc at) y, value_tail at x, value_tail at y)
    (keys_from ds at d (drop 1 x) (drop 1 y) (omega (arith, within)))

ways_length : (directions : List Direction) → length (map direction_of directions) ≡ length directions
ways_length [] = refl
ways_length (d ∷ directions) = ap suc (ways_length directions)

way_at : (directions : List Direction) (at : ℕ) (d : Direction) → get_or (map direction_of directions) at (direction_of d) ≡ direction_of (get_or directions at d)
way_at [] zero d = refl
way_at [] (suc at) d = refl
way_at (e ∷ directions) zero d = refl
way_at (e ∷ directions) (suc at) d = way_at directions at d

-- the same by the program's directions
pub keys_at : (directions : List Direction) (at : ℕ) (d : Direction) (x y : Row) → at < length directions
    → keys_cmp (drop at (map direction_of directions)) (drop at x) (drop at y)
    ≡ ordering_then (directed_cmp (direction_of (get_or directions at d)) (value_at x at) (value_at y at))
    (keys_cmp (drop (at + 1) (map direction_of directions)) (drop (at + 1) x) (drop (at + 1) y))
keys_at directions at d x y within =
    let ways = map direction_of directions in
    let next : suc at ≡ at + 1 = omega arith in
    let long = ways_length directions in
    keys_from ways at (direction_of d) x y (omega (arith, within, long))
    ∙ ap (λ e. ordering_then (directed_cmp e (value_at x at) (value_at y at)) (keys_cmp (drop (suc at) ways) (drop (suc at) x) (drop (suc at) y))) (way_at directions at d)
    ∙ ap (λ n. ordering_then (directed_cmp (direction_of (get_or directions at d)) (value_at x at) (value_at y at)) (keys_cmp (drop n ways) (drop n x) (drop n y))) next

pub some_direction : Direction
some_direction = record { descending = false; nulls_first = false }

drop_past : {X : Type 0} (n : ℕ) (xs : List X) → length xs ≤ n → drop n xs ≡ []
drop_past zero [] all = refl
drop_past zero (x ∷ xs) all = absurd (omega (arith, all))
drop_past (suc n) [] all = refl
drop_past (suc n) (x ∷ xs) all = drop_past n xs (omega (arith, all))

-- behind the last term of ORDER BY rows tie
pub keys_end : (directions : List Direction) (at : ℕ) (x y : Row) → length directions ≤ at
    → Equal ≡ keys_cmp (drop at (map direction_of directions)) (drop at x) (drop at y)
keys_end directions at x y all =
    let long = ways_length directions in
    ap (λ ways. keys_cmp ways (drop at x) (drop at y)) (sym (drop_past at (map direction_of directions) (omega (arith, all, long))))

pub differs_first : (o rest : Ordering) → not (ordering_index o == ordering_index Equal) ≡ true → o ≡ ordering_then o rest
differs_first Less rest e = refl
differs_first Equal rest e = absurd cc
differs_first Greater rest e = refl

pub ties_first : (o rest : Ordering) → not (ordering_index o == ordering_index Equal) ≡ false → ordering_then o rest ≡ rest
ties_first Less rest e = absurd cc
ties_first Equal rest e = refl
ties_first Greater rest e = absurd cc
