-- Rows, compared by their values place by place.
use Rattle.std.proofs.Common.{◌≡◌, ◌∙◌, ◌+◌, ◌<◌, ◌≤◌, true, false, not, ℕ, zero, suc, Ordering, Less, Equal, Greater, List, [], ◌∷◌, drop, get_or, length, refl, sym, ap, arith}
use Rattle.std.specs.Bool.{◌==◌}
use Rattle.std.specs.Ordering.{ordering_index, ordering_then}
use Rattle.values.specs.Row.{Row}
use Rattle.semantics.specs.Sequence.{directed_cmp, keys_cmp, value_at}
use Rattle.resolver_terms.specs.SelectView.{direction_of}
use Rattle.windows_groups.specs.Keys.{directions, key_values}
use Rattle.windows_groups.specs.declared.order.ResultKey.{ResultKey}

keys_from : (order : List ResultKey) (at : ℕ) (key : ResultKey) (x y : Row) → at < length order
    → keys_cmp (drop at (directions order)) (drop at (key_values order x)) (drop at (key_values order y))
    ≡ ordering_then (directed_cmp (direction_of (get_or order at key).direction) (value_at x (get_or order at key).at) (value_at y (get_or order at key).at))
    (keys_cmp (drop (suc at) (directions order)) (drop (suc at) (key_values order x)) (drop (suc at) (key_values order y)))
keys_from [] at key x y within = absurd (omega (arith, within))
keys_from (k ∷ order) zero key x y within = refl
keys_from (k ∷ order) (suc at) key x y within = keys_from order at key x y (omega (arith, within))

-- the keys from a place on differ there or behind it
pub keys_at : (order : List ResultKey) (at : ℕ) (key : ResultKey) (x y : Row) → at < length order
    → keys_cmp (drop at (directions order)) (drop at (key_values order x)) (drop at (key_values order y))
    ≡ ordering_then (directed_cmp (direction_of (get_or order at key).direction) (value_at x (get_or order at key).at) (value_at y (get_or order at key).at))
    (keys_cmp (drop (at + 1) (directions order)) (drop (at + 1) (key_values order x)) (drop (at + 1) (key_values order y)))
keys_at order at key x y within =
    let next : suc at ≡ at + 1 = omega arith in
    keys_from order at key x y within
    ∙ ap (λ n. ordering_then (directed_cmp (direction_of (get_or order at key).direction) (value_at x (get_or order at key).at) (value_at y (get_or order at key).at))
    (keys_cmp (drop n (directions order)) (drop n (key_values order x)) (drop n (key_values order y)))) next

ways_length : (order : List ResultKey) → length (directions order) ≡ length order
ways_length [] = refl
ways_length (key ∷ order) = ap suc (ways_length order)

drop_past : {X : Type 0} (n : ℕ) (xs : List X) → length xs ≤ n → drop n xs ≡ []
drop_past zero [] all = refl
drop_past zero (x ∷ xs) all = absurd (omega (arith, all))
drop_past (suc n) [] all = refl
drop_past (suc n) (x ∷ xs) all = drop_past n xs (omega (arith, all))

-- behind the last value of ORDER BY rows tie
pub keys_end : (order : List ResultKey) (at : ℕ) (x y : Row) → length order ≤ at
    → Equal ≡ keys_cmp (drop at (directions order)) (drop at (key_values order x)) (drop at (key_values order y))
keys_end order at x y all =
    let long = ways_length order in
    ap (λ ways. keys_cmp ways (drop at (key_values order x)) (drop at (key_values order y))) (sym (drop_past at (directions order) (omega (arith, all, long))))

pub differs_first : (o rest : Ordering) → not (ordering_index o == ordering_index Equal) ≡ true → o ≡ ordering_then o rest
differs_first Less rest e = refl
differs_first Equal rest e = absurd cc
differs_first Greater rest e = refl

pub ties_first : (o rest : Ordering) → not (ordering_index o == ordering_index Equal) ≡ false → ordering_then o rest ≡ rest
ties_first Less rest e = absurd cc
ties_first Equal rest e = refl
ties_first Greater rest e = absurd cc
