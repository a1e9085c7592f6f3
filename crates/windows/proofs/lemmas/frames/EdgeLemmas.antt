-- Keys compared with keys that are moved along the order.
use Rattle.std.proofs.Common.{◌≡◌, ◌+ℤ◌, ◌-ℤ◌, Bool, true, false, ℤ, Ordering, Less, Equal, Greater, List, [], ◌∷◌, drop, map, if◌then◌else◌, refl, sym, ap, Some, slice_get}
use Rattle.std.specs.Ordering.{int_cmp, nat_cmp, ordering_then}
use Rattle.expr.specs.operations.Operations.{is_null}
use Rattle.values.specs.Datum.{Datum, datum_of, null, int, text, blob}
use Rattle.values.specs.Order.{datum_cmp}
use Rattle.values.specs.declared.value.Value.{Value}
use Rattle.values.specs.declared.value.Value.TheVariants.{Null, Int, Text, Blob}
use Rattle.values.specs.Row.{Row}
use Rattle.semantics.specs.Query.{Direction}
use Rattle.semantics.specs.Sequence.{along, directed_cmp, keys_cmp, null_rank, value_at}
use Rattle.resolver_terms.specs.SelectView.{direction_of}
use Rattle.sql_reader_syntax.specs.declared.query.Direction.{Direction as Way}
use Rattle.semantics.specs.Windows.{edge_key, moved}

pub numbers : (b : Bool) (d : Direction) (m n by : ℤ) → d.descending ≡ b
    → (if b then int_cmp (n -ℤ by) m else int_cmp m (n +ℤ by)) ≡ directed_cmp d (int m) (moved b by (int n))
unfolding is_null
numbers true d m n by is = sym (ap (λ b. along b datum_cmp (int m) (int (n -ℤ by))) is)
numbers false d m n by is = sym (ap (λ b. along b datum_cmp (int m) (int (n +ℤ by))) is)

-- which number it is makes no difference to what isn't one
abbrev IsOther : Datum → Type 0
IsOther null = Unit {0}
IsOther (int n) = ⊥
IsOther (text s) = Unit {0}
IsOther (blob s) = Unit {0}

along-other : (b : Bool) (v : Datum) (m n : ℤ) → IsOther v → along b datum_cmp v (int m) ≡ along b datum_cmp v (int n)
along-other true null m n is = refl
along-other false null m n is = refl
along-other b (int k) m n is = absurd is
along-other true (text s) m n is = refl
along-other false (text s) m n is = refl
along-other true (blob s) m n is = refl
along-other false (blob s) m n is = refl

pub other_moved : (d : Direction) (v : Datum) (n by : ℤ) → ((k : ℤ) → v ≡ int k → ⊥) → directed_cmp d v (int n) ≡ directed_cmp d v (moved d.descending by (int n))
unfolding is_null
other_moved d null n by not = ap (ordering_then (nat_cmp (null_rank d.nulls_first null) 1)) (along-other d.descending null n _ tt)
other_moved d (int k) n by not = absurd (not k refl)
other_moved d (text s) n by not = along-other d.descending (text s) n _ tt
other_moved d (blob s) n by not = along-other d.descending (blob s) n _ tt

-- what isn't a number stays
pub stays : (b : Bool) (v : Datum) (by : ℤ) → ((k : ℤ) → v ≡ int k → ⊥) → moved b by v ≡ v
stays b null by not = refl
stays b (int k) by not = absurd (not k refl)
stays b (text s) by not = refl
stays b (blob s) by not = refl

pub to_edge : (directions : List Way) (d : Way) (by : ℤ) (x y : Row) → Some d ≡ slice_get directions 0
    → keys_cmp (map direction_of directions) x (edge_key (map direction_of directions) by y)
    ≡ ordering_then (directed_cmp (direction_of d) (value_at x 0) (moved d.descending by (value_at y 0))) (keys_cmp (drop 1 (map direction_of directions)) (drop 1 x) (drop 1 y))
to_edge [] d by x y is = absurd (cc)
to_edge (e ∷ directions) d by x [] is =
    let same : d ≡ e = cc in
    (λ i. ordering_then (directed_cmp (direction_of (sym same i)) (value_at x 0) null) (keys_cmp (map direction_of directions) (drop 1 x) []))
to_edge (e ∷ directions) d by x (v ∷ y) is =
    let same : d ≡ e = cc in
    (λ i. ordering_then (directed_cmp (direction_of (sym same i)) (value_at x 0) (moved (sym same i).descending by v)) (keys_cmp (map direction_of directions) (drop 1 x) y))

pub not_int : (v : Value) → ((n : ℤ) → v ≡ Int n → ⊥) → (k : ℤ) → datum_of v ≡ int k → ⊥
not_int Null not k e = cc
not_int (Int n) not k e = not n refl
not_int (Text s) not k e = cc
not_int (Blob s) not k e = cc

pub differs_first : (o p : Ordering) → (o ≡ Equal → ⊥) → o ≡ ordering_then o p
differs_first Less p not = refl
differs_first Equal p not = absurd (not refl)
differs_first Greater p not = refl
