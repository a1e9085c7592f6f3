-- The orders of keys and of sequences are total, and in a sequence only equal rows tie.
use Rattle.std.proofs.Common.{◌≡◌, Bool, true, false, Ordering, Less, Equal, Greater, List, [], ◌∷◌, drop, refl, sym, ◌∙◌, IsPermutation}
use Rattle.std.specs.Cmp.{IsTotalOrder}
use Rattle.std.specs.FinMap.{IsAntisymmetric}
use Rattle.std.specs.Ordering.{is_lt, ordering_then}
use Rattle.std.proofs.lemmas.Cmp.{nat_cmp_total, then_total, on_total, back_total}
use Rattle.std.proofs.lemmas.List.Sorted.{ranks_by}
use Rattle.values.specs.Datum.{Datum}
use Rattle.values.specs.Order.{datum_cmp}
use Rattle.values.specs.OrderLaws.{datum_cmp_total, datum_cmp-IsAntisymmetric, row_cmp_total, row_cmp-IsAntisymmetric}
use Rattle.semantics.specs.Query.{Direction, SortTerm}
use Rattle.values.specs.Row.{Row}
use Rattle.semantics.specs.Sequence.{value_at, null_rank, along, directed_cmp, keys_cmp, sorted}
use Rattle.semantics.specs.Valuation.{Valuation}
use Rattle.semantics.specs.Windows.{directions, sort_values, sequence_cmp, sequence, SequenceIsOne}
use Rattle.semantics.proofs.OrderLemmas.{ascending-itself, ascending-one}

along_total : (descending : Bool) → IsTotalOrder (along descending datum_cmp)
along_total true = back_total datum_cmp_total
along_total false = datum_cmp_total

directed_cmp_total : (d : Direction) → IsTotalOrder (directed_cmp d)
directed_cmp_total d = then_total (on_total (null_rank d.nulls_first) nat_cmp_total) (along_total d.descending)

pub keys_cmp_total : (ds : List Direction) → IsTotalOrder (keys_cmp ds)
keys_cmp_total [] = record { antisymm = λ x y. refl; trans = λ x y z p q. p; congr = λ x y z p. refl }
keys_cmp_total (d ∷ ds) =
    then_total (on_total (λ row. value_at row 0) (directed_cmp_total d)) (on_total (drop 1) (keys_cmp_total ds))

pub sequence_total : (value : Valuation) (order : List SortTerm) → IsTotalOrder (sequence_cmp value order)
sequence_total value order = then_total (on_total (sort_values value order) (keys_cmp_total (directions order))) row_cmp_total

second : (a b : Ordering) → ordering_then a b ≡ Equal → b ≡ Equal
second Less b e = cc
second Equal b e = e
second Greater b e = cc

sequence-IsAntisymmetric : (value : Valuation) (order : List SortTerm) → IsAntisymmetric (sequence_cmp value order)
sequence-IsAntisymmetric value order x y e = row_cmp-IsAntisymmetric x y (second _ _ e)

module _ {X : Type 0} (cmp : X → X → Ordering) (total : IsTotalOrder cmp) (only : IsAntisymmetric cmp) where
  tied : (x y : X) → is_lt (cmp x y) ≡ false → is_lt (cmp y x) ≡ false → x ≡ y
  tied x y fits back = go (cmp x y) refl
    where
      go : (o : Ordering) → cmp x y ≡ o → x ≡ y
      go Less e = let h = rw e at fits in cc
      go Equal e = only x y e
      go Greater e = let h = rw (total.antisymm y x, e) at back in cc

  -- one bag has one sorted list
  pub sorted-one : (xs ys : List X) → IsPermutation xs ys → sorted cmp xs ≡ sorted cmp ys
  sorted-one = ascending-one (λ x y. is_lt (cmp x y)) (ranks_by total (λ (x : X). x)) tied

pub sequence-one : (value : Valuation) (order : List SortTerm) (xs ys : List Row) → IsPermutation xs ys → sequence value order xs ≡ sequence value order ys
sequence-one value order = sorted-one (sequence_cmp value order) (sequence_total value order) (sequence-IsAntisymmetric value order)

pub values-one : (xs ys : List Datum) → IsPermutation xs ys → sorted datum_cmp xs ≡ sorted datum_cmp ys
values-one = sorted-one datum_cmp datum_cmp_total datum_cmp-IsAntisymmetric

pub sequence_is_one : SequenceIsOne
sequence_is_one value order rows others same up =
    sym (sequence-one value order rows others same
    ∙ ascending-itself (λ x y. is_lt (sequence_cmp value order x y)) (ranks_by (sequence_total value order) (λ (row : Row). row)) others up)
