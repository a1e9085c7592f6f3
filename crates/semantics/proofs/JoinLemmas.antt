-- Joins of the same bags are the same bags.
use Rattle.std.proofs.Common.{ℕ, Bool, true, false, not, List, ◌++◌, map, ap, IsPermutation}
use Rattle.std.specs.List.{filter, list_any}
use Rattle.std.proofs.lemmas.List.Elements.{filter_agree}
use Rattle.std.proofs.lemmas.List.Sorted.{IsPermutation-refl, IsPermutation-trans, IsPermutation-append, IsPermutation-map, list_any-IsPermutation}
use Rattle.semantics.specs.Query.{JoinKind}
use Rattle.values.specs.Row.{Row}
use Rattle.semantics.specs.Joins.{alone, join, nulls, pads_left, pads_right, pairs, when}
use Rattle.expr.proofs.BagLemmas.{IsPermutation-filter, IsPermutation-flat_map, IsPermutation-flat_map_each}

module _ (on : Row → Row → Bool) where
  alone-same : (xs xs' ys ys' : List Row) → IsPermutation xs xs' → IsPermutation ys ys' → IsPermutation (alone on xs ys) (alone on xs' ys')
  alone-same xs xs' ys ys' p q =
      rw (filter_agree (λ x. not (list_any (on x) ys)) (λ x. not (list_any (on x) ys')) (λ x. ap not (list_any-IsPermutation (on x) ys ys' q)) xs)
      (IsPermutation-filter (λ x. not (list_any (on x) ys')) xs xs' p)

  pairs-same : (ls ls' rs rs' : List Row) → IsPermutation ls ls' → IsPermutation rs rs' → IsPermutation (pairs on ls rs) (pairs on ls' rs')
  pairs-same ls ls' rs rs' p q =
      IsPermutation-trans _ _ _ (IsPermutation-flat_map (λ l. map (λ r. l ++ r) (filter (on l) rs)) ls ls' p)
      (IsPermutation-flat_map_each (λ l. map (λ r. l ++ r) (filter (on l) rs)) (λ l. map (λ r. l ++ r) (filter (on l) rs'))
      (λ l. IsPermutation-map (λ r. l ++ r) _ _ (IsPermutation-filter (on l) rs rs' q)) ls')

when-same : (b : Bool) (xs ys : List Row) → IsPermutation xs ys → IsPermutation (when b xs) (when b ys)
when-same true xs ys p = p
when-same false xs ys p = IsPermutation-refl _

pub IsPermutation-join : (kind : JoinKind) (m n : ℕ) (on : Row → Row → Bool) (ls ls' rs rs' : List Row)
    → IsPermutation ls ls' → IsPermutation rs rs' → IsPermutation (join kind m n on ls rs) (join kind m n on ls' rs')
IsPermutation-join kind m n on ls ls' rs rs' p q =
    IsPermutation-append _ _ _ _
    (IsPermutation-append _ _ _ _ (pairs-same on ls ls' rs rs' p q)
    (when-same (pads_right kind) _ _ (IsPermutation-map (λ l. l ++ nulls n) _ _ (alone-same on ls ls' rs rs' p q))))
    (when-same (pads_left kind) _ _ (IsPermutation-map (λ r. nulls m ++ r) _ _ (alone-same (λ r l. on l r) rs rs' ls ls' q p)))
