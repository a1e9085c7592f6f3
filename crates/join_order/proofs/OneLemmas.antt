-- There is one least order at most, and a walk over all orders shows it.
use Rattle.std.proofs.Common.{◌≡◌, ℕ, List, [], ◌∷◌, false, inl, inr, refl, sym, ap, ◌∙◌, arith, subst, None, Some}
use Rattle.std.specs.Ordering.{is_gt, nat_cmp, ordering_reverse, ordering_then}
use Rattle.std.proofs.lemmas.Cmp.{nat_cmp_total}
use Rattle.std.specs.Cmp.Lexicographic.{slice_cmp}
use Rattle.std.specs.declared.cmp.Ordering.{Ordering}
use Rattle.std.specs.declared.cmp.Ordering.TheVariants.{Less, Equal, Greater}
use Rattle.std.proofs.lemmas.Bool.Decides.{nat_tests}
use Rattle.join_order.specs.Orders.{IsLeastOrder, IsTakenBefore, OneLeastOrder}
use Rattle.join_order.specs.Cost.{Prices}
use Rattle.join_order.specs.Examples.{WorkedChain, chain_price}
use Rattle.join_order.specs.Walk.{keep_all, ways}
use Rattle.join_order.proofs.LeastLemmas.{AtMost, least-kept}
use Rattle.join_order.proofs.WayLemmas.{order-is-way, way-is-order, ways-ascend}

nat_same : (x y : ℕ) → nat_cmp x y ≡ Equal → x ≡ y
nat_same x y h = grind (arith, nat_tests)

-- orders neither of which has greater places are one
same_places : (xs ys : List ℕ) → AtMost xs ys → AtMost ys xs → xs ≡ ys
same_places [] [] a b = refl
same_places [] (y ∷ ys) a b = cc
same_places (x ∷ xs) [] a b = cc
same_places (x ∷ xs) (y ∷ ys) a b = by-first (nat_cmp x y) (nat_cmp y x) refl refl (nat_cmp_total.antisymm y x) (same_places xs ys) a b
  where
    by-first : (o p : Ordering) → nat_cmp x y ≡ o → nat_cmp y x ≡ p → nat_cmp y x ≡ ordering_reverse (nat_cmp x y) → (AtMost xs ys → AtMost ys xs → xs ≡ ys)
        → is_gt (ordering_then o (slice_cmp nat_cmp xs ys)) ≡ false → is_gt (ordering_then p (slice_cmp nat_cmp ys xs)) ≡ false → x ∷ xs ≡ y ∷ ys
    by-first Less p e f turned again a b =
        let greater : p ≡ Greater = sym f ∙ turned ∙ ap ordering_reverse e in
        let no = subst (λ q. is_gt (ordering_then q (slice_cmp nat_cmp ys xs)) ≡ false) greater b in
        cc
    by-first Equal p e f turned again a b =
        let equal : p ≡ Equal = sym f ∙ turned ∙ ap ordering_reverse e in
        let back : AtMost ys xs = subst (λ q. is_gt (ordering_then q (slice_cmp nat_cmp ys xs)) ≡ false) equal b in
        ap (λ n. n ∷ xs) (nat_same x y e) ∙ ap (λ ns. y ∷ ns) (again a back)
    by-first Greater p e f turned again a b = cc

pub one_least_order : OneLeastOrder
one_least_order price count places others one other = by-cost (one.least others other.order) (other.least places one.order)
  where
    by-cost : IsTakenBefore price places others → IsTakenBefore price others places → places ≡ others
    by-cost (inl few) (inl more) = absurd (omega (arith, few, more))
    by-cost (inl few) (inr many) = absurd (omega (arith, few, many.0))
    by-cost (inr many) (inl more) = absurd (omega (arith, more, many.0))
    by-cost (inr (many, inl less)) (inr (also, inl more)) = absurd (omega (arith, less, more))
    by-cost (inr (many, inl less)) (inr (also, inr same)) = absurd (omega (arith, less, same.0))
    by-cost (inr (many, inr same)) (inr (also, inl more)) = absurd (omega (arith, more, same.0))
    by-cost (inr (many, inr same)) (inr (also, inr back)) = same_places places others same.1 back.1

-- what a walk over all orders keeps is the least
pub walked-least : (price : Prices) (count : ℕ) (places : List ℕ) → keep_all price None (ways count count []) ≡ Some places → IsLeastOrder price count places
walked-least price count places kept =
    let h = least-kept price (ways count count []) places (ways-ascend count count []) kept in
    record { order = way-is-order count places h.0; least = λ others is. h.1 others (order-is-way count others is) }

pub worked_chain : WorkedChain
worked_chain = (refl, refl, refl, refl, walked-least chain_price 3 (0 ∷ 1 ∷ 2 ∷ []) refl)
