use Rattle.std.proofs.Common.{◌<◌, ◌≤◌, ◌⊎◌, ◌+◌, ◌++◌, ◌∷◌, [], ℕ, Contains, List, inl, inr, sym, subst, arith}
use Rattle.std.proofs.lemmas.Bool.{cases_lt}
use Rattle.std.proofs.lemmas.List.Elements.{Contains-append_left, Contains-push}
use Rattle.expr.proofs.value_sets.order.places.Goals as goal

one_more : (places : List ℕ) (count : ℕ) → ((at : ℕ) → at < count → Contains places at) → (at : ℕ) → at < count + 1 → (at < count) ⊎ (count ≤ at) → Contains (places ++ count ∷ []) at
one_more places count held at inside (inl before) = Contains-append_left places (count ∷ []) at (held at before)
one_more places count held at inside (inr last) =
    subst (λ n. Contains (places ++ count ∷ []) n) (omega (arith, inside, last)) (Contains-push places count)

pub loop-at-preserved : goal.loop-at-preserved
loop-at-preserved c =
    let places = c.loop-at.places.items in
    let at = c.loop-at.at in
    λ n low. subst (λ items. Contains items n) (sym c.in_ok-push.ensures.items) (one_more places at c.loop-at.invariant n low (cases_lt n at))
