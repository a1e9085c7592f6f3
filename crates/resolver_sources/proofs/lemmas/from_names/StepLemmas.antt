-- One step after another, up to the first fault.
use Rattle.std.proofs.Common.{◌≡◌, ◌⊎◌, ◌<◌, ◌≤◌, ◌+◌, ℕ, List, [], ◌∷◌, map, drop, length, get_or, Result, Ok, Err, ap, sym, inl, inr, ◌∙◌}
use Rattle.std.proofs.lemmas.List.{at_drop_all, at_drop_more}
use Rattle.values.specs.declared.fault.Fault.{Fault}
use Rattle.values.specs.declared.fault.Fault.TheVariants.{NoMemory}
use Rattle.resolver_sources.specs.from_names.Steps.{stepped}

module _ {S X : Type 0} (step : S → X → Result S Fault) where
  pub ends : (xs : List X) (r : Result S Fault) (fault : Fault) → r ≡ Err fault → stepped step r xs ≡ Err fault
  ends [] r fault e = e
  ends (x ∷ xs) (Err other) fault e = ends xs (Err other) fault e
  ends (x ∷ xs) (Ok s) fault e = absurd cc

  -- `tree` is what an item of the program is; `all` is what the steps come to, of which those before this place are done
  module _ {Y : Type 0} (tree : Y → X) (ys : List Y) (i : ℕ) (y : Y) (s : S) (all : Result S Fault) (lt : i < length ys) (at : y ≡ get_or ys i y)
      (before : all ≡ stepped step (Ok s) (map tree (drop i ys))) where
    next : all ≡ stepped step (step s (tree y)) (map tree (drop (i + 1) ys))
    next =
        before ∙ at_drop_more (λ zs. stepped step (Ok s) (map tree zs)) ys i y lt
        ∙ ap (λ z. stepped step (step s (tree z)) (map tree (drop (i + 1) ys))) (sym at)

    -- one step is done
    pub goes_on : (more : S) → step s (tree y) ≡ Ok more → all ≡ stepped step (Ok more) (map tree (drop (i + 1) ys))
    goes_on more is = next ∙ ap (λ r. stepped step r (map tree (drop (i + 1) ys))) is

    -- it is refused
    pub is_refused : (fault : Fault) → (fault ≡ NoMemory) ⊎ (step s (tree y) ≡ Err fault) → (fault ≡ NoMemory) ⊎ (all ≡ Err fault)
    is_refused fault (inl empty) = inl empty
    is_refused fault (inr is) = inr (next ∙ ends (map tree (drop (i + 1) ys)) (step s (tree y)) fault is)

  -- all are done
  pub is_done : {Y : Type 0} (tree : Y → X) (ys : List Y) (i : ℕ) (s : S) (all : Result S Fault) → length ys ≤ i
      → all ≡ stepped step (Ok s) (map tree (drop i ys)) → all ≡ Ok s
  is_done tree ys i s all past before = before ∙ at_drop_all (λ zs. stepped step (Ok s) (map tree zs)) ys i past
