-- Each once, where it is first.
use Rattle.std.proofs.Common.{◌≡◌, ◌⊎◌, ◌<◌, ◌+◌, Bool, ℕ, List, ◌∷◌, map, drop, length, get_or, Option, Some, None, Result, Ok, Err, refl, ap, sym, inl, inr, ◌∙◌}
use Rattle.std.proofs.lemmas.List.{at_drop_more}
use Rattle.std.specs.List.{cons_option, filter_map}
use Rattle.values.specs.declared.fault.Fault.{Fault}
use Rattle.values.specs.declared.fault.Fault.TheVariants.{NoMemory}
use Rattle.semantics_names.specs.Places.{place_of}
use Rattle.semantics_names.specs.Statement.{firsts, once_more}
use Rattle.resolver_exprs.specs.places.Transposed.{transposed}

said_none : {T : Type 0} (o : Option (Result T Fault)) → transposed o ≡ Ok None → o ≡ None
said_none None e = refl
said_none (Some (Ok t)) e = absurd cc
said_none (Some (Err fault)) e = absurd cc

said_some : {T : Type 0} (o : Option (Result T Fault)) (t : T) → transposed o ≡ Ok (Some t) → o ≡ Some (Ok t)
said_some None t e = absurd cc
said_some (Some (Ok u)) t e = cc
said_some (Some (Err fault)) t e = absurd cc

said_fault : {T : Type 0} (o : Option (Result T Fault)) (fault : Fault) → transposed o ≡ Err fault → o ≡ Some (Err fault)
said_fault None fault e = absurd cc
said_fault (Some (Ok u)) fault e = absurd cc
said_fault (Some (Err other)) fault e = cc

-- `said` is of each part; and of some, what is found is known already
module _ {P X T : Type 0} (same : T → T → Bool) (tree : P → X) (said : X → Option (Result T Fault)) where
  next : (ps : List P) (i : ℕ) (p : P) (found : List T) (o : Option (Result T Fault)) (all : Result (List T) Fault) → i < length ps
      → p ≡ get_or ps i p → said (tree p) ≡ o → all ≡ firsts same found (filter_map said (map tree (drop i ps)))
      → all ≡ firsts same found (cons_option o (filter_map said (map tree (drop (i + 1) ps))))
  next ps i p found o all lt at is before =
      before
      ∙ at_drop_more (λ qs. firsts same found (filter_map said (map tree qs))) ps i p lt
      ∙ ap (λ q. firsts same found (filter_map said (map tree (q ∷ drop (i + 1) ps)))) (sym at)
      ∙ ap (λ said_of. firsts same found (cons_option said_of (filter_map said (map tree (drop (i + 1) ps))))) is

  -- it is none
  pub is_skipped : (ps : List P) (i : ℕ) (p : P) (found : List T) (all : Result (List T) Fault) → i < length ps
      → p ≡ get_or ps i p → transposed (said (tree p)) ≡ Ok None → all ≡ firsts same found (filter_map said (map tree (drop i ps)))
      → all ≡ firsts same found (filter_map said (map tree (drop (i + 1) ps)))
  is_skipped ps i p found all lt at is before = next ps i p found None all lt at (said_none (said (tree p)) is) before

  -- it is one
  pub is_counted : (ps : List P) (i : ℕ) (p : P) (found : List T) (t : T) (all : Result (List T) Fault) → i < length ps
      → p ≡ get_or ps i p → transposed (said (tree p)) ≡ Ok (Some t) → all ≡ firsts same found (filter_map said (map tree (drop i ps)))
      → all ≡ firsts same (once_more (place_of same t found) found t) (filter_map said (map tree (drop (i + 1) ps)))
  is_counted ps i p found t all lt at is before = next ps i p found (Some (Ok t)) all lt at (said_some (said (tree p)) t is) before

  -- it has a fault
  pub is_refused : (ps : List P) (i : ℕ) (p : P) (found : List T) (fault : Fault) (all : Result (List T) Fault) → i < length ps
      → p ≡ get_or ps i p → (fault ≡ NoMemory) ⊎ (transposed (said (tree p)) ≡ Err fault)
      → all ≡ firsts same found (filter_map said (map tree (drop i ps))) → (fault ≡ NoMemory) ⊎ (all ≡ Err fault)
  is_refused ps i p found fault all lt at (inl empty) before = inl empty
  is_refused ps i p found fault all lt at (inr is) before =
      inr (next ps i p found (Some (Err fault)) all lt at (said_fault (said (tree p)) fault is) before)
