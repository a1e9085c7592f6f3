-- A statement's query, where what stands beside it has types.
use Rattle.std.proofs.Common.{◌≡◌, ◌⊎◌, List, Result, Ok, Err, refl, ap, inl, inr, ◌∙◌}
use Rattle.values.specs.declared.fault.Fault.{Fault}
use Rattle.values.specs.declared.fault.Fault.TheVariants.{NoMemory}
use Rattle.values.specs.declared.value.Ty.{Ty}
use Rattle.semantics.specs.Query.{Body}
use Rattle.semantics_names.specs.Outcome.{also, each, followed}
use Rattle.semantics_names.specs.Statement.{Named}
use Rattle.semantics_names.specs.Typed.{with_types}
use Rattle.semantics_names.specs.Types.{body_types, query_types}
use Rattle.resolver_types.specs.term_types.Passed.{passed}

behind_passed : {A B : Type 0} (r : Result A Fault) (s : Result B Fault) → passed r ≡ Ok tt → followed r (λ a. s) ≡ s
behind_passed (Ok a) s e = refl
behind_passed (Err fault) s e = absurd cc

module _ (tables : List (List Ty)) (named : Named) (beside : List Body) (same : named.beside ≡ beside)
    (typed : passed (each (body_types tables) beside) ≡ Ok tt) where
  query_alone : with_types tables named ≡ also (λ _. named) (query_types tables named.query)
  query_alone =
      ap (λ bodies. followed (each (body_types tables) bodies) (λ _. also (λ _. named) (query_types tables named.query))) same
      ∙ behind_passed (each (body_types tables) beside) (also (λ _. named) (query_types tables named.query)) typed

  -- the query is refused
  pub query_refused : (fault : Fault) → (fault ≡ NoMemory) ⊎ (query_types tables named.query ≡ Err fault)
      → (fault ≡ NoMemory) ⊎ (with_types tables named ≡ Err fault)
  query_refused fault (inl empty) = inl empty
  query_refused fault (inr is) = inr (query_alone ∙ ap (also (λ _. named)) is)

  -- it is taken
  pub query_taken : (types : List Ty) → query_types tables named.query ≡ Ok types → with_types tables named ≡ Ok named
  query_taken types is = query_alone ∙ ap (also (λ _. named)) is
