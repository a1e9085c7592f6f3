-- The windows of a SELECT, the calls over them, and what is computed with both.
use Rattle.std.proofs.Common.{◌≡◌, ◌⊎◌, Bool, true, Result, Ok, Err, ap, inl, inr, ◌∙◌}
use Rattle.values.specs.declared.fault.Fault.{Fault}
use Rattle.values.specs.declared.fault.Fault.TheVariants.{NoMemory}
use Rattle.semantics_names.specs.Outcome.{checked, followed}

module _ {A B C : Type 0} (kept : Bool) (broken : Fault) (first : Result A Fault) (second : A → Result B Fault) (third : A → B → Result C Fault)
    (a : A) (keeps : kept ≡ true) (is : first ≡ Ok a) where
  after : checked kept broken (followed first (λ x. followed (second x) (third x))) ≡ followed (second a) (third a)
  after =
      ap (λ k. checked k broken (followed first (λ x. followed (second x) (third x)))) keeps
      ∙ ap (λ r. followed r (λ x. followed (second x) (third x))) is

  -- the second step is refused
  pub ends : (fault : Fault) → (fault ≡ NoMemory) ⊎ (second a ≡ Err fault)
      → (fault ≡ NoMemory) ⊎ (checked kept broken (followed first (λ x. followed (second x) (third x))) ≡ Err fault)
  ends fault (inl empty) = inl empty
  ends fault (inr fails) = inr (after ∙ ap (λ r. followed r (third a)) fails)

  -- it is done
  pub goes_on : (b : B) → second a ≡ Ok b → checked kept broken (followed first (λ x. followed (second x) (third x))) ≡ third a b
  goes_on b done = after ∙ ap (λ r. followed r (third a)) done
