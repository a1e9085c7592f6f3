-- The numbers that bound the turns of the loops over operators, and over SELECTs, are always enough.
use Rattle.std.proofs.Common.{◌≡◌, Option, ℕ, zero, suc, ◌+◌, ◌<◌, ◌≤◌, max, List, Some, None, Ok, Err, cond, leb, refl, sym, ap, ◌∙◌, arith}
use Rattle.std.proofs.lemmas.Bool.{le-leb, lt-leb, le-ltb, lt-ltb, cond-true, cond-false, cases_lt}
use mathlib.Core.Logic.{inl, inr}
use Rattle.sql_reader_grammar.specs.phrases.Outcomes.{Outcome, Read, Refusal, ◌>>=◌, needed, read}
use Rattle.sql_reader_grammar.specs.phrases.Steps.{Rest, after_open}
use Rattle.sql_reader_grammar.proofs.lemmas.phrases.OutcomeLemmas.{bind_ok, bind_same, ok_inj}
use Rattle.sql_reader_syntax.specs.ExprTree.{ExprTree, QueryTree}
use Rattle.sql_reader_syntax.specs.declared.query.CompoundOperator.{CompoundOperator}
use Rattle.sql_reader_grammar.specs.Fronts.{Joint, binds, compound, joint, membership}
use Rattle.sql_reader_grammar.specs.Reading.{Inner, climb, closed, compounded, compounds, extended, extended_at, joined, loosely, members, next_core}

module _ (source : ℕ → ℕ → List ℕ) (inner : Inner) (d : ℕ) where
  -- Operators

  pub climb_stops : (n p : ℕ) (x : Read ExprTree) → binds x.rest < p → climb source inner d n p x ≡ Ok x
  unfolding climb
  climb_stops zero p x h = cond-false _ _ _ (lt-leb p (binds x.rest) h)
  climb_stops (suc n) p x h = cond-false _ _ _ (lt-leb p (binds x.rest) h)

  pub extended_full : (x : Read ExprTree) → d ≤ x.levels → extended source inner d x ≡ Err Refusal.Limit
  unfolding extended
  extended_full x h = cond-false _ _ _ (le-ltb x.levels d h)

  pub extended_room : (x : Read ExprTree) → x.levels < d
      → extended source inner d x ≡ extended_at source inner d x (joint x.rest)
  unfolding extended
  extended_room x h = cond-true _ _ _ (lt-ltb x.levels d h)

  joined_rises : (x y : Read ExprTree) (r : Outcome (Read ExprTree)) → joined source inner d x r ≡ Ok y → x.levels < y.levels
  joined_rises x y r h =
      let a = bind_ok r (λ y. Ok (read y.tree (max (suc x.levels) y.levels) y.rest)) y h in
      let e = ap (λ (r : Read ExprTree). r.levels) (ok_inj (read a.0.tree (max (suc x.levels) a.0.levels) a.0.rest) y a.2) in
      omega (arith, e)

  extended_at_rises : (x y : Read ExprTree) (j : Joint) → extended_at source inner d x j ≡ Ok y → x.levels < y.levels
  unfolding extended_at
  extended_at_rises x y (Joint.Binary op ts) h = joined_rises x y _ h
  extended_at_rises x y (Joint.Between n ts) h = joined_rises x y _ h
  extended_at_rises x y (Joint.In n ts) h =
      let a = bind_ok (needed (after_open ts)) (λ rest. joined source inner d x (closed loosely (members source inner d n x rest (membership rest)))) y h in
      joined_rises x y _ a.2
  extended_at_rises x y (Joint.Postfix op ts) h =
      let a = bind_ok (needed (loosely ts)) (λ rest. Ok (read (ExprTree.Postfix op x.tree) (suc x.levels) rest)) y h in
      let e = ap (λ (r : Read ExprTree). r.levels) (ok_inj (read (ExprTree.Postfix op x.tree) (suc x.levels) a.0) y a.2) in
      omega (arith, e)
  extended_at_rises x y _ h = absurd cc

  pub extended_rises : (x y : Read ExprTree) → extended source inner d x ≡ Ok y → x.levels < y.levels
  extended_rises x y h = elim (cases_lt x.levels d) [
    | inl k ↦ extended_at_rises x y (joint x.rest) (sym (extended_room x k) ∙ h)
    | inr k ↦ absurd (let e = extended_full x k in cc)
  ]

  climb_fuel : (n p : ℕ) (x : Read ExprTree) → d ≤ n + x.levels
      → climb source inner d n p x ≡ climb source inner d (suc n) p x
  unfolding climb
  climb_fuel zero p x h =
      ap (λ e. cond (leb p (binds x.rest)) e (Ok x))
      (sym (ap (λ r. r >>= climb source inner d 0 p) (extended_full x (omega (arith, h)))))
  climb_fuel (suc n) p x h =
      ap (λ e. cond (leb p (binds x.rest)) e (Ok x))
      (bind_same (extended source inner d x) _ _ (λ y k. climb_fuel n p y (omega (arith, h, extended_rises x y k))))

  -- an operator of the level is taken in
  pub climb_step : (n p : ℕ) (x : Read ExprTree) → d ≤ n + x.levels → p ≤ binds x.rest
      → climb source inner d n p x ≡ extended source inner d x >>= climb source inner d n p
  unfolding climb
  climb_step n p x h k = climb_fuel n p x h ∙ cond-true _ _ _ (le-leb p (binds x.rest) k)

  -- SELECTs

  pub compounds_stops : (n : ℕ) (x : Read QueryTree) → compound x.rest ≡ None → compounds source inner d n x ≡ Ok x
  unfolding compounds
  compounds_stops zero x h = ap (next_core source inner d (λ y. Err Refusal.Limit) x) h
  compounds_stops (suc n) x h = ap (next_core source inner d (compounds source inner d n) x) h

  pub compounded_full : (x : Read QueryTree) (o : CompoundOperator × Rest) → d ≤ x.levels
      → compounded source inner d x o ≡ Err Refusal.Limit
  compounded_full x o h = cond-false _ _ _ (le-ltb x.levels d h)

  compounded_rises : (x y : Read QueryTree) (o : CompoundOperator × Rest) → compounded source inner d x o ≡ Ok y
      → x.levels < y.levels
  compounded_rises x y o h = elim (cases_lt x.levels d) [
    | inl k ↦
        let a = bind_ok (inner.core o.1)
        (λ y. Ok (read (QueryTree.Compound x.tree o.0 y.tree) (max (suc x.levels) y.levels) y.rest)) y
        (sym (cond-true _ _ _ (lt-ltb x.levels d k)) ∙ h) in
        let e = ap (λ (r : Read QueryTree). r.levels)
        (ok_inj (read (QueryTree.Compound x.tree o.0 a.0.tree) (max (suc x.levels) a.0.levels) a.0.rest) y a.2) in
        omega (arith, e)
    | inr k ↦ absurd (let e = compounded_full x o k in cc)
  ]

  compounds_fuel : (n : ℕ) (x : Read QueryTree) (c : Option (CompoundOperator × Rest)) → d ≤ n + x.levels
      → compound x.rest ≡ c → compounds source inner d n x ≡ compounds source inner d (suc n) x
  unfolding compounds
  compounds_fuel zero x None h e =
      ap (next_core source inner d (λ y. Err Refusal.Limit) x) e
      ∙ sym (ap (next_core source inner d (compounds source inner d 0) x) e)
  compounds_fuel zero x (Some o) h e =
      ap (next_core source inner d (λ y. Err Refusal.Limit) x) e
      ∙ (ap (λ r. r >>= λ y. Err Refusal.Limit) (compounded_full x o (omega (arith, h)))
      ∙ sym (ap (next_core source inner d (compounds source inner d 0) x) e
      ∙ ap (λ r. r >>= compounds source inner d 0) (compounded_full x o (omega (arith, h)))))
  compounds_fuel (suc n) x None h e =
      ap (next_core source inner d (compounds source inner d n) x) e
      ∙ sym (ap (next_core source inner d (compounds source inner d (suc n)) x) e)
  compounds_fuel (suc n) x (Some o) h e =
      ap (next_core source inner d (compounds source inner d n) x) e
      ∙ (bind_same (compounded source inner d x o) _ _
      (λ y k. compounds_fuel n y (compound y.rest) (omega (arith, h, compounded_rises x y o k)) refl)
      ∙ sym (ap (next_core source inner d (compounds source inner d (suc n)) x) e))

  -- a SELECT more
  pub compounds_step : (n : ℕ) (x : Read QueryTree) (o : CompoundOperator × Rest) → d ≤ n + x.levels
      → compound x.rest ≡ Some o
      → compounds source inner d n x ≡ compounded source inner d x o >>= compounds source inner d n
  unfolding compounds
  compounds_step n x o h e =
      compounds_fuel n x (Some o) h e ∙ ap (next_core source inner d (compounds source inner d n) x) e
