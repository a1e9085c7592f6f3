-- What an expression is, by what its place says of it.
use Rattle.std.proofs.Common.{◌≡◌, ◌⊎◌, Option, Some, None, Result, Ok, Err, refl, ap, sym, subst, inl, inr, ◌∙◌}
use Rattle.values.specs.declared.fault.Fault.{Fault}
use Rattle.values.specs.declared.fault.Fault.TheVariants.{NoMemory}
use Rattle.expr.specs.Term.{Term}
use Rattle.sql_reader_syntax.specs.ExprTree.{ExprTree}
use Rattle.semantics_names.specs.Expression.{Answers, Says, term_of}
use Rattle.semantics_names.specs.Outcome.{chosen}
use Rattle.resolver_terms.specs.Outcome.{Gives}
use Rattle.resolver_exprs.specs.expression_names.Parts.{of_parts}

module _ (answers : Answers) (says : Says) where
  pub asked : (e : ExprTree) → term_of answers says e ≡ chosen (says e) (of_parts answers says e)
  asked ExprTree.Null = refl
  asked (ExprTree.Number z) = refl
  asked (ExprTree.Text content) = refl
  asked (ExprTree.Blob bytes) = refl
  asked (ExprTree.Column table name) = refl
  asked (ExprTree.Prefix op x) = refl
  asked (ExprTree.Binary op x y) = refl
  asked (ExprTree.Postfix op x) = refl
  asked (ExprTree.Between not x low high) = refl
  asked (ExprTree.In not x items) = refl
  asked (ExprTree.InQuery not x query) = refl
  asked (ExprTree.Exists query) = refl
  asked (ExprTree.CountRows after) = refl
  asked (ExprTree.Call function items after) = refl
  asked (ExprTree.Case operand rest otherwise) = refl

  chosen_is : (e : ExprTree) (said : Result (Option Term) Fault) → says e ≡ said → term_of answers says e ≡ chosen said (of_parts answers says e)
  chosen_is e said is = asked e ∙ ap (λ s. chosen s (of_parts answers says e)) is

  -- the place says why it may not stand there
  pub says_fault : (e : ExprTree) (fault : Fault) → (fault ≡ NoMemory) ⊎ (says e ≡ Err fault) → (fault ≡ NoMemory) ⊎ (term_of answers says e ≡ Err fault)
  says_fault e fault (inl none) = inl none
  says_fault e fault (inr is) = inr (chosen_is e (Err fault) is)

  -- the place says which term it is
  pub says_term : (e : ExprTree) (t : Term) → says e ≡ Ok (Some t) → term_of answers says e ≡ Ok t
  says_term e t is = chosen_is e (Ok (Some t)) is

  -- the place says nothing
  pub says_nothing : {A : Type 0} (view : A → Term) (r : Result A Fault) (e : ExprTree) → says e ≡ Ok None
      → Gives view r (of_parts answers says e) → Gives view r (term_of answers says e)
  says_nothing view r e is gives = subst (Gives view r) (sym (chosen_is e (Ok None) is)) gives
