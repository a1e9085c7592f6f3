-- A term that an expression is names columns and answers that there are.
use Rattle.std.proofs.Common.{Bool, true, false, ℕ, ◌<◌, List, [], ◌∷◌, map, Option, Some, None, Result, Ok, Err, ◌≡◌, subst, sym}
use Rattle.values.specs.declared.fault.Fault.TheVariants.{WrongPlace}
use Rattle.expr.specs.Term.{Term, column}
use Rattle.expr.specs.View.{arms, terms}
use Rattle.expr.specs.declared.operations.kinds.Function.{Function}
use Rattle.sql_reader_syntax.specs.ExprTree.{ArmTrees, BehindTree, ExprTree, ExprTrees, MaybeExpr, OverTree}
use Rattle.sql_reader_syntax.specs.declared.expr.BinaryOperator.{BinaryOperator}
use Rattle.sql_reader_syntax.specs.declared.expr.BinaryOperator.TheVariants as b
use Rattle.sql_reader_syntax.specs.declared.expr.Function as written
use Rattle.sql_reader_syntax.specs.declared.expr.Function.TheVariants as w
use Rattle.sql_reader_syntax.specs.declared.expr.PostfixOperator.{PostfixOperator}
use Rattle.sql_reader_syntax.specs.declared.expr.PostfixOperator.TheVariants as s
use Rattle.sql_reader_syntax.specs.declared.expr.PrefixOperator.{PrefixOperator}
use Rattle.sql_reader_syntax.specs.declared.expr.PrefixOperator.TheVariants as p
use Rattle.semantics_names.specs.Expression.{Answers, InnerTree, Says, among_answer, among_items, arms_of, between_bounds, binary, called, case, exists, negated, operand_of, otherwise_of, postfix, prefix, scalar, several, term_of, terms_of, unary, unary_of}
use Rattle.semantics_names.specs.Outcome.{both}
use Rattle.semantics_names.specs.Scope.{bare_term}
use Rattle.semantics_refusals.proofs.ClashLemmas.{AreWithin, ArmsAreWithin, IsWithin}
use Rattle.semantics_refusals.proofs.HandsLemmas.{Hands, IfAny, also_hands, both_hands, chosen_hands, followed_hands, no_hands}
use Rattle.semantics_refusals.proofs.PartLemmas.{Each, first, more, none, rest}

-- it is one of the columns of a row of so many, or the first of some that isn't NULL
pub record IsOfColumns (width : ℕ) (t : Term) : Type 0 where
  pub places : List ℕ
  pub is : t ≡ bare_term places
  pub within : Each (λ at. at < width) places

module _ (count width : ℕ) where
  columns_within : (places : List ℕ) → Each (λ at. at < width) places → AreWithin count width (terms (map column places))
  columns_within [] all = tt
  columns_within (at ∷ places) all = (first all, columns_within places (rest all))

  pub bare_within : (places : List ℕ) → Each (λ at. at < width) places → IsWithin count width (bare_term places)
  bare_within [] all = tt
  bare_within (at ∷ []) all = first all
  bare_within (at ∷ other ∷ places) all = columns_within (at ∷ other ∷ places) all

  pub of_columns : (t : Term) → IsOfColumns width t → IsWithin count width t
  of_columns t h = subst (IsWithin count width) (sym h.is) (bare_within h.places h.within)

  all_within : (ts : List Term) → Each (IsWithin count width) ts → AreWithin count width (terms ts)
  all_within [] all = tt
  all_within (t ∷ ts) all = (first all, all_within ts (rest all))

  negated_within : (not : Bool) (t : Term) → IsWithin count width t → IsWithin count width (negated not t)
  negated_within true t h = h
  negated_within false t h = h

  prefix_within : (op : PrefixOperator) (t : Term) → IsWithin count width t → IsWithin count width (prefix op t)
  prefix_within p.Not t h = h
  prefix_within p.Minus t h = h
  prefix_within p.Plus t h = h
  prefix_within p.BitNot t h = h

  postfix_within : (op : PostfixOperator) (t : Term) → IsWithin count width t → IsWithin count width (postfix op t)
  postfix_within s.IsNull t h = (h, tt)
  postfix_within s.NotNull t h = (h, tt)

  binary_within : (op : BinaryOperator) (x y : Term) → IsWithin count width x → IsWithin count width y → IsWithin count width (binary op x y)
  binary_within b.Or x y h k = (h, k)
  binary_within b.And x y h k = (h, k)
  binary_within b.Equal x y h k = (h, k)
  binary_within b.NotEqual x y h k = (h, k)
  binary_within b.Is x y h k = (h, k)
  binary_within b.IsNot x y h k = (h, k)
  binary_within b.Like x y h k = (h, k)
  binary_within b.NotLike x y h k = (h, k)
  binary_within b.Less x y h k = (h, k)
  binary_within b.LessEqual x y h k = (h, k)
  binary_within b.Greater x y h k = (h, k)
  binary_within b.GreaterEqual x y h k = (h, k)
  binary_within b.BitAnd x y h k = (h, k)
  binary_within b.BitOr x y h k = (h, k)
  binary_within b.Add x y h k = (h, k)
  binary_within b.Subtract x y h k = (h, k)
  binary_within b.Multiply x y h k = (h, k)
  binary_within b.Divide x y h k = (h, k)
  binary_within b.Remainder x y h k = (h, k)
  binary_within b.Concatenate x y h k = (h, k)

  -- an arm of a CASE
  pub record IsArmWithin (arm : Term × Term) : Type 0 where
    pub condition : IsWithin count width arm.0
    pub value : IsWithin count width arm.1

  arms_within : (rest_of : List (Term × Term)) → Each IsArmWithin rest_of → ArmsAreWithin count width (arms rest_of)
  arms_within [] all = tt
  arms_within (a ∷ others) all = ((first all).condition, (first all).value, arms_within others (rest all))

  case_within : (x : Option Term) (others : List (Term × Term)) (e : Term) → IfAny (IsWithin count width) x → Each IsArmWithin others
      → IsWithin count width e → IsWithin count width (case x others e)
  case_within None others e h all k = (arms_within others all, k)
  case_within (Some x) others e h all k = (h.is, arms_within others all, k)

  -- ---- functions

  unary_within : (function : Function) (items : List Term) → Each (IsWithin count width) items
      → Hands (IsWithin count width) (unary function items)
  unary_within function [] all = no_hands WrongPlace
  unary_within function (x ∷ []) all = record { is = first all }
  unary_within function (x ∷ y ∷ items) all = no_hands WrongPlace

  several_within : (name : written.Function) (items : List Term) → Each (IsWithin count width) items
      → Hands (IsWithin count width) (several name items)
  several_within w.Coalesce items all = record { is = all_within items all }
  several_within w.IfNull (x ∷ y ∷ []) all = record { is = (first all, (first (rest all), tt)) }
  several_within w.NullIf (x ∷ y ∷ []) all = record { is = (first all, first (rest all)) }
  several_within w.Iif (x ∷ y ∷ z ∷ []) all = record { is = ((first all, first (rest all), tt), first (rest (rest all))) }
  several_within _ items all = no_hands WrongPlace

  scalar_within : (function : Option Function) (name : written.Function) (items : List Term) → Each (IsWithin count width) items
      → Hands (IsWithin count width) (scalar function name items)
  scalar_within (Some function) name items all = unary_within function items all
  scalar_within None name items all = several_within name items all

  called_within : (after : BehindTree) (name : written.Function) (items : List Term) → Each (IsWithin count width) items
      → Hands (IsWithin count width) (called after name items)
  called_within (BehindTree.Behind MaybeExpr.Absent OverTree.No_over) name items all = scalar_within (unary_of name) name items all
  called_within _ name items all = no_hands WrongPlace

  module _ (answers : Answers) (says : Says) (answered : (tree : InnerTree) → Hands (AreWithin count width) (answers tree))
      (said : (part : ExprTree) → Hands (IfAny (IsOfColumns width)) (says part)) where
    said_within : (part : ExprTree) → Hands (IfAny (IsWithin count width)) (says part)
    said_within part = by (says part) (said part)
      where
        by : (r : Result (Option Term) _) → Hands (IfAny (IsOfColumns width)) r → Hands (IfAny (IsWithin count width)) r
        by (Ok (Some t)) h = record { is = record { is = of_columns t h.is.is } }
        by (Ok None) h = record { is = record { is = tt } }
        by (Err fault) h = no_hands fault

    mutual
      pub term_within : (e : ExprTree) → Hands (IsWithin count width) (term_of answers says e)
      term_within ExprTree.Null = chosen_hands (says ExprTree.Null) _ (said_within ExprTree.Null) (record { is = tt })
      term_within (ExprTree.Number z) = chosen_hands (says (ExprTree.Number z)) _ (said_within (ExprTree.Number z)) (record { is = tt })
      term_within (ExprTree.Text content) = chosen_hands (says (ExprTree.Text content)) _ (said_within (ExprTree.Text content)) (record { is = tt })
      term_within (ExprTree.Blob bytes) = chosen_hands (says (ExprTree.Blob bytes)) _ (said_within (ExprTree.Blob bytes)) (record { is = tt })
      term_within (ExprTree.Column table name) =
          chosen_hands (says (ExprTree.Column table name)) _ (said_within (ExprTree.Column table name)) (no_hands WrongPlace)
      term_within (ExprTree.Prefix op x) =
          chosen_hands (says (ExprTree.Prefix op x)) _ (said_within (ExprTree.Prefix op x))
          (also_hands (prefix op) (term_of answers says x) (term_within x) (prefix_within op))
      term_within (ExprTree.Binary op x y) =
          chosen_hands (says (ExprTree.Binary op x y)) _ (said_within (ExprTree.Binary op x y))
          (both_hands (binary op) (term_of answers says x) (term_of answers says y) (term_within x) (term_within y) (binary_within op))
      term_within (ExprTree.Postfix op x) =
          chosen_hands (says (ExprTree.Postfix op x)) _ (said_within (ExprTree.Postfix op x))
          (also_hands (postfix op) (term_of answers says x) (term_within x) (postfix_within op))
      term_within (ExprTree.Between not x low high) =
          chosen_hands (says (ExprTree.Between not x low high)) _ (said_within (ExprTree.Between not x low high))
          (followed_hands (term_of answers says x) _ (term_within x) (λ t h.
          both_hands (between_bounds not t) (term_of answers says low) (term_of answers says high) (term_within low) (term_within high)
          (λ l u k m. negated_within not _ (h, k, m))))
      term_within (ExprTree.In not x items) =
          chosen_hands (says (ExprTree.In not x items)) _ (said_within (ExprTree.In not x items))
          (both_hands (among_items not) (term_of answers says x) (terms_of answers says items) (term_within x) (terms_within items)
          (λ t ts h all. negated_within not _ (h, all_within ts all)))
      term_within (ExprTree.InQuery not x query) =
          chosen_hands (says (ExprTree.InQuery not x query)) _ (said_within (ExprTree.InQuery not x query))
          (both_hands (among_answer not) (term_of answers says x) (answers (InnerTree.values_in query)) (term_within x)
          (answered (InnerTree.values_in query)) (λ t ts h k. negated_within not _ (h, k)))
      term_within (ExprTree.Exists query) =
          chosen_hands (says (ExprTree.Exists query)) _ (said_within (ExprTree.Exists query))
          (also_hands exists (answers (InnerTree.exists_in query)) (answered (InnerTree.exists_in query)) (λ ts h. (tt, h)))
      term_within (ExprTree.CountRows after) =
          chosen_hands (says (ExprTree.CountRows after)) _ (said_within (ExprTree.CountRows after)) (no_hands WrongPlace)
      term_within (ExprTree.Call function items after) =
          chosen_hands (says (ExprTree.Call function items after)) _ (said_within (ExprTree.Call function items after))
          (followed_hands (terms_of answers says items) (called after function) (terms_within items) (called_within after function))
      term_within (ExprTree.Case operand others otherwise) =
          chosen_hands (says (ExprTree.Case operand others otherwise)) _ (said_within (ExprTree.Case operand others otherwise))
          (followed_hands (operand_of answers says operand) _ (operand_within operand) (λ x h.
          both_hands (case x) (arms_of answers says others) (otherwise_of answers says otherwise) (arms_of_within others) (otherwise_within otherwise)
          (λ all e k m. case_within x all e h k m)))

      pub terms_within : (es : ExprTrees) → Hands (Each (IsWithin count width)) (terms_of answers says es)
      terms_within ExprTrees.No_more = record { is = none }
      terms_within (ExprTrees.More e es) =
          both_hands ◌∷◌ (term_of answers says e) (terms_of answers says es) (term_within e) (terms_within es) (λ t ts h all. more t ts h all)

      operand_within : (operand : MaybeExpr) → Hands (IfAny (IsWithin count width)) (operand_of answers says operand)
      operand_within MaybeExpr.Absent = record { is = record { is = tt } }
      operand_within (MaybeExpr.Present e) = also_hands Some (term_of answers says e) (term_within e) (λ t h. record { is = h })

      otherwise_within : (otherwise : MaybeExpr) → Hands (IsWithin count width) (otherwise_of answers says otherwise)
      otherwise_within MaybeExpr.Absent = record { is = tt }
      otherwise_within (MaybeExpr.Present e) = term_within e

      arms_of_within : (others : ArmTrees) → Hands (Each IsArmWithin) (arms_of answers says others)
      arms_of_within ArmTrees.No_arm = record { is = none }
      arms_of_within (ArmTrees.Arm when then others) =
          both_hands ◌∷◌ (both (λ c e. (c, e)) (term_of answers says when) (term_of answers says then)) (arms_of answers says others)
          (both_hands (λ c e. (c, e)) (term_of answers says when) (term_of answers says then) (term_within when) (term_within then)
          (λ c e h k. record { condition = h; value = k }))
          (arms_of_within others) (λ a all h k. more a all h k)
