-- The term that an expression is, or why it is none.
use Rattle.std.proofs.Common.{◌≡◌, ◌∙◌, true, false, ℕ, suc, length, nat_eq, ap, sym, subst, arith, Ok, Err, All, List, [], ◌∷◌, ◌++◌, Option, Some, None, refl}
use Rattle.std.proofs.lemmas.Bool.{ne_eqb}
use Rattle.values.specs.declared.fault.Fault.{Fault}
use Rattle.values.specs.declared.fault.Fault.TheVariants.{BadFrame, WrongPlace}
use Rattle.expr.specs.Term.{Term}
use Rattle.expr.specs.declared.operations.kinds.Function.{Function}
use Rattle.expr.specs.declared.operations.kinds.Function.TheVariants as g
use Rattle.sql_reader_syntax.specs.ExprTree.{ArmTrees, BehindTree, ExprTree, ExprTrees, MaybeExpr, OverTree, WindowTree, count, plain}
use Rattle.sql_reader_syntax.specs.Functions.{takes}
use Rattle.sql_reader_syntax.specs.Tree.{Name}
use Rattle.sql_reader_syntax.specs.declared.query.Frame.{Frame}
use Rattle.sql_reader_syntax.specs.declared.expr.Function as written
use Rattle.sql_reader_syntax.specs.declared.expr.Function.TheVariants as w
use Rattle.semantics_names.specs.Expression.{Answers, InnerTree, Says, among_answer, among_items, arms_of, between_bounds, binary, called, case, exists, operand_of, otherwise_of, postfix, prefix, scalar, several, term_of, terms_of, unary, unary_of}
use Rattle.semantics_names.specs.Laws.{IsSameInAnyCase, IsScalar, is_scalar}
use Rattle.semantics_names.specs.Outcome.{both}
use Rattle.semantics_names.specs.Parts.{all_parts, arms_parts, behind_parts, inner_tree, maybe_parts, parts}
use Rattle.semantics_names.specs.Places.{columns_say, frame_of}
use Rattle.semantics_names.specs.Scope.{Scope}
use Rattle.semantics_names.proofs.OutcomeLemmas.{both-ok}
use Rattle.semantics_refusals.specs.BadFrames.{IsOver}
use Rattle.semantics_refusals.specs.WrongPlaces.{HasOver, MayHaveOver}
use Rattle.semantics_refusals.proofs.OutcomeLemmas.{Only, also_only, both_only, chosen_known, chosen_only, followed_only, known_only, ok, refused}
use Rattle.semantics_refusals.proofs.PartLemmas.{Each, back, first, front, own}

-- the frame that is written in a window
abbrev pub frame_in : WindowTree → Option Frame
frame_in (WindowTree.Window partition order frame) = frame

-- what follows a part, if it is a call, in a SELECT that defines windows of these names
pub record IsFineCall (F : Fault → Type 0) (windows : List Name) (part : ExprTree) : Type 0 where
  pub frame : (w : WindowTree) → IsOver part (OverTree.Over w) → Only F (frame_of (frame_in w))
  pub defined : (name : Name) → IsOver part (OverTree.OverName name) → All (λ other. ¬ IsSameInAnyCase other name) windows → F BadFrame
  pub function : HasOver part → ¬ MayHaveOver part → F WrongPlace
  pub counted : (function : written.Function) (es : ExprTrees) (after : BehindTree) → part ≡ ExprTree.Call function es after
      → takes function (count es) ≡ false → F WrongPlace

-- a column of FROM that a part names, the answer of a query that stands there, and what follows it
pub record Base (F : Fault → Type 0) (windows : List Name) (answers : Answers) (scope : Scope) (part : ExprTree) : Type 0 where
  pub said : Only F (columns_say scope part)
  pub answered : (tree : InnerTree) → inner_tree part ≡ Some tree → Only F (answers tree)
  pub framed : IsFineCall F windows part

-- what a place says of a part, and what it is where nothing is said
pub record Sound (F : Fault → Type 0) (windows : List Name) (answers : Answers) (says : Says) (part : ExprTree) : Type 0 where
  pub said : Only F (says part)
  pub answered : (tree : InnerTree) → inner_tree part ≡ Some tree → Only F (answers tree)
  pub framed : IsFineCall F windows part
  pub named : (table : Option Name) (name : Name) → part ≡ ExprTree.Column table name → says part ≡ Ok None → ⊥
  pub fits : says part ≡ Ok None → ¬ IsScalar part → F WrongPlace

module _ (F : Fault → Type 0) where
  one_only : (function : Function) (items : List Term) (n : ℕ) → length items ≡ n → (nat_eq n 1 ≡ false → F WrongPlace) → Only F (unary function items)
  one_only function [] n size is = refused WrongPlace (is (ne_eqb n 1 (λ e. omega (arith, size, e))))
  one_only function (x ∷ []) n size is = ok _
  one_only function (x ∷ y ∷ items) n size is = refused WrongPlace (is (ne_eqb n 1 (λ e. omega (arith, size, e))))

  two_only : (name : written.Function) (items : List Term) (n : ℕ) → length items ≡ n → (nat_eq n 2 ≡ false → F WrongPlace)
      → ((x y : Term) → Only F (several name (x ∷ y ∷ [])))
      → (several name [] ≡ Err WrongPlace) × ((x : Term) → several name (x ∷ []) ≡ Err WrongPlace)
      × ((x y z : Term) (more : List Term) → several name (x ∷ y ∷ z ∷ more) ≡ Err WrongPlace) → Only F (several name items)
  two_only name [] n size is good others =
      subst (λ r. Only F r) (sym others.0) (refused WrongPlace (is (ne_eqb n 2 (λ e. omega (arith, size, e)))))
  two_only name (x ∷ []) n size is good others =
      subst (λ r. Only F r) (sym (others.1 x)) (refused WrongPlace (is (ne_eqb n 2 (λ e. omega (arith, size, e)))))
  two_only name (x ∷ y ∷ []) n size is good others = good x y
  two_only name (x ∷ y ∷ z ∷ more) n size is good others =
      subst (λ r. Only F r) (sym (others.2 x y z more)) (refused WrongPlace (is (ne_eqb n 2 (λ e. omega (arith, size, e)))))

  three_only : (items : List Term) (n : ℕ) → length items ≡ n → (nat_eq n 3 ≡ false → F WrongPlace) → Only F (several w.Iif items)
  three_only [] n size is = refused WrongPlace (is (ne_eqb n 3 (λ e. omega (arith, size, e))))
  three_only (x ∷ []) n size is = refused WrongPlace (is (ne_eqb n 3 (λ e. omega (arith, size, e))))
  three_only (x ∷ y ∷ []) n size is = refused WrongPlace (is (ne_eqb n 3 (λ e. omega (arith, size, e))))
  three_only (x ∷ y ∷ z ∷ []) n size is = ok _
  three_only (x ∷ y ∷ z ∷ v ∷ more) n size is = refused WrongPlace (is (ne_eqb n 3 (λ e. omega (arith, size, e))))

  -- a function over its arguments, by their number
  applied_only : (name : written.Function) (items : List Term) (n : ℕ) → length items ≡ n → (¬ (is_scalar name ≡ true) → F WrongPlace)
      → (takes name n ≡ false → F WrongPlace) → Only F (scalar (unary_of name) name items)
  applied_only w.Abs items n size fits is = one_only g.Abs items n size is
  applied_only w.Hex items n size fits is = one_only g.Hex items n size is
  applied_only w.Length items n size fits is = one_only g.Length items n size is
  applied_only w.Lower items n size fits is = one_only g.Lower items n size is
  applied_only w.TypeOf items n size fits is = one_only g.TypeOf items n size is
  applied_only w.Upper items n size fits is = one_only g.Upper items n size is
  applied_only w.Coalesce items n size fits is = ok _
  applied_only w.IfNull items n size fits is =
      two_only w.IfNull items n size is (λ x y. ok _) (refl, λ x. refl, λ x y z more. refl)
  applied_only w.NullIf items n size fits is =
      two_only w.NullIf items n size is (λ x y. ok _) (refl, λ x. refl, λ x y z more. refl)
  applied_only w.Iif items n size fits is = three_only items n size is
  applied_only _ items n size fits is = refused WrongPlace (fits (λ e. absurd cc))

  filter_none : (e : ExprTree) (o : OverTree) → BehindTree.Behind (MaybeExpr.Present e) o ≡ plain → ⊥
  filter_none e o same = absurd cc

  name_none : (name : Name) → BehindTree.Behind MaybeExpr.Absent (OverTree.OverName name) ≡ plain → ⊥
  name_none name same = absurd cc

  over_none : (v : WindowTree) → BehindTree.Behind MaybeExpr.Absent (OverTree.Over v) ≡ plain → ⊥
  over_none v same = absurd cc

  pub called_only : (after : BehindTree) (name : written.Function) (items : List Term) (n : ℕ) → length items ≡ n
      → (¬ ((after ≡ plain) × (is_scalar name ≡ true)) → F WrongPlace) → (takes name n ≡ false → F WrongPlace) → Only F (called after name items)
  called_only (BehindTree.Behind MaybeExpr.Absent OverTree.No_over) name items n size fits is =
      applied_only name items n size (λ apart. fits (λ both. apart both.1)) is
  called_only (BehindTree.Behind MaybeExpr.Absent (OverTree.OverName x)) name items n size fits is =
      refused WrongPlace (fits (λ both. name_none x both.0))
  called_only (BehindTree.Behind MaybeExpr.Absent (OverTree.Over v)) name items n size fits is =
      refused WrongPlace (fits (λ both. over_none v both.0))
  called_only (BehindTree.Behind (MaybeExpr.Present e) o) name items n size fits is =
      refused WrongPlace (fits (λ both. filter_none e o both.0))

  -- as many terms as expressions
  terms_count : (answers : Answers) (says : Says) (es : ExprTrees) (ts : List Term) → terms_of answers says es ≡ Ok ts → length ts ≡ count es
  terms_count answers says ExprTrees.No_more ts e = let same : [] ≡ ts = cc in ap length (sym same)
  terms_count answers says (ExprTrees.More x es) ts e =
      let (t, others, first, rest, same) = both-ok ◌∷◌ (term_of answers says x) (terms_of answers says es) ts e in
      ap length (sym same) ∙ ap suc (terms_count answers says es others rest)

  module _ (windows : List Name) (answers : Answers) (says : Says) where
    mutual
      pub term_only : (e : ExprTree) → Each (Sound F windows answers says) (parts e) → Only F (term_of answers says e)
      term_only ExprTree.Null all = chosen_only (says ExprTree.Null) _ (first all).said (ok _)
      term_only (ExprTree.Number z) all = chosen_only (says (ExprTree.Number z)) _ (first all).said (ok _)
      term_only (ExprTree.Text content) all = chosen_only (says (ExprTree.Text content)) _ (first all).said (ok _)
      term_only (ExprTree.Blob bytes) all = chosen_only (says (ExprTree.Blob bytes)) _ (first all).said (ok _)
      term_only (ExprTree.Column table name) all =
          chosen_known (says (ExprTree.Column table name)) _ (first all).said (λ none. absurd ((first all).named table name refl none))
      term_only (ExprTree.Prefix op x) all =
          chosen_only (says (ExprTree.Prefix op x)) _ (own (parts x) all).said
          (also_only (prefix op) (term_of answers says x) (term_only x (front (parts x) _ all)))
      term_only (ExprTree.Binary op x y) all =
          chosen_only (says (ExprTree.Binary op x y)) _ (own (parts x ++ parts y) all).said
          (both_only (binary op) (term_of answers says x) (term_of answers says y)
          (term_only x (front (parts x) (parts y) (front (parts x ++ parts y) _ all)))
          (term_only y (back (parts x) (parts y) (front (parts x ++ parts y) _ all))))
      term_only (ExprTree.Postfix op x) all =
          chosen_only (says (ExprTree.Postfix op x)) _ (own (parts x) all).said
          (also_only (postfix op) (term_of answers says x) (term_only x (front (parts x) _ all)))
      term_only (ExprTree.Between not x low high) all =
          chosen_only (says (ExprTree.Between not x low high)) _ (own (parts x ++ parts low ++ parts high) all).said
          (followed_only (term_of answers says x) _
          (term_only x (front (parts x) (parts low) (front (parts x ++ parts low) (parts high) (front (parts x ++ parts low ++ parts high) _ all))))
          (λ t. both_only (between_bounds not t) (term_of answers says low) (term_of answers says high)
          (term_only low (back (parts x) (parts low) (front (parts x ++ parts low) (parts high) (front (parts x ++ parts low ++ parts high) _ all))))
          (term_only high (back (parts x ++ parts low) (parts high) (front (parts x ++ parts low ++ parts high) _ all)))))
      term_only (ExprTree.In not x items) all =
          chosen_only (says (ExprTree.In not x items)) _ (own (parts x ++ all_parts items) all).said
          (both_only (among_items not) (term_of answers says x) (terms_of answers says items)
          (term_only x (front (parts x) (all_parts items) (front (parts x ++ all_parts items) _ all)))
          (terms_only items (back (parts x) (all_parts items) (front (parts x ++ all_parts items) _ all))))
      term_only (ExprTree.InQuery not x query) all =
          chosen_only (says (ExprTree.InQuery not x query)) _ (own (parts x) all).said
          (both_only (among_answer not) (term_of answers says x) (answers (InnerTree.values_in query)) (term_only x (front (parts x) _ all))
          ((own (parts x) all).answered (InnerTree.values_in query) refl))
      term_only (ExprTree.Exists query) all =
          chosen_only (says (ExprTree.Exists query)) _ (first all).said
          (also_only exists (answers (InnerTree.exists_in query)) ((first all).answered (InnerTree.exists_in query) refl))
      term_only (ExprTree.CountRows after) all =
          chosen_known (says (ExprTree.CountRows after)) _ (own (behind_parts after) all).said
          (λ none. refused WrongPlace ((own (behind_parts after) all).fits none (λ scalar. scalar)))
      term_only (ExprTree.Call function items after) all =
          chosen_known (says (ExprTree.Call function items after)) _ (own (all_parts items ++ behind_parts after) all).said
          (λ none. known_only (terms_of answers says items) (called after function)
          (terms_only items (front (all_parts items) (behind_parts after) (front (all_parts items ++ behind_parts after) _ all)))
          (λ ts is. called_only after function ts (count items) (terms_count answers says items ts is)
          ((own (all_parts items ++ behind_parts after) all).fits none)
          ((own (all_parts items ++ behind_parts after) all).framed.counted function items after refl)))
      term_only (ExprTree.Case operand arms otherwise) all =
          chosen_only (says (ExprTree.Case operand arms otherwise)) _ (own (maybe_parts operand ++ arms_parts arms ++ maybe_parts otherwise) all).said
          (followed_only (operand_of answers says operand) _
          (operand_only operand (front (maybe_parts operand) (arms_parts arms)
          (front (maybe_parts operand ++ arms_parts arms) (maybe_parts otherwise)
          (front (maybe_parts operand ++ arms_parts arms ++ maybe_parts otherwise) _ all))))
          (λ x. both_only (case x) (arms_of answers says arms) (otherwise_of answers says otherwise)
          (arms_only arms (back (maybe_parts operand) (arms_parts arms)
          (front (maybe_parts operand ++ arms_parts arms) (maybe_parts otherwise)
          (front (maybe_parts operand ++ arms_parts arms ++ maybe_parts otherwise) _ all))))
          (otherwise_only otherwise
          (back (maybe_parts operand ++ arms_parts arms) (maybe_parts otherwise)
          (front (maybe_parts operand ++ arms_parts arms ++ maybe_parts otherwise) _ all)))))

      pub terms_only : (es : ExprTrees) → Each (Sound F windows answers says) (all_parts es) → Only F (terms_of answers says es)
      terms_only ExprTrees.No_more all = ok _
      terms_only (ExprTrees.More e es) all =
          both_only ◌∷◌ (term_of answers says e) (terms_of answers says es) (term_only e (front (parts e) (all_parts es) all))
          (terms_only es (back (parts e) (all_parts es) all))

      operand_only : (operand : MaybeExpr) → Each (Sound F windows answers says) (maybe_parts operand) → Only F (operand_of answers says operand)
      operand_only MaybeExpr.Absent all = ok _
      operand_only (MaybeExpr.Present e) all = also_only Some (term_of answers says e) (term_only e all)

      otherwise_only : (otherwise : MaybeExpr) → Each (Sound F windows answers says) (maybe_parts otherwise) → Only F (otherwise_of answers says otherwise)
      otherwise_only MaybeExpr.Absent all = ok _
      otherwise_only (MaybeExpr.Present e) all = term_only e all

      arms_only : (arms : ArmTrees) → Each (Sound F windows answers says) (arms_parts arms) → Only F (arms_of answers says arms)
      arms_only ArmTrees.No_arm all = ok _
      arms_only (ArmTrees.Arm when then more) all =
          both_only ◌∷◌ (both (λ c e. (c, e)) (term_of answers says when) (term_of answers says then)) (arms_of answers says more)
          (both_only (λ c e. (c, e)) (term_of answers says when) (term_of answers says then)
          (term_only when (front (parts when) (parts then) (front (parts when ++ parts then) (arms_parts more) all)))
          (term_only then (back (parts when) (parts then) (front (parts when ++ parts then) (arms_parts more) all))))
          (arms_only more (back (parts when ++ parts then) (arms_parts more) all))
