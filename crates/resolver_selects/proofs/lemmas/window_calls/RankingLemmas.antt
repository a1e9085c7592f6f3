-- The ranking and value functions, by what they take.
use Rattle.std.proofs.Common.{◌≡◌, ◌≤◌, ℕ, pos, List, [], ◌∷◌, length, map, Option, Some, None, Result, Ok, Err, refl, sym, arith}
use Rattle.values.specs.Datum.{null}
use Rattle.values.specs.declared.fault.Fault.{Fault}
use Rattle.values.specs.declared.fault.Fault.TheVariants.{WrongPlace}
use Rattle.expr.specs.Term.{Term, literal}
use Rattle.semantics.specs.Query.{WindowFunction}
use Rattle.semantics_names.specs.Expression.{Answers, Says, term_of}
use Rattle.semantics_names.specs.Outcome.{also, both, followed, found_or}
use Rattle.semantics_names.specs.Places as spec
use Rattle.sql_reader_grammar.specs.statement_trees.TreeView.{expr_of}
use Rattle.sql_reader_grammar.specs.declared.statement_trees.expressions.Expr.{Expr}
use Rattle.sql_reader_syntax.specs.ExprTree.{ExprTree, ExprTrees, trees_of}
use Rattle.sql_reader_syntax.specs.declared.expr.Function.{Function}
use Rattle.sql_reader_syntax.specs.declared.expr.Function.TheVariants as w
use Rattle.resolver_selects.specs.window_calls.Numbers.{number_of}
use Rattle.resolver_selects.specs.window_calls.Ranking.{Shift, buckets, nth, of_name, shift, shifted, single, without}

-- ---- more arguments than they take

refused : {A : Type 0} (o : Option ℕ) (r : Result A Fault) → r ≡ Err WrongPlace → followed (found_or WrongPlace o) (λ (n : ℕ). r) ≡ Err WrongPlace
refused None r e = refl
refused (Some n) r e = e

pub without_some : (function : WindowFunction) (items : List Expr) → 1 ≤ length items → without function (trees_of (map expr_of items)) ≡ Err WrongPlace
without_some function [] many = absurd (omega arith)
without_some function (x ∷ rest) many = refl

pub buckets_several : (items : List Expr) → 2 ≤ length items → buckets (trees_of (map expr_of items)) ≡ Err WrongPlace
buckets_several [] many = absurd (omega arith)
buckets_several (x ∷ []) many = absurd (omega arith)
buckets_several (x ∷ y ∷ rest) many = refused (number_of (expr_of x)) (Err WrongPlace) refl

module _ (answers : Answers) (says : Says) where
  pub single_several : (items : List Expr) → 2 ≤ length items → single answers says (trees_of (map expr_of items)) ≡ Err WrongPlace
  single_several [] many = absurd (omega arith)
  single_several (x ∷ []) many = absurd (omega arith)
  single_several (x ∷ y ∷ rest) many = refl

  pub nth_alone : (items : List Expr) → length items ≡ 1 → nth answers says (trees_of (map expr_of items)) ≡ Err WrongPlace
  nth_alone [] one = absurd (omega arith)
  nth_alone (x ∷ []) one = refl
  nth_alone (x ∷ y ∷ rest) one = absurd (omega arith)

  pub nth_several : (items : List Expr) → 3 ≤ length items → nth answers says (trees_of (map expr_of items)) ≡ Err WrongPlace
  nth_several [] many = absurd (omega arith)
  nth_several (x ∷ []) many = absurd (omega arith)
  nth_several (x ∷ y ∷ []) many = absurd (omega arith)
  nth_several (x ∷ y ∷ z ∷ rest) many = refused (number_of (expr_of y)) (Err WrongPlace) refl

  pub shift_several : (items : List Expr) → 4 ≤ length items → shift answers says (trees_of (map expr_of items)) ≡ Err WrongPlace
  shift_several [] many = absurd (omega arith)
  shift_several (x ∷ []) many = absurd (omega arith)
  shift_several (x ∷ y ∷ []) many = absurd (omega arith)
  shift_several (x ∷ y ∷ z ∷ []) many = absurd (omega arith)
  shift_several (x ∷ y ∷ z ∷ u ∷ rest) many = refused (number_of (expr_of y)) (Err WrongPlace) refl

-- ---- what they are

also_also : {A B C : Type 0} (f : A → B) (g : B → C) (r : Result A Fault) → also g (also f r) ≡ also (λ a. g (f a)) r
also_also f g (Ok a) = refl
also_also f g (Err fault) = refl

also_both : {A B C D : Type 0} (f : A → B → C) (g : C → D) (r : Result A Fault) (s : Result B Fault)
    → also g (both f r s) ≡ both (λ a b. g (f a b)) r s
also_both f g (Ok a) s = also_also (f a) g s
also_both f g (Err fault) s = refl

lag_of : Shift → WindowFunction
lag_of s = WindowFunction.lag s.0 s.1.0 s.1.1

lead_of : Shift → WindowFunction
lead_of s = WindowFunction.lead s.0 s.1.0 s.1.1

pub ranking_is : (answers : Answers) (says : Says) (name : Function) (items : ExprTrees)
    → spec.ranking answers says name items ≡ of_name answers says name items
unfolding lag_of lead_of
ranking_is answers says w.RowNumber ExprTrees.No_more = refl
ranking_is answers says w.RowNumber (ExprTrees.More e es) = refl
ranking_is answers says w.Rank ExprTrees.No_more = refl
ranking_is answers says w.Rank (ExprTrees.More e es) = refl
ranking_is answers says w.DenseRank ExprTrees.No_more = refl
ranking_is answers says w.DenseRank (ExprTrees.More e es) = refl
ranking_is answers says w.NTile (ExprTrees.More (ExprTree.Number (pos n)) ExprTrees.No_more) = refl
ranking_is answers says w.FirstValue (ExprTrees.More e ExprTrees.No_more) = refl
ranking_is answers says w.LastValue (ExprTrees.More e ExprTrees.No_more) = refl
ranking_is answers says w.NthValue (ExprTrees.More e (ExprTrees.More (ExprTree.Number (pos n)) ExprTrees.No_more)) =
    sym (also_also (λ t. (t, n)) (λ (p : Term × ℕ). WindowFunction.nth_value p.0 p.1) (term_of answers says e))
ranking_is answers says w.Lag (ExprTrees.More e ExprTrees.No_more) =
    sym (also_also (shifted 1 (literal null)) lag_of (term_of answers says e))
ranking_is answers says w.Lag (ExprTrees.More e (ExprTrees.More (ExprTree.Number (pos n)) ExprTrees.No_more)) =
    sym (also_also (shifted n (literal null)) lag_of (term_of answers says e))
ranking_is answers says w.Lag (ExprTrees.More e (ExprTrees.More (ExprTree.Number (pos n)) (ExprTrees.More d ExprTrees.No_more))) =
    sym (also_both (λ t otherwise. shifted n otherwise t) lag_of (term_of answers says e) (term_of answers says d))
ranking_is answers says w.Lead (ExprTrees.More e ExprTrees.No_more) =
    sym (also_also (shifted 1 (literal null)) lead_of (term_of answers says e))
ranking_is answers says w.Lead (ExprTrees.More e (ExprTrees.More (ExprTree.Number (pos n)) ExprTrees.No_more)) =
    sym (also_also (shifted n (literal null)) lead_of (term_of answers says e))
ranking_is answers says w.Lead (ExprTrees.More e (ExprTrees.More (ExprTree.Number (pos n)) (ExprTrees.More d ExprTrees.No_more))) =
    sym (also_both (λ t otherwise. shifted n otherwise t) lead_of (term_of answers says e) (term_of answers says d))
ranking_is answers says name items = refl
