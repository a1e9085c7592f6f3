-- Expressions that are written alike, as one of GROUP BY and one of a result column are. (SQL Language Expressions; SELECT, "Generation of
-- the set of result rows")
use Rattle.std.specs.Prelude.{◌≡◌, ℕ, Bool, Contains, Option, Ok}
use Rattle.expr.specs.Term.{Term}
use Rattle.sql_reader_syntax.specs.ExprTree.{ArmTrees, BehindTree, CoreTree, ExprTree, ExprTrees, MaybeExpr, QueryTree}
use Rattle.sql_reader_syntax.specs.Tree.{Name}
use Rattle.sql_reader_syntax.specs.declared.expr.BinaryOperator.{BinaryOperator}
use Rattle.sql_reader_syntax.specs.declared.expr.Function.{Function}
use Rattle.sql_reader_syntax.specs.declared.expr.PostfixOperator.{PostfixOperator}
use Rattle.sql_reader_syntax.specs.declared.expr.PrefixOperator.{PrefixOperator}
use Rattle.sql_reader_syntax.specs.declared.expr.PrefixOperator.TheVariants as prefixes
use Rattle.semantics_names.specs.Expression.{Answers, term_of}
use Rattle.semantics_names.specs.Laws.{IsOnlyColumn}
use Rattle.semantics_names.specs.Places.{columns_say}
use Rattle.semantics_names.specs.Scope.{Scope, Shown, shown_places}
use Rattle.semantics_refusals.specs.BareColumns.{IsGroupExpression}
use Rattle.semantics_refusals.specs.WrongPlaces.{groups_in}

-- two names stand for the same column, in letters of either case, and with the name of its source before it or not
pub record AreSameColumn (scope : Scope) (table : Option Name) (name : Name) (other_table : Option Name) (other_name : Name) : Type 0 where
  pub at : ℕ
  pub shown : Shown
  pub one : IsOnlyColumn scope table name at shown
  pub other_at : ℕ
  pub other_shown : Shown
  pub other : IsOnlyColumn scope other_table other_name other_at other_shown
  pub same : shown_places table at shown ≡ shown_places other_table other_at other_shown

module _ (scope : Scope) where
  mutual
    -- the same operators and functions over operands that are alike, where names stand for the same columns; a sign + is nothing
    pub data IsAlike : ExprTree → ExprTree → Type 0 where
      itself : {e : ExprTree} → IsAlike e e
      column : {table other_table : Option Name} {name other_name : Name} → AreSameColumn scope table name other_table other_name
          → IsAlike (ExprTree.Column table name) (ExprTree.Column other_table other_name)
      signed : {x y : ExprTree} → IsAlike x y → IsAlike (ExprTree.Prefix prefixes.Plus x) y
      unsigned : {x y : ExprTree} → IsAlike x y → IsAlike x (ExprTree.Prefix prefixes.Plus y)
      prefix : {op : PrefixOperator} {x y : ExprTree} → IsAlike x y → IsAlike (ExprTree.Prefix op x) (ExprTree.Prefix op y)
      binary : {op : BinaryOperator} {x y u v : ExprTree} → IsAlike x u → IsAlike y v → IsAlike (ExprTree.Binary op x y) (ExprTree.Binary op u v)
      postfix : {op : PostfixOperator} {x y : ExprTree} → IsAlike x y → IsAlike (ExprTree.Postfix op x) (ExprTree.Postfix op y)
      between : {not : Bool} {x low high y lower upper : ExprTree} → IsAlike x y → IsAlike low lower → IsAlike high upper
          → IsAlike (ExprTree.Between not x low high) (ExprTree.Between not y lower upper)
      among : {not : Bool} {x y : ExprTree} {xs ys : ExprTrees} → IsAlike x y → AreAlike xs ys
          → IsAlike (ExprTree.In not x xs) (ExprTree.In not y ys)
      among_query : {not : Bool} {x y : ExprTree} {query : QueryTree} → IsAlike x y
          → IsAlike (ExprTree.InQuery not x query) (ExprTree.InQuery not y query)
      call : {function : Function} {xs ys : ExprTrees} {after : BehindTree} → AreAlike xs ys
          → IsAlike (ExprTree.Call function xs after) (ExprTree.Call function ys after)
      case : {operand other : MaybeExpr} {arms others : ArmTrees} {otherwise last : MaybeExpr} → MaybeAlike operand other → ArmsAlike arms others
          → MaybeAlike otherwise last → IsAlike (ExprTree.Case operand arms otherwise) (ExprTree.Case other others last)

    pub data AreAlike : ExprTrees → ExprTrees → Type 0 where
      none : AreAlike ExprTrees.No_more ExprTrees.No_more
      more : {x y : ExprTree} {xs ys : ExprTrees} → IsAlike x y → AreAlike xs ys → AreAlike (ExprTrees.More x xs) (ExprTrees.More y ys)

    pub data MaybeAlike : MaybeExpr → MaybeExpr → Type 0 where
      absent : MaybeAlike MaybeExpr.Absent MaybeExpr.Absent
      present : {x y : ExprTree} → IsAlike x y → MaybeAlike (MaybeExpr.Present x) (MaybeExpr.Present y)

    pub data ArmsAlike : ArmTrees → ArmTrees → Type 0 where
      no_arm : ArmsAlike ArmTrees.No_arm ArmTrees.No_arm
      arm : {test value other result : ExprTree} {arms others : ArmTrees} → IsAlike test other → IsAlike value result → ArmsAlike arms others
          → ArmsAlike (ArmTrees.Arm test value arms) (ArmTrees.Arm other result others)

-- what is written like an expression of GROUP BY, which is a term over the columns of FROM, is one of it
abbrev pub AlikeIsOfGroupBy : Type 0
AlikeIsOfGroupBy =
    (answers : Answers) (scope : Scope) (core : CoreTree) (e key : ExprTree) (t : Term) → Contains (groups_in core) key
    → term_of answers (columns_say scope) key ≡ Ok t → IsAlike scope e key → IsGroupExpression answers scope core e
