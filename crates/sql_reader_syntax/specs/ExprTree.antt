-- The trees of expressions and of the queries in them, without where they lie in memory. Parentheses are gone.
use Rattle.std.specs.Prelude.{ℕ, suc, ℤ, Bool, List, [], ◌∷◌, Option}
use Rattle.sql_reader_syntax.specs.Tree.{Name}
use Rattle.sql_reader_syntax.specs.declared.expr.BinaryOperator.{BinaryOperator}
use Rattle.sql_reader_syntax.specs.declared.expr.Function.{Function}
use Rattle.sql_reader_syntax.specs.declared.expr.PostfixOperator.{PostfixOperator}
use Rattle.sql_reader_syntax.specs.declared.expr.PrefixOperator.{PrefixOperator}
use Rattle.sql_reader_syntax.specs.declared.query.CompoundOperator.{CompoundOperator}
use Rattle.sql_reader_syntax.specs.declared.query.Direction.{Direction}
use Rattle.sql_reader_syntax.specs.declared.query.Frame.{Frame}
use Rattle.sql_reader_syntax.specs.declared.query.Join.{Join}

-- what a result column is called: by its alias, or else by its source text
pub data NameTree : Type 0 where
  Alias : Name → NameTree
  SourceText : List ℕ → NameTree

mutual
  pub data ExprTree : Type 0 where
    Null : ExprTree
    Number : ℤ → ExprTree
    Text : List ℕ → ExprTree
    Blob : List ℕ → ExprTree
    -- a column, behind the name of its table where that is written
    Column : Option Name → Name → ExprTree
    Prefix : PrefixOperator → ExprTree → ExprTree
    Binary : BinaryOperator → ExprTree → ExprTree → ExprTree
    Postfix : PostfixOperator → ExprTree → ExprTree
    -- whether NOT is written, the value, the lower bound, the upper bound
    Between : Bool → ExprTree → ExprTree → ExprTree → ExprTree
    -- whether NOT is written, the value, the members
    In : Bool → ExprTree → ExprTrees → ExprTree
    -- whether NOT is written, the value, the query
    InQuery : Bool → ExprTree → QueryTree → ExprTree
    Exists : QueryTree → ExprTree
    -- count(*)
    CountRows : BehindTree → ExprTree
    Call : Function → ExprTrees → BehindTree → ExprTree
    -- the operand if there is one, the arms, and what stands behind ELSE
    Case : MaybeExpr → ArmTrees → MaybeExpr → ExprTree

  pub data ExprTrees : Type 0 where
    No_more : ExprTrees
    More : ExprTree → ExprTrees → ExprTrees

  pub data MaybeExpr : Type 0 where
    Absent : MaybeExpr
    Present : ExprTree → MaybeExpr

  -- the arms of a CASE: what stands behind WHEN, and behind THEN
  pub data ArmTrees : Type 0 where
    No_arm : ArmTrees
    Arm : ExprTree → ExprTree → ArmTrees → ArmTrees

  -- what stands behind a call: the condition of FILTER, and OVER
  pub data BehindTree : Type 0 where
    Behind : MaybeExpr → OverTree → BehindTree

  pub data OverTree : Type 0 where
    No_over : OverTree
    OverName : Name → OverTree
    Over : WindowTree → OverTree

  -- PARTITION BY, ORDER BY, and the frame if one is written
  pub data WindowTree : Type 0 where
    Window : ExprTrees → TermTrees → Option Frame → WindowTree

  -- what stands behind ORDER BY
  pub data TermTrees : Type 0 where
    No_term : TermTrees
    Term : ExprTree → Direction → TermTrees → TermTrees

  -- every column, every column of one source, or an expression
  pub data ResultTree : Type 0 where
    All : ResultTree
    AllOf : Name → ResultTree
    Value : ExprTree → NameTree → ResultTree

  pub data ResultTrees : Type 0 where
    No_result : ResultTrees
    Result : ResultTree → ResultTrees → ResultTrees

  -- a table or an item of WITH, or a query; and its alias
  pub data SourceTree : Type 0 where
    Named : Name → Option Name → SourceTree
    Derived : QueryTree → Option Name → SourceTree

  -- the condition of a join
  pub data OnTree : Type 0 where
    Always : OnTree
    On : ExprTree → OnTree
    Using : List Name → OnTree

  -- the sources of FROM, joined from the left
  pub data FromTree : Type 0 where
    No_source : FromTree
    First : SourceTree → FromTree
    Joined : FromTree → Join → SourceTree → OnTree → FromTree

  -- the windows that are named behind WINDOW
  pub data DefinitionTrees : Type 0 where
    No_definition : DefinitionTrees
    Definition : Name → WindowTree → DefinitionTrees → DefinitionTrees

  -- whether DISTINCT is written, the result columns, FROM, WHERE, GROUP BY, HAVING, WINDOW
  pub data CoreTree : Type 0 where
    Select : Bool → ResultTrees → FromTree → MaybeExpr → ExprTrees → MaybeExpr → DefinitionTrees → CoreTree

  -- SELECTs, joined from the left
  pub data QueryTree : Type 0 where
    Core : CoreTree → QueryTree
    Compound : QueryTree → CompoundOperator → CoreTree → QueryTree

-- behind a call without FILTER and OVER
abbrev pub plain : BehindTree
plain = Behind Absent No_over

-- such calls
abbrev pub plain_count : ExprTree
plain_count = CountRows plain

abbrev pub plain_call : Function → ExprTrees → ExprTree
plain_call function es = Call function es plain

abbrev pub trees_of : List ExprTree → ExprTrees
trees_of [] = No_more
trees_of (e ∷ es) = More e (trees_of es)

abbrev pub arms_of : List (ExprTree × ExprTree) → ArmTrees
arms_of [] = No_arm
arms_of (a ∷ arms) = Arm a.0 a.1 (arms_of arms)

-- how many there are
abbrev pub count : ExprTrees → ℕ
count ExprTrees.No_more = 0
count (ExprTrees.More e es) = suc (count es)
