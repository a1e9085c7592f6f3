-- Worked statements: their tokens, their tree and their levels. Here no phrase has a source text.
use Rattle.std.specs.Prelude.{true, false, ℕ, pos, List, [], ◌∷◌, Some, None, codes}
use Rattle.sql_reader_tokens.specs.Lexeme.{Lexeme}
use Rattle.sql_reader_tokens.specs.declared.keywords.keyword.Keyword.{Keyword}
use Rattle.sql_reader_tokens.specs.declared.keywords.keyword.Keyword.TheVariants as k
use Rattle.sql_reader_tokens.specs.declared.sign.Sign.{Sign}
use Rattle.sql_reader_tokens.specs.declared.sign.Sign.TheVariants as s
use Rattle.sql_reader_tokens.specs.declared.token.Quoting.TheVariants as q
use Rattle.sql_reader_syntax.specs.ExprTree.{
  BehindTree,
  CoreTree,
  DefinitionTrees,
  ExprTree,
  ExprTrees,
  FromTree,
  MaybeExpr,
  NameTree,
  OnTree,
  OverTree,
  QueryTree,
  ResultTree,
  ResultTrees,
  SourceTree,
  TermTrees,
  WindowTree,
}
use Rattle.sql_reader_syntax.specs.StatementTree.{StatementTree}
use Rattle.sql_reader_syntax.specs.Tree.{Name}
use Rattle.sql_reader_syntax.specs.declared.expr.Function.TheVariants as f
use Rattle.sql_reader_syntax.specs.declared.query.CompoundOperator.TheVariants as c
use Rattle.sql_reader_syntax.specs.declared.query.Edge.TheVariants as e
use Rattle.sql_reader_syntax.specs.declared.query.Exclusion.TheVariants as x
use Rattle.sql_reader_syntax.specs.declared.query.FrameUnit.TheVariants as u
use Rattle.sql_reader_syntax.specs.declared.query.Join.TheVariants as j
use Rattle.sql_reader_grammar.specs.Clauses.{Tokens}
use Rattle.sql_reader_grammar.specs.Statements.{States}

abbrev pub number : ℕ → Lexeme
number n = Lexeme.Number (pos n)

abbrev pub word : Name → Lexeme
word = Lexeme.Name q.Bare

abbrev pub sign : Sign → Lexeme
sign = Lexeme.Punctuation

abbrev pub keyword : Keyword → Lexeme
keyword = Lexeme.Reserved

abbrev pub whole : ℕ → ExprTree
whole n = ExprTree.Number (pos n)

abbrev pub column : Name → ExprTree
column = ExprTree.Column None

abbrev pub a : Name
a = codes "a"

abbrev pub b : Name
b = codes "b"

abbrev pub t : Name
t = codes "t"

abbrev pub v : Name
v = codes "v"

abbrev pub sum : Name
sum = codes "sum"

-- one result column, without an alias
abbrev pub one : ExprTree → ResultTrees
one e = ResultTrees.Result (ResultTree.Value e (NameTree.SourceText [])) ResultTrees.No_result

-- SELECT .. FROM .., without other clauses
abbrev pub simple : ResultTrees → FromTree → CoreTree
simple rs sources =
    CoreTree.Select false rs sources MaybeExpr.Absent ExprTrees.No_more MaybeExpr.Absent DefinitionTrees.No_definition

abbrev pub table : Name → SourceTree
table name = SourceTree.Named name None

-- a query alone
abbrev pub bare : QueryTree → StatementTree
bare query = record {
  explain = false;
  items = [];
  query = query;
  order = TermTrees.No_term;
  limit = None;
  offset = None;
}

abbrev pub no_source : ℕ → ℕ → List ℕ
no_source left behind = []

-- the tokens are this statement, of so many levels
abbrev pub IsSpelt : Tokens → StatementTree → ℕ → Type 0
IsSpelt tokens tree levels = States no_source levels tree tokens

-- they are no statement
abbrev pub IsNothing : Tokens → Type 0
IsNothing tokens = (levels : ℕ) (tree : StatementTree) → ¬ (IsSpelt tokens tree levels)

pub record Examples : Type 0 where
  -- SELECT a UNION ALL SELECT b EXCEPT SELECT 1
  pub compounds : IsSpelt
      (keyword k.Select ∷ word a ∷ keyword k.Union ∷ keyword k.All ∷ keyword k.Select ∷ word b ∷ keyword k.Except
      ∷ keyword k.Select ∷ number 1 ∷ [])
      (bare (QueryTree.Compound
      (QueryTree.Compound (QueryTree.Core (simple (one (column a)) FromTree.No_source)) c.UnionAll
      (simple (one (column b)) FromTree.No_source)) c.Except (simple (one (whole 1)) FromTree.No_source))) 3
  -- SELECT a FROM t LEFT JOIN v USING (a, b);
  pub joins : IsSpelt
      (keyword k.Select ∷ word a ∷ keyword k.From ∷ word t ∷ keyword k.Left ∷ keyword k.Join ∷ word v ∷ keyword k.Using
      ∷ sign s.Open ∷ word a ∷ sign s.Comma ∷ word b ∷ sign s.Close ∷ sign s.Semicolon ∷ [])
      (bare (QueryTree.Core (simple (one (column a))
      (FromTree.Joined (FromTree.First (table t)) j.Left (table v) (OnTree.Using (a ∷ b ∷ [])))))) 1
  -- SELECT EXISTS (SELECT a FROM t)
  pub inner_query : IsSpelt
      (keyword k.Select ∷ keyword k.Exists ∷ sign s.Open ∷ keyword k.Select ∷ word a ∷ keyword k.From ∷ word t
      ∷ sign s.Close ∷ [])
      (bare (QueryTree.Core (simple
      (one (ExprTree.Exists (QueryTree.Core (simple (one (column a)) (FromTree.First (table t))))))
      FromTree.No_source))) 3
  -- SELECT sum(a) OVER (ORDER BY b DESC ROWS 1 PRECEDING)
  pub window : IsSpelt
      (keyword k.Select ∷ word sum ∷ sign s.Open ∷ word a ∷ sign s.Close ∷ keyword k.Over ∷ sign s.Open
      ∷ keyword k.Order ∷ keyword k.By ∷ word b ∷ keyword k.Desc ∷ keyword k.Rows ∷ number 1 ∷ keyword k.Preceding
      ∷ sign s.Close ∷ [])
      (bare (QueryTree.Core (simple (one (ExprTree.Call f.Sum (ExprTrees.More (column a) ExprTrees.No_more)
      (BehindTree.Behind MaybeExpr.Absent (OverTree.Over (WindowTree.Window ExprTrees.No_more
      (TermTrees.Term (column b) (record { descending = true; nulls_first = false }) TermTrees.No_term)
      (Some (record { unit = u.Rows; start = e.Preceding (pos 1); end = e.CurrentRow; exclusion = x.NoOthers })))))))
      FromTree.No_source))) 2
  -- SELECT a FROM t RIGHT JOIN v
  pub no_condition : IsNothing
      (keyword k.Select ∷ word a ∷ keyword k.From ∷ word t ∷ keyword k.Right ∷ keyword k.Join ∷ word v ∷ [])
  -- SELECT a OFFSET 1
  pub no_limit : IsNothing (keyword k.Select ∷ word a ∷ keyword k.Offset ∷ number 1 ∷ [])
  -- SELECT a FROM t GROUP BY a WHERE b
  pub no_order : IsNothing
      (keyword k.Select ∷ word a ∷ keyword k.From ∷ word t ∷ keyword k.Group ∷ keyword k.By ∷ word a ∷ keyword k.Where
      ∷ word b ∷ [])
  -- SELECT a FROM (SELECT b
  pub no_end : IsNothing
      (keyword k.Select ∷ word a ∷ keyword k.From ∷ sign s.Open ∷ keyword k.Select ∷ word b ∷ [])
