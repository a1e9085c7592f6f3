-- Which tokens spell an expression, and which a query: queries stand in expressions, and expressions in queries.
-- (SQL Language Expressions; SELECT) `X levels tree from after` says that the tokens of from, up to where after begins,
-- spell the tree as a phrase of this kind, and that some token of them stands in so many levels, and none in more.
-- Levels are SELECTs, the operators between them, operators of expressions, calls, CASEs and parentheses around an
-- expression. There is one constructor for each production.
use Rattle.std.specs.Prelude.{◌≡◌, Bool, true, false, ℕ, suc, max, ℤ, List, ◌∷◌, length, Some, None, Option}
use Rattle.sql_reader_tokens.specs.Lexeme.{Lexeme}
use Rattle.sql_reader_tokens.specs.declared.keywords.keyword.Keyword.TheVariants as k
use Rattle.sql_reader_tokens.specs.declared.sign.Sign.TheVariants as s
use Rattle.sql_reader_tokens.specs.declared.token.Quoting.{Quoting}
use Rattle.sql_reader_tokens.specs.declared.token.Quoting.TheVariants as q
use Rattle.sql_reader_grammar.specs.phrases.Lists.{Listed}
use Rattle.sql_reader_syntax.specs.ExprTree.{
  ArmTrees,
  BehindTree,
  CoreTree,
  DefinitionTrees,
  ExprTree,
  ExprTrees,
  FromTree,
  MaybeExpr,
  NameTree,
  OnTree,
  OverTree,
  QueryTree,
  ResultTree,
  ResultTrees,
  SourceTree,
  TermTrees,
  WindowTree,
  count,
}
use Rattle.sql_reader_syntax.specs.Functions.{function_of, takes, takes_number}
use Rattle.sql_reader_syntax.specs.Tree.{Name}
use Rattle.sql_reader_syntax.specs.declared.expr.BinaryOperator.{BinaryOperator}
use Rattle.sql_reader_syntax.specs.declared.expr.Function.{Function}
use Rattle.sql_reader_syntax.specs.declared.expr.Function.TheVariants as f
use Rattle.sql_reader_syntax.specs.declared.expr.PostfixOperator.{PostfixOperator}
use Rattle.sql_reader_syntax.specs.declared.expr.PrefixOperator.{PrefixOperator}
use Rattle.sql_reader_syntax.specs.declared.query.CompoundOperator.{CompoundOperator}
use Rattle.sql_reader_syntax.specs.declared.query.Direction.{Direction}
use Rattle.sql_reader_syntax.specs.declared.query.Frame.{Frame}
use Rattle.sql_reader_syntax.specs.declared.query.Join.{Join}
use Rattle.sql_reader_grammar.specs.Clauses.{Aliases, Compounds, Directs, Frames, Joins, Names, Quantifies, Titles, Tokens, Wants, may_have, may_lack}
use Rattle.sql_reader_grammar.specs.Operators.{
  Follows,
  IsLiteral,
  MaybeNot,
  Precedes,
  Stands,
  comparison_level,
  equality_level,
  level_of,
  level_of_prefix,
  or_level,
  primary_level,
}

-- in no list of members stands a number by rule
abbrev pub nowhere : ℕ → Bool
nowhere place = false

-- `source left behind` is the source text of a phrase at whose beginning so many tokens are left, and so many behind it
module _ (source : ℕ → ℕ → List ℕ) where
  mutual
    -- Expressions, of a level of the grammar
    pub data Expresses : ℕ → ℕ → ExprTree → Tokens → Tokens → Type 0 where
      -- a phrase of the next level is one of this level
      tighter : {q h : ℕ} {e : ExprTree} {from after : Tokens} → Expresses (suc q) h e from after
          → Expresses q h e from after
      -- level operator (level + 1)
      binary : {h i : ℕ} {x y : ExprTree} {op : BinaryOperator} {from mid right after : Tokens}
          → Expresses (level_of op) h x from mid → Stands op mid right → Expresses (suc (level_of op)) i y right after
          → Expresses (level_of op) (suc (max h i)) (ExprTree.Binary op x y) from after
      -- eq [NOT] BETWEEN rel AND rel
      between : {h i j : ℕ} {n : Bool} {e x y : ExprTree} {from mid low high after : Tokens}
          → Expresses equality_level h e from mid → MaybeNot k.Between n mid low
          → Expresses comparison_level i x low (Lexeme.Reserved k.And ∷ high) → Expresses comparison_level j y high after
          → Expresses equality_level (suc (max h (max i j))) (ExprTree.Between n e x y) from after
      -- eq [NOT] IN "(" ")"
      in_none : {h : ℕ} {n : Bool} {e : ExprTree} {from mid after : Tokens}
          → Expresses equality_level h e from mid
          → MaybeNot k.In n mid (Lexeme.Punctuation s.Open ∷ Lexeme.Punctuation s.Close ∷ after)
          → Expresses equality_level (suc h) (ExprTree.In n e ExprTrees.No_more) from after
      -- eq [NOT] IN "(" expr {"," expr} ")"
      in_list : {h i : ℕ} {n : Bool} {e : ExprTree} {es : ExprTrees} {from mid members after : Tokens}
          → Expresses equality_level h e from mid → MaybeNot k.In n mid (Lexeme.Punctuation s.Open ∷ members)
          → ExpressesAll nowhere 0 i es members (Lexeme.Punctuation s.Close ∷ after)
          → Expresses equality_level (suc (max h i)) (ExprTree.In n e es) from after
      -- eq [NOT] IN "(" query ")"
      in_query : {h i : ℕ} {n : Bool} {e : ExprTree} {query : QueryTree} {from mid inside after : Tokens}
          → Expresses equality_level h e from mid → MaybeNot k.In n mid (Lexeme.Punctuation s.Open ∷ inside)
          → Queries i query inside (Lexeme.Punctuation s.Close ∷ after)
          → Expresses equality_level (suc (max h i)) (ExprTree.InQuery n e query) from after
      -- eq ISNULL | eq NOTNULL
      postfix : {h : ℕ} {op : PostfixOperator} {e : ExprTree} {word : Lexeme} {from after : Tokens}
          → Expresses equality_level h e from (word ∷ after) → Follows op word
          → Expresses equality_level (suc h) (ExprTree.Postfix op e) from after
      -- NOT not | ("-" | "+" | "~") unary
      prefix : {h : ℕ} {op : PrefixOperator} {e : ExprTree} {word : Lexeme} {from after : Tokens}
          → Precedes op word → Expresses (level_of_prefix op) h e from after
          → Expresses (level_of_prefix op) (suc h) (ExprTree.Prefix op e) (word ∷ from) after
      literal : {e : ExprTree} {word : Lexeme} {after : Tokens} → IsLiteral e word
          → Expresses primary_level 0 e (word ∷ after) after
      -- name
      column : {q : Quoting} {name : Name} {after : Tokens}
          → Expresses primary_level 0 (ExprTree.Column None name) (Lexeme.Name q name ∷ after) after
      -- name "." name
      column_of : {q r : Quoting} {table name : Name} {after : Tokens}
          → Expresses primary_level 0 (ExprTree.Column (Some table) name)
          (Lexeme.Name q table ∷ Lexeme.Punctuation s.Dot ∷ Lexeme.Name r name ∷ after) after
      -- "(" expr ")"
      parentheses : {h : ℕ} {e : ExprTree} {from after : Tokens}
          → Expresses or_level h e from (Lexeme.Punctuation s.Close ∷ after)
          → Expresses primary_level (suc h) e (Lexeme.Punctuation s.Open ∷ from) after
      -- EXISTS "(" query ")"
      exists : {h : ℕ} {query : QueryTree} {from after : Tokens}
          → Queries h query from (Lexeme.Punctuation s.Close ∷ after)
          → Expresses primary_level (suc h) (ExprTree.Exists query)
          (Lexeme.Reserved k.Exists ∷ Lexeme.Punctuation s.Open ∷ from) after
      -- count "(" "*" ")"
      count_rows : {h : ℕ} {word : Name} {behind : BehindTree} {from after : Tokens} → function_of word ≡ Some f.Count
          → StandsBehind h behind from after
          → Expresses primary_level (suc h) (ExprTree.CountRows behind)
          (Lexeme.Name q.Bare word ∷ Lexeme.Punctuation s.Open ∷ Lexeme.Punctuation s.Star ∷ Lexeme.Punctuation s.Close
          ∷ from) after
      -- function "(" ")"
      call_none : {h : ℕ} {word : Name} {function : Function} {behind : BehindTree} {from after : Tokens}
          → function_of word ≡ Some function → takes function 0 ≡ true → StandsBehind h behind from after
          → Expresses primary_level (suc h) (ExprTree.Call function ExprTrees.No_more behind)
          (Lexeme.Name q.Bare word ∷ Lexeme.Punctuation s.Open ∷ Lexeme.Punctuation s.Close ∷ from) after
      -- function "(" argument {"," argument} ")"
      call : {h i : ℕ} {word : Name} {function : Function} {es : ExprTrees} {behind : BehindTree}
          {from rest after : Tokens} → function_of word ≡ Some function
          → ExpressesAll (takes_number function) 0 h es from (Lexeme.Punctuation s.Close ∷ rest)
          → takes function (count es) ≡ true → StandsBehind i behind rest after
          → Expresses primary_level (suc (max h i)) (ExprTree.Call function es behind)
          (Lexeme.Name q.Bare word ∷ Lexeme.Punctuation s.Open ∷ from) after
      -- CASE [expr] WHEN expr THEN expr {WHEN expr THEN expr} [ELSE expr] END
      choice : {h i j : ℕ} {base other : MaybeExpr} {arms : ArmTrees} {from whens rest after : Tokens}
          → ExpressesOperand h base from whens → ExpressesArms i arms whens rest
          → ExpressesElse j other rest after
          → Expresses primary_level (suc (max h (max i j))) (ExprTree.Case base arms other) (Lexeme.Reserved k.Case ∷ from)
          after

    -- one or more with commas between them, of which the first has this place in its list; where the function says so,
    -- one is a number alone
    pub data ExpressesAll : (ℕ → Bool) → ℕ → ℕ → ExprTrees → Tokens → Tokens → Type 0 where
      last : {h place : ℕ} {numbers : ℕ → Bool} {e : ExprTree} {from after : Tokens}
          → ExpressesItem (numbers place) h e from after
          → ExpressesAll numbers place h (ExprTrees.More e ExprTrees.No_more) from after
      more : {h i place : ℕ} {numbers : ℕ → Bool} {e : ExprTree} {es : ExprTrees} {from rest after : Tokens}
          → ExpressesItem (numbers place) h e from (Lexeme.Punctuation s.Comma ∷ rest)
          → ExpressesAll numbers (suc place) i es rest after
          → ExpressesAll numbers place (max h i) (ExprTrees.More e es) from after

    -- expr, or a number alone
    pub data ExpressesItem : Bool → ℕ → ExprTree → Tokens → Tokens → Type 0 where
      expression : {h : ℕ} {e : ExprTree} {from after : Tokens} → Expresses or_level h e from after
          → ExpressesItem false h e from after
      number : {n : ℤ} {after : Tokens} → ExpressesItem true 0 (ExprTree.Number n) (Lexeme.Number n ∷ after) after

    -- [expr]
    pub data ExpressesOperand : ℕ → MaybeExpr → Tokens → Tokens → Type 0 where
      no_operand : {after : Tokens} → ExpressesOperand 0 MaybeExpr.Absent after after
      operand : {h : ℕ} {e : ExprTree} {from after : Tokens} → Expresses or_level h e from after
          → ExpressesOperand h (MaybeExpr.Present e) from after

    -- WHEN expr THEN expr {WHEN expr THEN expr}
    pub data ExpressesArms : ℕ → ArmTrees → Tokens → Tokens → Type 0 where
      last_arm : {h i : ℕ} {x y : ExprTree} {from mid after : Tokens}
          → Expresses or_level h x from (Lexeme.Reserved k.Then ∷ mid) → Expresses or_level i y mid after
          → ExpressesArms (max h i) (ArmTrees.Arm x y ArmTrees.No_arm) (Lexeme.Reserved k.When ∷ from) after
      more_arms : {h i j : ℕ} {x y : ExprTree} {arms : ArmTrees} {from mid rest after : Tokens}
          → Expresses or_level h x from (Lexeme.Reserved k.Then ∷ mid) → Expresses or_level i y mid rest
          → ExpressesArms j arms rest after
          → ExpressesArms (max (max h i) j) (ArmTrees.Arm x y arms) (Lexeme.Reserved k.When ∷ from) after

    -- [ELSE expr] END
    pub data ExpressesElse : ℕ → MaybeExpr → Tokens → Tokens → Type 0 where
      no_else : {after : Tokens} → ExpressesElse 0 MaybeExpr.Absent (Lexeme.Reserved k.End ∷ after) after
      otherwise : {h : ℕ} {e : ExprTree} {from after : Tokens}
          → Expresses or_level h e from (Lexeme.Reserved k.End ∷ after)
          → ExpressesElse h (MaybeExpr.Present e) (Lexeme.Reserved k.Else ∷ from) after

    -- Calls of aggregates and window functions

    -- [FILTER "(" WHERE expr ")"] [OVER (name | window)]
    pub data StandsBehind : ℕ → BehindTree → Tokens → Tokens → Type 0 where
      behind : {h i : ℕ} {filter : MaybeExpr} {over : OverTree} {from mid after : Tokens}
          → Filters h filter from mid → Overs i over mid after
          → StandsBehind (max h i) (BehindTree.Behind filter over) from after

    -- [FILTER "(" WHERE expr ")"]
    pub data Filters : ℕ → MaybeExpr → Tokens → Tokens → Type 0 where
      no_filter : {after : Tokens} → Filters 0 MaybeExpr.Absent after after
      filter : {h : ℕ} {e : ExprTree} {from after : Tokens} → Expresses or_level h e from (Lexeme.Punctuation s.Close ∷ after)
          → Filters h (MaybeExpr.Present e)
          (Lexeme.Reserved k.Filter ∷ Lexeme.Punctuation s.Open ∷ Lexeme.Reserved k.Where ∷ from) after

    -- [OVER (name | window)]
    pub data Overs : ℕ → OverTree → Tokens → Tokens → Type 0 where
      no_over : {after : Tokens} → Overs 0 OverTree.No_over after after
      over_name : {q : Quoting} {name : Name} {after : Tokens}
          → Overs 0 (OverTree.OverName name) (Lexeme.Reserved k.Over ∷ Lexeme.Name q name ∷ after) after
      over : {h : ℕ} {window : WindowTree} {from after : Tokens} → Windows h window from after
          → Overs h (OverTree.Over window) (Lexeme.Reserved k.Over ∷ from) after

    -- "(" [PARTITION BY expr {"," expr}] [ORDER BY term {"," term}] [frame] ")"
    pub data Windows : ℕ → WindowTree → Tokens → Tokens → Type 0 where
      window : {h i : ℕ} {es : ExprTrees} {terms : TermTrees} {frame : Option Frame} {from mid rest after : Tokens}
          → Partitions h es from mid → Orders i terms mid rest → Frames frame rest (Lexeme.Punctuation s.Close ∷ after)
          → Windows (max h i) (WindowTree.Window es terms frame) (Lexeme.Punctuation s.Open ∷ from) after

    -- [PARTITION BY expr {"," expr}]
    pub data Partitions : ℕ → ExprTrees → Tokens → Tokens → Type 0 where
      no_partition : {after : Tokens} → Partitions 0 ExprTrees.No_more after after
      partition : {h : ℕ} {es : ExprTrees} {from after : Tokens} → ExpressesAll nowhere 0 h es from after
          → Partitions h es (Lexeme.Reserved k.Partition ∷ Lexeme.Reserved k.By ∷ from) after

    -- [ORDER BY term {"," term}]
    pub data Orders : ℕ → TermTrees → Tokens → Tokens → Type 0 where
      no_order : {after : Tokens} → Orders 0 TermTrees.No_term after after
      order : {h : ℕ} {terms : TermTrees} {from after : Tokens} → Terms h terms from after
          → Orders h terms (Lexeme.Reserved k.Order ∷ Lexeme.Reserved k.By ∷ from) after

    -- one or more `expr [ASC | DESC] [NULLS FIRST | NULLS LAST]`, with commas between them
    pub data Terms : ℕ → TermTrees → Tokens → Tokens → Type 0 where
      last_term : {h : ℕ} {e : ExprTree} {direction : Direction} {from mid after : Tokens}
          → Expresses or_level h e from mid → Directs direction mid after
          → Terms h (TermTrees.Term e direction TermTrees.No_term) from after
      more_terms : {h i : ℕ} {e : ExprTree} {direction : Direction} {terms : TermTrees} {from mid rest after : Tokens}
          → Expresses or_level h e from mid → Directs direction mid (Lexeme.Punctuation s.Comma ∷ rest)
          → Terms i terms rest after → Terms (max h i) (TermTrees.Term e direction terms) from after

    -- Queries

    -- core | query (UNION | UNION ALL | INTERSECT | EXCEPT) core
    pub data Queries : ℕ → QueryTree → Tokens → Tokens → Type 0 where
      core : {h : ℕ} {c : CoreTree} {from after : Tokens} → Selects h c from after
          → Queries h (QueryTree.Core c) from after
      compound : {h i : ℕ} {query : QueryTree} {op : CompoundOperator} {c : CoreTree} {from mid right after : Tokens}
          → Queries h query from mid → Compounds op mid right → Selects i c right after
          → Queries (suc (max h i)) (QueryTree.Compound query op c) from after

    -- SELECT [DISTINCT | ALL] item {"," item} [FROM from] [WHERE expr] [GROUP BY ..] [WINDOW ..]
    pub data Selects : ℕ → CoreTree → Tokens → Tokens → Type 0 where
      select : {h i j l m : ℕ} {distinct : Bool} {results : ResultTrees} {sources : FromTree}
          {condition having : MaybeExpr} {by : ExprTrees} {windows : DefinitionTrees}
          {from items joined tested grouped named after : Tokens}
          → Quantifies distinct from items → Results h results items joined → Froms i sources joined tested
          → Wheres j condition tested grouped → Groups l by having grouped named → Defines m windows named after
          → Selects (suc (max h (max i (max j (max l m)))))
          (CoreTree.Select distinct results sources condition by having windows) (Lexeme.Reserved k.Select ∷ from) after

    -- one or more result columns, with commas between them
    pub data Results : ℕ → ResultTrees → Tokens → Tokens → Type 0 where
      last_result : {h : ℕ} {r : ResultTree} {from after : Tokens} → IsResult h r from after
          → Results h (ResultTrees.Result r ResultTrees.No_result) from after
      more_results : {h i : ℕ} {r : ResultTree} {rs : ResultTrees} {from rest after : Tokens}
          → IsResult h r from (Lexeme.Punctuation s.Comma ∷ rest) → Results i rs rest after
          → Results (max h i) (ResultTrees.Result r rs) from after

    -- "*" | name "." "*" | expr [[AS] name]
    pub data IsResult : ℕ → ResultTree → Tokens → Tokens → Type 0 where
      all : {after : Tokens} → IsResult 0 ResultTree.All (Lexeme.Punctuation s.Star ∷ after) after
      all_of : {q : Quoting} {table : Name} {after : Tokens}
          → IsResult 0 (ResultTree.AllOf table)
          (Lexeme.Name q table ∷ Lexeme.Punctuation s.Dot ∷ Lexeme.Punctuation s.Star ∷ after) after
      value : {h : ℕ} {e : ExprTree} {title : NameTree} {from mid after : Tokens} → Expresses or_level h e from mid
          → Titles (source (length from) (length mid)) title mid after
          → IsResult h (ResultTree.Value e title) from after

    -- [FROM from]
    pub data Froms : ℕ → FromTree → Tokens → Tokens → Type 0 where
      no_sources : {after : Tokens} → Froms 0 FromTree.No_source after after
      sources : {h : ℕ} {sources : FromTree} {from after : Tokens} → Sources h sources from after
          → Froms h sources (Lexeme.Reserved k.From ∷ from) after

    -- source | from ("," | CROSS JOIN) source | from [INNER] JOIN source [cond]
    --        | from (LEFT | RIGHT | FULL) [OUTER] JOIN source cond
    pub data Sources : ℕ → FromTree → Tokens → Tokens → Type 0 where
      first : {h : ℕ} {source : SourceTree} {from after : Tokens} → IsSource h source from after
          → Sources h (FromTree.First source) from after
      joined : {h i j : ℕ} {sources : FromTree} {join : Join} {wants : Wants} {source : SourceTree} {on : OnTree}
          {from mid right rest after : Tokens} → Sources h sources from mid → Joins join wants mid right
          → IsSource i source right rest → Ons wants j on rest after
          → Sources (max h (max i j)) (FromTree.Joined sources join source on) from after

    -- name [[AS] name] | "(" query ")" [[AS] name]
    pub data IsSource : ℕ → SourceTree → Tokens → Tokens → Type 0 where
      table : {name : Name} {alias : Option Name} {from mid after : Tokens} → Names name from mid
          → Aliases alias mid after → IsSource 0 (SourceTree.Named name alias) from after
      derived : {h : ℕ} {query : QueryTree} {alias : Option Name} {from mid after : Tokens}
          → Queries h query from (Lexeme.Punctuation s.Close ∷ mid) → Aliases alias mid after
          → IsSource h (SourceTree.Derived query alias) (Lexeme.Punctuation s.Open ∷ from) after

    -- ON expr | USING "(" name {"," name} ")", or nothing, where the join allows it
    pub data Ons : Wants → ℕ → OnTree → Tokens → Tokens → Type 0 where
      always : {wants : Wants} {after : Tokens} → may_lack wants ≡ true → Ons wants 0 OnTree.Always after after
      on : {h : ℕ} {wants : Wants} {e : ExprTree} {from after : Tokens} → may_have wants ≡ true
          → Expresses or_level h e from after → Ons wants h (OnTree.On e) (Lexeme.Reserved k.On ∷ from) after
      using : {wants : Wants} {names : List Name} {from after : Tokens} → may_have wants ≡ true
          → Listed Names names from (Lexeme.Punctuation s.Close ∷ after)
          → Ons wants 0 (OnTree.Using names) (Lexeme.Reserved k.Using ∷ Lexeme.Punctuation s.Open ∷ from) after

    -- [WHERE expr]
    pub data Wheres : ℕ → MaybeExpr → Tokens → Tokens → Type 0 where
      no_condition : {after : Tokens} → Wheres 0 MaybeExpr.Absent after after
      condition : {h : ℕ} {e : ExprTree} {from after : Tokens} → Expresses or_level h e from after
          → Wheres h (MaybeExpr.Present e) (Lexeme.Reserved k.Where ∷ from) after

    -- [GROUP BY expr {"," expr} [HAVING expr]]
    pub data Groups : ℕ → ExprTrees → MaybeExpr → Tokens → Tokens → Type 0 where
      no_groups : {after : Tokens} → Groups 0 ExprTrees.No_more MaybeExpr.Absent after after
      groups : {h i : ℕ} {es : ExprTrees} {having : MaybeExpr} {from mid after : Tokens}
          → ExpressesAll nowhere 0 h es from mid → Havings i having mid after
          → Groups (max h i) es having (Lexeme.Reserved k.Group ∷ Lexeme.Reserved k.By ∷ from) after

    -- [HAVING expr]
    pub data Havings : ℕ → MaybeExpr → Tokens → Tokens → Type 0 where
      no_having : {after : Tokens} → Havings 0 MaybeExpr.Absent after after
      having : {h : ℕ} {e : ExprTree} {from after : Tokens} → Expresses or_level h e from after
          → Havings h (MaybeExpr.Present e) (Lexeme.Reserved k.Having ∷ from) after

    -- [WINDOW name AS window {"," name AS window}]
    pub data Defines : ℕ → DefinitionTrees → Tokens → Tokens → Type 0 where
      no_windows : {after : Tokens} → Defines 0 DefinitionTrees.No_definition after after
      windows : {h : ℕ} {windows : DefinitionTrees} {from after : Tokens} → DefinesAll h windows from after
          → Defines h windows (Lexeme.Reserved k.Window ∷ from) after

    -- name AS window {"," name AS window}
    pub data DefinesAll : ℕ → DefinitionTrees → Tokens → Tokens → Type 0 where
      last_window : {h : ℕ} {q : Quoting} {name : Name} {window : WindowTree} {from after : Tokens}
          → Windows h window from after
          → DefinesAll h (DefinitionTrees.Definition name window DefinitionTrees.No_definition)
          (Lexeme.Name q name ∷ Lexeme.Reserved k.As ∷ from) after
      more_windows : {h i : ℕ} {q : Quoting} {name : Name} {window : WindowTree} {windows : DefinitionTrees}
          {from rest after : Tokens} → Windows h window from (Lexeme.Punctuation s.Comma ∷ rest)
          → DefinesAll i windows rest after
          → DefinesAll (max h i) (DefinitionTrees.Definition name window windows)
          (Lexeme.Name q name ∷ Lexeme.Reserved k.As ∷ from) after
