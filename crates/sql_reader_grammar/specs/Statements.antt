-- Which tokens spell a statement: a query with what stands before and behind it. (SELECT; EXPLAIN QUERY PLAN)
use Rattle.std.specs.Prelude.{Bool, true, false, ℕ, max, ℤ, List, [], ◌∷◌, Option}
use Rattle.sql_reader_tokens.specs.Lexeme.{Lexeme}
use Rattle.sql_reader_tokens.specs.declared.keywords.keyword.Keyword.TheVariants as k
use Rattle.sql_reader_tokens.specs.declared.sign.Sign.TheVariants as s
use Rattle.sql_reader_grammar.specs.phrases.Lists.{Listed}
use Rattle.sql_reader_syntax.specs.ExprTree.{QueryTree, TermTrees}
use Rattle.sql_reader_syntax.specs.StatementTree.{ItemTree, StatementTree}
use Rattle.sql_reader_syntax.specs.Tree.{Name}
use Rattle.sql_reader_grammar.specs.Clauses.{Ends, Limits, Names, Tokens}
use Rattle.sql_reader_grammar.specs.Queries.{Orders, Queries}

-- [EXPLAIN QUERY PLAN]
pub data Explains : Bool → Tokens → Tokens → Type 0 where
  plain : {after : Tokens} → Explains false after after
  explain : {after : Tokens}
      → Explains true (Lexeme.Reserved k.Explain ∷ Lexeme.Reserved k.Query ∷ Lexeme.Reserved k.Plan ∷ after) after

-- ["(" name {"," name} ")"]
pub data Columns : List Name → Tokens → Tokens → Type 0 where
  no_columns : {after : Tokens} → Columns [] after after
  columns : {names : List Name} {from after : Tokens} → Listed Names names from (Lexeme.Punctuation s.Close ∷ after)
      → Columns names (Lexeme.Punctuation s.Open ∷ from) after

module _ (source : ℕ → ℕ → List ℕ) where
  -- name ["(" name {"," name} ")"] AS "(" query ")"
  pub data IsItem : ℕ → ItemTree → Tokens → Tokens → Type 0 where
    item : {h : ℕ} {name : Name} {columns : List Name} {query : QueryTree} {from mid rest after : Tokens}
        → Names name from mid → Columns columns mid (Lexeme.Reserved k.As ∷ Lexeme.Punctuation s.Open ∷ rest)
        → Queries source h query rest (Lexeme.Punctuation s.Close ∷ after)
        → IsItem h (record { name = name; columns = columns; query = query }) from after

  -- cte {"," cte}
  pub data Items : ℕ → List ItemTree → Tokens → Tokens → Type 0 where
    last_item : {h : ℕ} {i : ItemTree} {from after : Tokens} → IsItem h i from after → Items h (i ∷ []) from after
    more_items : {h j : ℕ} {i : ItemTree} {items : List ItemTree} {from rest after : Tokens}
        → IsItem h i from (Lexeme.Punctuation s.Comma ∷ rest) → Items j items rest after
        → Items (max h j) (i ∷ items) from after

  -- [WITH cte {"," cte}]
  pub data Withs : ℕ → List ItemTree → Tokens → Tokens → Type 0 where
    no_items : {after : Tokens} → Withs 0 [] after after
    items : {h : ℕ} {items : List ItemTree} {from after : Tokens} → Items h items from after
        → Withs h items (Lexeme.Reserved k.With ∷ from) after

  -- [EXPLAIN QUERY PLAN] [WITH ..] query [ORDER BY ..] [LIMIT ..] [";"]
  pub data States : ℕ → StatementTree → Tokens → Type 0 where
    states : {h i j : ℕ} {explain : Bool} {items : List ItemTree} {query : QueryTree} {order : TermTrees}
        {limit offset : Option ℤ} {from with start sorted limited after : Tokens} → Explains explain from start
        → Withs h items start with → Queries source i query with sorted → Orders source j order sorted limited
        → Limits limit offset limited after → Ends after
        → States (max h (max i j))
        (record {
          explain = explain;
          items = items;
          query = query;
          order = order;
          limit = limit;
          offset = offset;
        })
        from
