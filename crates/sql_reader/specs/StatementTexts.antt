-- What a text spells as a statement, and why it was refused. (SELECT; EXPLAIN QUERY PLAN; Limits In SQLite)
use Rattle.std.specs.Prelude.{◌<◌, ◌≤◌, ◌⊎◌, ℕ, List, length}
use Rattle.values.specs.declared.fault.Fault.{Fault}
use Rattle.values.specs.declared.fault.Fault.TheVariants as f
use Rattle.sql_reader_tokens.specs.Tokens.{Placed, Tokens}
use Rattle.sql_reader_tokens.specs.declared.keywords.keyword.Grammar.TheVariants as g
use Rattle.sql_reader_grammar.specs.Statements.{States}
use Rattle.sql_reader_grammar.specs.phrases.Texts.{lexemes, max_levels, max_text}
use Rattle.sql_reader_tokens.specs.source_texts.Sources.{source_text}
use Rattle.sql_reader.specs.statement_limits.Limits.{IsBeyond, IsWithin}
use Rattle.sql_reader_syntax.specs.StatementTree.{StatementTree}

-- the text spells this statement, in which some token stands in so many levels, and none in more
pub record SpellsAt (levels : ℕ) (text : List ℕ) (tree : StatementTree) : Type 0 where
  pub tokens : List Placed
  pub are_tokens : Tokens g.Select text tokens
  pub statement : States (source_text text tokens) levels tree (lexemes tokens)

-- the text spells this statement, within the limit of levels
pub record SpellsStatement (text : List ℕ) (tree : StatementTree) : Type 0 where
  pub levels : ℕ
  pub few : levels ≤ max_levels
  pub spelt : SpellsAt levels text tree

-- the text is no longer than may be, and the statement holds no more
pub record IsAllowed (text : List ℕ) (tree : StatementTree) : Type 0 where
  pub short : length text ≤ max_text
  pub small : IsWithin tree

-- the text has more tokens than the limit of levels, and each statement that it spells has more levels
pub record IsStatementTooDeep (text : List ℕ) : Type 0 where
  pub tokens : List Placed
  pub are_tokens : Tokens g.Select text tokens
  pub many : max_levels < length tokens
  pub deep : (levels : ℕ) (tree : StatementTree) → SpellsAt levels text tree → max_levels < levels

-- the text spells a statement that holds more columns or sources than may be
pub record IsTooLarge (text : List ℕ) : Type 0 where
  pub tree : StatementTree
  pub spelt : SpellsStatement text tree
  pub large : IsBeyond tree

-- why a text was refused: it spells no statement of any number of levels, or it is too long, too deep or too large, or
-- memory ran out
abbrev pub IsRefusedStatement : List ℕ → Fault → Type 0
IsRefusedStatement text (f.Syntax place) = (levels : ℕ) (tree : StatementTree) → ¬ SpellsAt levels text tree
IsRefusedStatement text f.Limit = (max_text < length text) ⊎ (IsStatementTooDeep text ⊎ IsTooLarge text)
IsRefusedStatement text f.NoMemory = Unit {0}
IsRefusedStatement text _ = ⊥
