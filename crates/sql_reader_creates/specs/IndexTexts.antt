-- What a text spells as a CREATE INDEX, and why it was refused. (CREATE INDEX; Limits In SQLite)
use Rattle.std.specs.Prelude.{◌<◌, ◌≤◌, ◌⊎◌, ℕ, List, length}
use Rattle.values.specs.declared.fault.Fault.{Fault}
use Rattle.values.specs.declared.fault.Fault.TheVariants as f
use Rattle.sql_reader_tokens.specs.Tokens.{Placed, Tokens}
use Rattle.sql_reader_tokens.specs.declared.keywords.keyword.Grammar.TheVariants as g
use Rattle.sql_reader_grammar.specs.phrases.Texts.{lexemes, max_columns, max_levels, max_text}
use Rattle.sql_reader_tokens.specs.source_texts.Sources.{source_text}
use Rattle.sql_reader_creates.specs.IndexGrammar.{CreatesIndex}
use Rattle.sql_reader_grammar.specs.create_trees.CreateTrees.{IndexTree, columns_of_index}

-- the text spells this CREATE INDEX, in whose condition some token stands in so many levels, and none in more
pub record SpellsIndexAt (levels : ℕ) (text : List ℕ) (tree : IndexTree) : Type 0 where
  pub tokens : List Placed
  pub are_tokens : Tokens g.Create text tokens
  pub statement : CreatesIndex (source_text text tokens) levels tree (lexemes tokens)

-- the text spells this CREATE INDEX, within the limit of levels
pub record SpellsIndex (text : List ℕ) (tree : IndexTree) : Type 0 where
  pub levels : ℕ
  pub few : levels ≤ max_levels
  pub spelt : SpellsIndexAt levels text tree

-- it spells none, of any number of levels
abbrev pub SpellsNoIndex : List ℕ → Type 0
SpellsNoIndex text = (levels : ℕ) (tree : IndexTree) → ¬ SpellsIndexAt levels text tree

-- the text has more tokens than the limit of levels, and each CREATE INDEX that it spells has more levels
pub record IsIndexTooDeep (text : List ℕ) : Type 0 where
  pub tokens : List Placed
  pub are_tokens : Tokens g.Create text tokens
  pub many : max_levels < length tokens
  pub deep : (levels : ℕ) (tree : IndexTree) → SpellsIndexAt levels text tree → max_levels < levels

-- the text spells a CREATE INDEX of more columns than may be
pub record IsTooWide (text : List ℕ) : Type 0 where
  pub tree : IndexTree
  pub spelt : SpellsIndex text tree
  pub wide : max_columns < columns_of_index tree

-- it is longer than may be, too deep or too wide
abbrev pub IsTooMuch : List ℕ → Type 0
IsTooMuch text = (max_text < length text) ⊎ (IsIndexTooDeep text ⊎ IsTooWide text)

-- why a text was refused: it spells no CREATE INDEX, or it passes a limit, or memory ran out
abbrev pub IsRefusedIndex : List ℕ → Fault → Type 0
IsRefusedIndex text (f.Syntax place) = SpellsNoIndex text
IsRefusedIndex text f.Limit = IsTooMuch text
IsRefusedIndex text f.NoMemory = Unit {0}
IsRefusedIndex text _ = ⊥
