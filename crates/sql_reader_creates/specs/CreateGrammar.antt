-- Which tokens spell a CREATE TABLE. (CREATE TABLE; STRICT Tables; WITHOUT ROWID Tables)
use Rattle.std.specs.Prelude.{◌≡◌, true, ℕ, List, [], ◌∷◌, Option, None, Some, codes}
use Rattle.sql_reader_tokens.specs.Content.{is_bare_word}
use Rattle.sql_reader_tokens.specs.Lexeme.{Lexeme}
use Rattle.sql_reader_tokens.specs.declared.keywords.keyword.Grammar.TheVariants as g
use Rattle.sql_reader_tokens.specs.declared.keywords.keyword.Keyword.TheVariants as k
use Rattle.sql_reader_tokens.specs.declared.sign.Sign.TheVariants as s
use Rattle.sql_reader_tokens.specs.declared.token.Quoting.{Quoting}
use Rattle.sql_reader_grammar.specs.phrases.Lists.{AfterComma, Many, Listed}
use Rattle.sql_reader_grammar.specs.phrases.Texts.{Spells}
use Rattle.sql_reader_creates.specs.column_reader.ColumnGrammar.{Body, Defines, MaybeTitled, Named, Ordered, Refers}
use Rattle.sql_reader_syntax.specs.Tree.{Name}
use Rattle.sql_reader_grammar.specs.create_trees.CreateTrees.{ColumnTree, IndexedColumnTree, TableConstraintTree, TableTree}
use Rattle.sql_reader_grammar.specs.declared.create_trees.create.KeyOrder.{KeyOrder}
use Rattle.sql_reader_grammar.specs.declared.create_trees.create.TableOption.{TableOption}
use Rattle.sql_reader_grammar.specs.declared.create_trees.create.TableOption.TheVariants as o

-- Keys

-- [COLLATE name]
pub data MaybeCollated : Option Name → List Lexeme → List Lexeme → Type 0 where
  none : {after : List Lexeme} → MaybeCollated None after after
  collated : {q : Quoting} {name : Name} {after : List Lexeme}
      → MaybeCollated (Some name) (Lexeme.Reserved k.Collate ∷ Lexeme.Name q name ∷ after) after

-- name [COLLATE name] [ASC | DESC]
pub data Indexes : IndexedColumnTree → List Lexeme → List Lexeme → Type 0 where
  column : {q : Quoting} {name : Name} {collation : Option Name} {order : KeyOrder} {from mid after : List Lexeme}
      → MaybeCollated collation from mid → Ordered order mid after
      → Indexes (record { name = name; collation = collation; order = order }) (Lexeme.Name q name ∷ from) after

-- "(" column {"," column} ")"
pub data IndexesAll : List IndexedColumnTree → List Lexeme → List Lexeme → Type 0 where
  columns : {columns : List IndexedColumnTree} {from after : List Lexeme}
      → Listed Indexes columns from (Lexeme.Punctuation s.Close ∷ after)
      → IndexesAll columns (Lexeme.Punctuation s.Open ∷ from) after

-- Constraints of a table

-- PRIMARY KEY (..) | UNIQUE (..) | CHECK (..) | FOREIGN KEY "(" name {"," name} ")" REFERENCES ..
pub data TableDemands : TableConstraintTree → List Lexeme → List Lexeme → Type 0 where
  primary_key : {word : Lexeme} {columns : List IndexedColumnTree} {from after : List Lexeme}
      → is_bare_word word (codes "KEY") ≡ true → IndexesAll columns from after
      → TableDemands (TableConstraintTree.PrimaryKey columns) (Lexeme.Reserved k.Primary ∷ word ∷ from) after
  unique : {columns : List IndexedColumnTree} {from after : List Lexeme} → IndexesAll columns from after
      → TableDemands (TableConstraintTree.Unique columns) (Lexeme.Reserved k.Unique ∷ from) after
  check : {from after : List Lexeme} → Body from after
      → TableDemands TableConstraintTree.Check (Lexeme.Reserved k.Check ∷ from) after
  foreign_key : {word : Lexeme} {names : List Name} {from mid after : List Lexeme}
      → is_bare_word word (codes "KEY") ≡ true
      → Listed Named names from (Lexeme.Punctuation s.Close ∷ Lexeme.Reserved k.References ∷ mid) → Refers mid after
      → TableDemands (TableConstraintTree.ForeignKey names)
      (Lexeme.Reserved k.Foreign ∷ word ∷ Lexeme.Punctuation s.Open ∷ from) after

-- [CONSTRAINT name] and what it demands
pub data TableConstrains : TableConstraintTree → List Lexeme → List Lexeme → Type 0 where
  constraint : {tree : TableConstraintTree} {from mid after : List Lexeme} → MaybeTitled from mid
      → TableDemands tree mid after → TableConstrains tree from after

-- Options

-- STRICT | WITHOUT ROWID
pub data Opts : TableOption → List Lexeme → List Lexeme → Type 0 where
  strict : {word : Lexeme} {after : List Lexeme} → is_bare_word word (codes "STRICT") ≡ true
      → Opts o.Strict (word ∷ after) after
  without_rowid : {word next : Lexeme} {after : List Lexeme} → is_bare_word word (codes "WITHOUT") ≡ true
      → is_bare_word next (codes "ROWID") ≡ true → Opts o.WithoutRowid (word ∷ next ∷ after) after

-- [option {"," option}], and nothing behind it
pub data Closes : List TableOption → List Lexeme → Type 0 where
  none : Closes [] []
  options : {options : List TableOption} {from : List Lexeme} → Listed Opts options from [] → Closes options from

-- The statement

-- CREATE TABLE name "(" column {"," column} {"," constraint} ")" [option {"," option}]
pub data Creates : TableTree → List Lexeme → Type 0 where
  table : {q : Quoting} {name : Name} {columns : List ColumnTree} {constraints : List TableConstraintTree}
      {options : List TableOption} {from mid after : List Lexeme}
      → Listed Defines columns from mid → Many (AfterComma TableConstrains) constraints mid (Lexeme.Punctuation s.Close ∷ after)
      → Closes options after
      → Creates (record { name = name; columns = columns; constraints = constraints; options = options })
      (Lexeme.Reserved k.Create ∷ Lexeme.Reserved k.Table ∷ Lexeme.Name q name ∷ Lexeme.Punctuation s.Open ∷ from)

-- the text spells this CREATE TABLE
abbrev pub SpellsCreate : List ℕ → TableTree → Type 0
SpellsCreate = Spells g.Create Creates
