-- Which tokens spell a column of a CREATE TABLE. (CREATE TABLE)
use Rattle.std.specs.Prelude.{◌≡◌, true, false, Bool, ◌||◌, ℕ, ℤ, List, [], ◌∷◌, codes}
use Rattle.sql_reader_tokens.specs.Content.{is_bare_word}
use Rattle.sql_reader_tokens.specs.Lexeme.{Lexeme}
use Rattle.sql_reader_tokens.specs.declared.keywords.keyword.Keyword.TheVariants as k
use Rattle.sql_reader_tokens.specs.declared.sign.Sign.TheVariants as s
use Rattle.sql_reader_tokens.specs.declared.token.Quoting.{Quoting}
use Rattle.sql_reader_tokens.specs.declared.token.Quoting.TheVariants as quoting
use Rattle.sql_reader_grammar.specs.phrases.Lists.{Many, Listed}
use Rattle.sql_reader_syntax.specs.Tree.{Name}
use Rattle.sql_reader_grammar.specs.create_trees.CreateTrees.{TypeTree, DefaultTree, ConstraintTree, ColumnTree}
use Rattle.sql_reader_grammar.specs.declared.create_trees.create.KeyOrder.{KeyOrder}
use Rattle.sql_reader_grammar.specs.declared.create_trees.create.KeyOrder.TheVariants as o

-- Types

-- an unquoted name
pub data Word : Name → List Lexeme → List Lexeme → Type 0 where
  bare : {name : Name} {after : List Lexeme} → Word name (Lexeme.Name quoting.Bare name ∷ after) after

-- ["(" number ["," number] ")"], of which it is kept whether it stands there
pub data MaybeSized : Bool → List Lexeme → List Lexeme → Type 0 where
  none : {after : List Lexeme} → MaybeSized false after after
  one : {n : ℤ} {after : List Lexeme}
      → MaybeSized true (Lexeme.Punctuation s.Open ∷ Lexeme.Number n ∷ Lexeme.Punctuation s.Close ∷ after) after
  two : {n m : ℤ} {after : List Lexeme}
      → MaybeSized true
      (Lexeme.Punctuation s.Open ∷ Lexeme.Number n ∷ Lexeme.Punctuation s.Comma ∷ Lexeme.Number m ∷ Lexeme.Punctuation s.Close ∷ after)
      after

-- [word {word} ["(" number ["," number] ")"]]
pub data Types : TypeTree → List Lexeme → List Lexeme → Type 0 where
  none : {after : List Lexeme} → Types (record { words = []; is_sized = false }) after after
  words : {word : Name} {words : List Name} {sized : Bool} {from next mid after : List Lexeme}
      → Word word from next → Many Word words next mid → MaybeSized sized mid after
      → Types (record { words = word ∷ words; is_sized = sized }) from after

-- Parentheses

-- neither parenthesis
abbrev pub IsInside : Lexeme → Type 0
IsInside (Lexeme.Punctuation s.Open) = ⊥
IsInside (Lexeme.Punctuation s.Close) = ⊥
IsInside _ = Unit {0}

-- {token | "(" .. ")"} ")": what stands behind a parenthesis, up to the one that closes it
pub data Balanced : List Lexeme → List Lexeme → Type 0 where
  closed : {after : List Lexeme} → Balanced (Lexeme.Punctuation s.Close ∷ after) after
  nested : {from mid after : List Lexeme} → Balanced from mid → Balanced mid after
      → Balanced (Lexeme.Punctuation s.Open ∷ from) after
  inside : {token : Lexeme} {from after : List Lexeme} → IsInside token → Balanced from after
      → Balanced (token ∷ from) after

-- "(" .. ")"
pub data Body : List Lexeme → List Lexeme → Type 0 where
  body : {from after : List Lexeme} → Balanced from after → Body (Lexeme.Punctuation s.Open ∷ from) after

-- name
pub data Named : Name → List Lexeme → List Lexeme → Type 0 where
  name : {q : Quoting} {name : Name} {after : List Lexeme} → Named name (Lexeme.Name q name ∷ after) after

-- Keys

-- [ASC | DESC]
pub data Ordered : KeyOrder → List Lexeme → List Lexeme → Type 0 where
  neither : {after : List Lexeme} → Ordered o.Ascending after after
  ascending : {word : Lexeme} {after : List Lexeme} → is_bare_word word (codes "ASC") ≡ true
      → Ordered o.Ascending (word ∷ after) after
  descending : {word : Lexeme} {after : List Lexeme} → is_bare_word word (codes "DESC") ≡ true
      → Ordered o.Descending (word ∷ after) after

-- [AUTOINCREMENT]
pub data Increments : Bool → List Lexeme → List Lexeme → Type 0 where
  plain : {after : List Lexeme} → Increments false after after
  automatic : {word : Lexeme} {after : List Lexeme} → is_bare_word word (codes "AUTOINCREMENT") ≡ true
      → Increments true (word ∷ after) after

-- DEFAULT

-- ["+" | "-"] number | text | blob | NULL | "(" .. ")"
pub data Defaults : DefaultTree → List Lexeme → List Lexeme → Type 0 where
  null : {after : List Lexeme} → Defaults DefaultTree.Null (Lexeme.Reserved k.Null ∷ after) after
  number : {n : ℤ} {after : List Lexeme} → Defaults (DefaultTree.Number n) (Lexeme.Number n ∷ after) after
  plus : {n : ℤ} {after : List Lexeme}
      → Defaults (DefaultTree.Number n) (Lexeme.Punctuation s.Plus ∷ Lexeme.Number n ∷ after) after
  minus : {n : ℤ} {after : List Lexeme}
      → Defaults (DefaultTree.Negative n) (Lexeme.Punctuation s.Minus ∷ Lexeme.Number n ∷ after) after
  text : {content : List ℕ} {after : List Lexeme}
      → Defaults (DefaultTree.Text content) (Lexeme.Text content ∷ after) after
  blob : {bytes : List ℕ} {after : List Lexeme} → Defaults (DefaultTree.Blob bytes) (Lexeme.Blob bytes ∷ after) after
  expression : {from after : List Lexeme} → Balanced from after
      → Defaults DefaultTree.Expression (Lexeme.Punctuation s.Open ∷ from) after

-- REFERENCES

-- DELETE | UPDATE
abbrev pub is_event : Lexeme → Bool
is_event word = is_bare_word word (codes "DELETE") || is_bare_word word (codes "UPDATE")

-- CASCADE | RESTRICT
abbrev pub is_reaction : Lexeme → Bool
is_reaction word = is_bare_word word (codes "CASCADE") || is_bare_word word (codes "RESTRICT")

-- what stands behind ON and the event: CASCADE | RESTRICT | SET NULL | SET DEFAULT | NO ACTION
pub data Reacts : List Lexeme → List Lexeme → Type 0 where
  alone : {word : Lexeme} {after : List Lexeme} → is_reaction word ≡ true → Reacts (word ∷ after) after
  set_null : {word : Lexeme} {after : List Lexeme} → is_bare_word word (codes "SET") ≡ true
      → Reacts (word ∷ Lexeme.Reserved k.Null ∷ after) after
  set_default : {word : Lexeme} {after : List Lexeme} → is_bare_word word (codes "SET") ≡ true
      → Reacts (word ∷ Lexeme.Reserved k.Default ∷ after) after
  no_action : {word action : Lexeme} {after : List Lexeme} → is_bare_word word (codes "NO") ≡ true
      → is_bare_word action (codes "ACTION") ≡ true → Reacts (word ∷ action ∷ after) after

-- ON (DELETE | UPDATE) (..), of which nothing is kept
pub data Acts : Unit {0} → List Lexeme → List Lexeme → Type 0 where
  on : {word : Lexeme} {from after : List Lexeme} → is_event word ≡ true → Reacts from after
      → Acts tt (Lexeme.Reserved k.On ∷ word ∷ from) after

-- ["(" name {"," name} ")"]
pub data MaybeColumns : List Lexeme → List Lexeme → Type 0 where
  none : {after : List Lexeme} → MaybeColumns after after
  columns : {names : List Name} {from after : List Lexeme}
      → Listed Named names from (Lexeme.Punctuation s.Close ∷ after)
      → MaybeColumns (Lexeme.Punctuation s.Open ∷ from) after

-- what stands behind REFERENCES: name ["(" name {"," name} ")"] {ON ..}
pub data Refers : List Lexeme → List Lexeme → Type 0 where
  refers : {q : Quoting} {table : Name} {acts : List (Unit {0})} {from mid after : List Lexeme}
      → MaybeColumns from mid → Many Acts acts mid after → Refers (Lexeme.Name q table ∷ from) after

-- Constraints

-- [CONSTRAINT name]
pub data MaybeTitled : List Lexeme → List Lexeme → Type 0 where
  none : {after : List Lexeme} → MaybeTitled after after
  titled : {q : Quoting} {name : Name} {after : List Lexeme}
      → MaybeTitled (Lexeme.Reserved k.Constraint ∷ Lexeme.Name q name ∷ after) after

-- PRIMARY KEY [ASC | DESC] [AUTOINCREMENT] | NOT NULL | UNIQUE | CHECK (..) | DEFAULT .. | COLLATE name | REFERENCES ..
pub data Demands : ConstraintTree → List Lexeme → List Lexeme → Type 0 where
  primary_key : {word : Lexeme} {order : KeyOrder} {automatic : Bool} {from mid after : List Lexeme}
      → is_bare_word word (codes "KEY") ≡ true → Ordered order from mid → Increments automatic mid after
      → Demands (ConstraintTree.PrimaryKey order automatic) (Lexeme.Reserved k.Primary ∷ word ∷ from) after
  not_null : {after : List Lexeme}
      → Demands ConstraintTree.NotNull (Lexeme.Reserved k.Not ∷ Lexeme.Reserved k.Null ∷ after) after
  unique : {after : List Lexeme} → Demands ConstraintTree.Unique (Lexeme.Reserved k.Unique ∷ after) after
  check : {from after : List Lexeme} → Body from after
      → Demands ConstraintTree.Check (Lexeme.Reserved k.Check ∷ from) after
  default : {value : DefaultTree} {from after : List Lexeme} → Defaults value from after
      → Demands (ConstraintTree.Default value) (Lexeme.Reserved k.Default ∷ from) after
  collate : {q : Quoting} {name : Name} {after : List Lexeme}
      → Demands (ConstraintTree.Collate name) (Lexeme.Reserved k.Collate ∷ Lexeme.Name q name ∷ after) after
  references : {from after : List Lexeme} → Refers from after
      → Demands ConstraintTree.References (Lexeme.Reserved k.References ∷ from) after

-- [CONSTRAINT name] and what it demands
pub data Constrains : ConstraintTree → List Lexeme → List Lexeme → Type 0 where
  constraint : {tree : ConstraintTree} {from mid after : List Lexeme} → MaybeTitled from mid → Demands tree mid after
      → Constrains tree from after

-- Columns

-- name type {constraint}
pub data Defines : ColumnTree → List Lexeme → List Lexeme → Type 0 where
  column : {q : Quoting} {name : Name} {ty : TypeTree} {constraints : List ConstraintTree} {from mid after : List Lexeme}
      → Types ty from mid → Many Constrains constraints mid after
      → Defines (record { name = name; ty = ty; constraints = constraints }) (Lexeme.Name q name ∷ from) after
