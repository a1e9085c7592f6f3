-- What a reader that goes from left to right makes of the tokens of a column. No public clause of a reader of texts cites it.
use Rattle.std.specs.Prelude.{Bool, true, false, ℕ, ℤ, zero, suc, List, [], ◌∷◌, codes, Option, Some, None, option_map, option_and_then, if◌then◌else◌}
use Rattle.sql_reader_grammar.specs.phrases.Steps.{Found, Rest, after_close, after_comma, after_keyword, after_open, after_word, listed, many, name}
use Rattle.sql_reader_tokens.specs.Content.{is_bare_word}
use Rattle.sql_reader_tokens.specs.Lexeme.{Lexeme}
use Rattle.sql_reader_tokens.specs.declared.keywords.keyword.Keyword.TheVariants as k
use Rattle.sql_reader_tokens.specs.declared.sign.Sign.TheVariants as s
use Rattle.sql_reader_tokens.specs.declared.token.Quoting.TheVariants as quoting
use Rattle.sql_reader_grammar.specs.create_trees.CreateTrees.{TypeTree, DefaultTree, ConstraintTree, ColumnTree}
use Rattle.sql_reader_syntax.specs.Tree.{Name}
use Rattle.sql_reader_grammar.specs.declared.create_trees.create.KeyOrder.{KeyOrder}
use Rattle.sql_reader_grammar.specs.declared.create_trees.create.KeyOrder.TheVariants as o
use Rattle.sql_reader_creates.specs.column_reader.ColumnGrammar.{is_event, is_reaction}

-- Types

abbrev pub begins_word : Rest → Bool
begins_word (Lexeme.Name quoting.Bare n ∷ ts) = true
begins_word _ = false

abbrev pub at_word : Rest → Option Rest
at_word ts = if begins_word ts then Some ts else None

abbrev pub words : Rest → Found Name
words = many at_word name

abbrev pub after_number : Rest → Option Rest
after_number (Lexeme.Number n ∷ ts) = Some ts
after_number _ = None

abbrev pub second_from : Rest → Option Rest → Option Rest
second_from ts None = Some ts
second_from ts (Some rest) = after_number rest

-- what is behind a comma and a number, if a comma stands there
abbrev pub after_second : Rest → Option Rest
after_second ts = second_from ts (after_comma ts)

abbrev pub size_closed : Rest → Option (Bool × Rest)
size_closed ts = option_map (λ rest. (true, rest)) (after_close ts)

abbrev pub size_from : Rest → Option Rest → Option (Bool × Rest)
size_from ts None = Some (false, ts)
size_from ts (Some inside) = option_and_then size_closed (option_and_then after_second (after_number inside))

-- whether a size stands there
abbrev pub size : Rest → Option (Bool × Rest)
size ts = size_from ts (after_open ts)

abbrev pub type_by : List Name → Bool × Rest → TypeTree × Rest
type_by ws r = (record { words = ws; is_sized = r.0 }, r.1)

abbrev pub sized : Found Name → Option (TypeTree × Rest)
sized None = None
sized (Some r) = option_map (type_by r.0) (size r.1)

-- a type, which may be none
abbrev pub column_type : Rest → Option (TypeTree × Rest)
column_type ts = if begins_word ts then sized (words ts) else Some (type_by [] (false, ts))

-- Parts of constraints

-- what is behind a name
abbrev pub after_name : Rest → Option Rest
after_name ts = option_map (λ r. r.1) (name ts)

-- how many parentheses are open behind a token, within the one whose end is looked for; none where that is closed
abbrev pub depth_after : ℕ → Lexeme → Option ℕ
depth_after depth (Lexeme.Punctuation s.Open) = Some (suc depth)
depth_after zero (Lexeme.Punctuation s.Close) = None
depth_after (suc depth) (Lexeme.Punctuation s.Close) = Some depth
depth_after depth _ = Some depth

abbrev pub balanced : ℕ → Rest → Option Rest
balanced depth [] = None
balanced depth (token ∷ ts) = elim (depth_after depth token) [ None ↦ Some ts | Some next ↦ balanced next ts ]

abbrev pub body : Rest → Option Rest
body ts = option_and_then (balanced 0) (after_open ts)

abbrev pub ordered : Rest → Option Rest → Option Rest → KeyOrder × Rest
ordered ts (Some rest) descending = (o.Ascending, rest)
ordered ts None (Some rest) = (o.Descending, rest)
ordered ts None None = (o.Ascending, ts)

abbrev pub order : Rest → KeyOrder × Rest
order ts = ordered ts (after_word (codes "ASC") ts) (after_word (codes "DESC") ts)

abbrev pub incremented : Rest → Option Rest → Bool × Rest
incremented ts (Some rest) = (true, rest)
incremented ts None = (false, ts)

abbrev pub increments : Rest → Bool × Rest
increments ts = incremented ts (after_word (codes "AUTOINCREMENT") ts)

abbrev pub key_of : KeyOrder → Bool × Rest → ConstraintTree × Rest
key_of order i = (ConstraintTree.PrimaryKey order i.0, i.1)

abbrev pub ordered_key : KeyOrder × Rest → ConstraintTree × Rest
ordered_key r = key_of r.0 (increments r.1)

abbrev pub primary_key : Rest → Option (ConstraintTree × Rest)
primary_key ts = option_map (λ rest. ordered_key (order rest)) (after_word (codes "KEY") ts)

abbrev pub signed : (ℤ → DefaultTree) → Rest → Option (DefaultTree × Rest)
signed tree (Lexeme.Number n ∷ ts) = Some (tree n, ts)
signed tree _ = None

abbrev pub default_value : Rest → Option (DefaultTree × Rest)
default_value (Lexeme.Number n ∷ ts) = Some (DefaultTree.Number n, ts)
default_value (Lexeme.Text content ∷ ts) = Some (DefaultTree.Text content, ts)
default_value (Lexeme.Blob bytes ∷ ts) = Some (DefaultTree.Blob bytes, ts)
default_value (Lexeme.Reserved k.Null ∷ ts) = Some (DefaultTree.Null, ts)
default_value (Lexeme.Punctuation s.Plus ∷ ts) = signed (λ n. DefaultTree.Number n) ts
default_value (Lexeme.Punctuation s.Minus ∷ ts) = signed (λ n. DefaultTree.Negative n) ts
default_value (Lexeme.Punctuation s.Open ∷ ts) = option_map (λ rest. (DefaultTree.Expression, rest)) (balanced 0 ts)
default_value _ = None

-- What REFERENCES says

abbrev pub after_set : Rest → Option Rest
after_set (Lexeme.Reserved k.Null ∷ ts) = Some ts
after_set (Lexeme.Reserved k.Default ∷ ts) = Some ts
after_set _ = None

abbrev pub after_reaction : Rest → Option Rest
after_reaction [] = None
after_reaction (word ∷ ts) =
    if is_reaction word then Some ts
    else (if is_bare_word word (codes "SET") then after_set ts
    else (if is_bare_word word (codes "NO") then after_word (codes "ACTION") ts
    else None))

abbrev pub after_on : Rest → Option Rest
after_on = after_keyword k.On

abbrev pub act : Rest → Option (Unit {0} × Rest)
act [] = None
act (word ∷ ts) = if is_event word then option_map (λ rest. (tt, rest)) (after_reaction ts) else None

abbrev pub acts : Rest → Found (Unit {0})
acts = many after_on act

abbrev pub names_closed : Found Name → Option (List Name × Rest)
names_closed None = None
names_closed (Some r) = option_map (λ rest. (r.0, rest)) (after_close r.1)

-- names and the parenthesis that closes them
abbrev pub names : Rest → Option (List Name × Rest)
names ts = names_closed (listed name ts)

abbrev pub columns_from : Rest → Option Rest → Option Rest
columns_from ts None = Some ts
columns_from ts (Some inside) = option_map (λ r. r.1) (names inside)

abbrev pub maybe_columns : Rest → Option Rest
maybe_columns ts = columns_from ts (after_open ts)

abbrev pub referred : Rest → Option Rest
referred ts = option_map (λ r. r.1) (acts ts)

abbrev pub refers : Rest → Option Rest
refers ts = option_and_then referred (option_and_then maybe_columns (after_name ts))

-- Constraints

abbrev pub begins_constraint : Rest → Bool
begins_constraint (Lexeme.Reserved k.Constraint ∷ ts) = true
begins_constraint (Lexeme.Reserved k.Primary ∷ ts) = true
begins_constraint (Lexeme.Reserved k.Not ∷ ts) = true
begins_constraint (Lexeme.Reserved k.Unique ∷ ts) = true
begins_constraint (Lexeme.Reserved k.Check ∷ ts) = true
begins_constraint (Lexeme.Reserved k.Default ∷ ts) = true
begins_constraint (Lexeme.Reserved k.Collate ∷ ts) = true
begins_constraint (Lexeme.Reserved k.References ∷ ts) = true
begins_constraint _ = false

abbrev pub at_constraint : Rest → Option Rest
at_constraint ts = if begins_constraint ts then Some ts else None

abbrev pub title_from : Rest → Option Rest → Option Rest
title_from ts None = Some ts
title_from ts (Some rest) = after_name rest

abbrev pub after_title : Rest → Option Rest
after_title ts = title_from ts (after_keyword k.Constraint ts)

abbrev pub after_null : Rest → Option Rest
after_null = after_keyword k.Null

abbrev pub not_null : Rest → Option (ConstraintTree × Rest)
not_null ts = option_map (λ rest. (ConstraintTree.NotNull, rest)) (after_null ts)

abbrev pub demand : Rest → Option (ConstraintTree × Rest)
demand (Lexeme.Reserved k.Primary ∷ ts) = primary_key ts
demand (Lexeme.Reserved k.Not ∷ ts) = not_null ts
demand (Lexeme.Reserved k.Unique ∷ ts) = Some (ConstraintTree.Unique, ts)
demand (Lexeme.Reserved k.Check ∷ ts) = option_map (λ rest. (ConstraintTree.Check, rest)) (body ts)
demand (Lexeme.Reserved k.Default ∷ ts) =
    option_map (λ r. (ConstraintTree.Default r.0, r.1)) (default_value ts)
demand (Lexeme.Reserved k.Collate ∷ ts) = option_map (λ r. (ConstraintTree.Collate r.0, r.1)) (name ts)
demand (Lexeme.Reserved k.References ∷ ts) = option_map (λ rest. (ConstraintTree.References, rest)) (refers ts)
demand _ = None

abbrev pub constraint : Rest → Option (ConstraintTree × Rest)
constraint ts = option_and_then demand (after_title ts)

abbrev pub constraints : Rest → Found ConstraintTree
constraints = many at_constraint constraint

abbrev pub constrained : Name → TypeTree → Found ConstraintTree → Option (ColumnTree × Rest)
constrained n ty None = None
constrained n ty (Some r) = Some (record { name = n; ty = ty; constraints = r.0 }, r.1)

abbrev pub typed : Name → Option (TypeTree × Rest) → Option (ColumnTree × Rest)
typed n None = None
typed n (Some r) = constrained n r.0 (constraints r.1)

-- a column's definition
abbrev pub column : Rest → Option (ColumnTree × Rest)
column (Lexeme.Name q n ∷ ts) = typed n (column_type ts)
column _ = None
