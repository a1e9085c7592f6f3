-- What a reader that goes from left to right makes of the tokens of a CREATE TABLE. No public clause cites it.
use Rattle.std.specs.Prelude.{List, [], ◌∷◌, codes, Option, Some, None, option_map, option_and_then, if◌then◌else◌}
use Rattle.sql_reader_grammar.specs.phrases.Steps.{Found, Rest, after_close, after_comma, after_keyword, after_open, after_word, first_and, listed, many, name}
use Rattle.sql_reader_tokens.specs.Content.{is_bare_word}
use Rattle.sql_reader_tokens.specs.Lexeme.{Lexeme}
use Rattle.sql_reader_tokens.specs.declared.keywords.keyword.Keyword.TheVariants as k
use Rattle.sql_reader_creates.specs.column_reader.ColumnReading.{after_title, body, column, names, order, refers}
use Rattle.sql_reader_grammar.specs.create_trees.CreateTrees.{ColumnTree, IndexedColumnTree, TableConstraintTree, TableTree}
use Rattle.sql_reader_syntax.specs.Tree.{Name}
use Rattle.sql_reader_grammar.specs.declared.create_trees.create.KeyOrder.{KeyOrder}
use Rattle.sql_reader_grammar.specs.declared.create_trees.create.TableOption.{TableOption}
use Rattle.sql_reader_grammar.specs.declared.create_trees.create.TableOption.TheVariants as o

-- Keys

abbrev pub after_collate : Rest → Option Rest
after_collate = after_keyword k.Collate

abbrev pub collation_of : Name × Rest → Option Name × Rest
collation_of r = (Some r.0, r.1)

abbrev pub collation_from : Rest → Option Rest → Option (Option Name × Rest)
collation_from ts None = Some (None, ts)
collation_from ts (Some rest) = option_map collation_of (name rest)

abbrev pub collation : Rest → Option (Option Name × Rest)
collation ts = collation_from ts (after_collate ts)

abbrev pub ordered_by : Name → Option Name → KeyOrder × Rest → IndexedColumnTree × Rest
ordered_by n collation r = (record { name = n; collation = collation; order = r.0 }, r.1)

abbrev pub indexed_by : Name → Option Name × Rest → IndexedColumnTree × Rest
indexed_by n r = ordered_by n r.0 (order r.1)

abbrev pub collated : Option (Name × Rest) → Option (IndexedColumnTree × Rest)
collated None = None
collated (Some r) = option_map (indexed_by r.0) (collation r.1)

-- a column of a key
abbrev pub indexed : Rest → Option (IndexedColumnTree × Rest)
indexed ts = collated (name ts)

abbrev pub indexed_closed : Found IndexedColumnTree → Found IndexedColumnTree
indexed_closed None = None
indexed_closed (Some r) = option_map (λ rest. (r.0, rest)) (after_close r.1)

abbrev pub indexed_within : Rest → Found IndexedColumnTree
indexed_within ts = indexed_closed (listed indexed ts)

-- the columns of a key in parentheses
abbrev pub indexed_all : Rest → Found IndexedColumnTree
indexed_all ts = option_and_then indexed_within (after_open ts)

-- Constraints of a table

abbrev pub key_of : List IndexedColumnTree × Rest → TableConstraintTree × Rest
key_of r = (TableConstraintTree.PrimaryKey r.0, r.1)

abbrev pub primary_key : Rest → Option (TableConstraintTree × Rest)
primary_key ts = option_map key_of (option_and_then indexed_all (after_word (codes "KEY") ts))

abbrev pub after_references : Rest → Option Rest
after_references = after_keyword k.References

abbrev pub referring : List Name × Rest → Option (TableConstraintTree × Rest)
referring r =
    option_map (λ rest. (TableConstraintTree.ForeignKey r.0, rest)) (option_and_then refers (after_references r.1))

abbrev pub foreign_key : Rest → Option (TableConstraintTree × Rest)
foreign_key ts =
    option_and_then referring (option_and_then names (option_and_then after_open (after_word (codes "KEY") ts)))

abbrev pub demand : Rest → Option (TableConstraintTree × Rest)
demand (Lexeme.Reserved k.Primary ∷ ts) = primary_key ts
demand (Lexeme.Reserved k.Unique ∷ ts) = option_map (λ r. (TableConstraintTree.Unique r.0, r.1)) (indexed_all ts)
demand (Lexeme.Reserved k.Check ∷ ts) = option_map (λ rest. (TableConstraintTree.Check, rest)) (body ts)
demand (Lexeme.Reserved k.Foreign ∷ ts) = foreign_key ts
demand _ = None

abbrev pub constraint : Rest → Option (TableConstraintTree × Rest)
constraint ts = option_and_then demand (after_title ts)

-- the constraints behind the columns
abbrev pub constraints : Rest → Found TableConstraintTree
constraints = many after_comma constraint

-- Options

abbrev pub rowid_option : Rest → Option (TableOption × Rest)
rowid_option ts = option_map (λ rest. (o.WithoutRowid, rest)) (after_word (codes "ROWID") ts)

abbrev pub table_option : Rest → Option (TableOption × Rest)
table_option [] = None
table_option (word ∷ ts) =
    if is_bare_word word (codes "STRICT") then Some (o.Strict, ts)
    else (if is_bare_word word (codes "WITHOUT") then rowid_option ts else None)

-- whether nothing is left
abbrev pub finished : Rest → Option (Unit {0})
finished [] = Some tt
finished _ = None

abbrev pub options_finished : Found TableOption → Option (List TableOption)
options_finished None = None
options_finished (Some r) = option_map (λ end. r.0) (finished r.1)

-- the options, behind which nothing stands
abbrev pub table_options : Rest → Option (List TableOption)
table_options [] = Some []
table_options (word ∷ ts) = options_finished (listed table_option (word ∷ ts))

-- The statement

abbrev pub at_name : Rest → Option Rest
at_name (Lexeme.Name q n ∷ ts) = Some (Lexeme.Name q n ∷ ts)
at_name _ = None

-- a column behind a comma, if one begins there
abbrev pub another_column : Rest → Option Rest
another_column ts = option_and_then at_name (after_comma ts)

abbrev pub columns : Rest → Found ColumnTree
columns ts = first_and (many another_column column) (column ts)

abbrev pub Definitions : Type 0
Definitions = List ColumnTree × List TableConstraintTree × Rest

abbrev pub constrained : List ColumnTree → Found TableConstraintTree → Option Definitions
constrained cs None = None
constrained cs (Some r) = Some (cs, r.0, r.1)

abbrev pub with_constraints : Found ColumnTree → Option Definitions
with_constraints None = None
with_constraints (Some r) = constrained r.0 (constraints r.1)

-- columns, and then constraints
abbrev pub definitions : Rest → Option Definitions
definitions ts = with_constraints (columns ts)

-- the name of a table that is created, and what is behind the parenthesis after it
abbrev pub opened : Option (Name × Rest) → Option (Name × Rest)
opened None = None
opened (Some r) = option_map (λ after. (r.0, after)) (after_open r.1)

abbrev pub after_create : Rest → Option Rest
after_create = after_keyword k.Create

abbrev pub after_table : Rest → Option Rest
after_table = after_keyword k.Table

abbrev pub heading : Rest → Option (Name × Rest)
heading ts = opened (option_and_then name (option_and_then after_table (after_create ts)))

abbrev pub closing : Rest → Option (List TableOption)
closing ts = option_and_then table_options (after_close ts)

abbrev pub closed : Name → Option Definitions → Option TableTree
closed n None = None
closed n (Some r) =
    option_map (λ os. record { name = n; columns = r.0; constraints = r.1; options = os }) (closing r.2)

abbrev pub headed : Option (Name × Rest) → Option TableTree
headed None = None
headed (Some r) = closed r.0 (definitions r.1)

abbrev pub create : Rest → Option TableTree
create ts = headed (heading ts)
