-- What was read, as the grammar's reader tells it.
use Rattle.std.specs.Prelude.{ℤ, List, Option, Vec, map, option_map, string_bytes}
use Rattle.std.specs.declared.string.String.{String}
use Rattle.sql_reader_grammar.specs.phrases.Outcomes as outcomes
use Rattle.sql_reader_grammar.specs.phrases.Texts.{lexemes_of}
use Rattle.sql_reader_grammar.specs.statement_trees.StatementView.{whole_of}
use Rattle.sql_reader_syntax.specs.Tree.{Name}
use Rattle.sql_reader_syntax.specs.declared.query.Edge.{Edge}
use Rattle.sql_reader_grammar.specs.declared.statement_trees.queries.SignedNumber.{SignedNumber}
use Rattle.sql_reader_exprs.specs.declared.clause_reader.reading.Read.{Read}

-- seen by what its tree is
abbrev pub seen : {A B : Type 0} → (A → B) → Read A → outcomes.Read B
seen view r = outcomes.read (view r.tree) r.levels (lexemes_of r.rest.now)

abbrev pub same : {A : Type 0} → A → A
same x = x

abbrev pub bytes_of : {A : Type 0} → String A → Name
bytes_of s = string_bytes s

abbrev pub names_of : {A B : Type 0} → Vec (String A) B → List Name
names_of v = map bytes_of v.items

abbrev pub edges_of : Edge × Edge → Edge × Edge
edges_of x = (x.0, x.1)

abbrev pub limit_of : Option SignedNumber × Option SignedNumber → Option ℤ × Option ℤ
limit_of x = (option_map whole_of x.0, option_map whole_of x.1)
