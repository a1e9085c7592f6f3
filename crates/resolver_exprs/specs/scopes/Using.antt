-- What USING changes of the columns that a FROM shows. (SELECT, "Determination of input data")
use Rattle.std.specs.Prelude.{ℕ, List, [], ◌∷◌, ◌++◌, None, if◌then◌else◌}
use Rattle.sql_reader_syntax.specs.Tree.{Name}
use Rattle.semantics_names.specs.Scope.{Scope, Shown, is_called}
use Rattle.semantics_names.specs.Sources.{hidden}

-- a column of the left side, whose bare name looks at these places too, if it is this one
abbrev pub merged_column : Name → List ℕ → Shown → Shown
merged_column name places s = if is_called None name s then record { source = s.source; name = s.name; places = s.places ++ places } else s

-- a column of the right side, which is no longer meant by its bare name, if it is this one
abbrev pub hidden_column : Name → Shown → Shown
hidden_column name s = if is_called None name s then record { source = s.source; name = s.name; places = [] } else s

-- by all of these names
abbrev pub all_hidden : List Name → Scope → Scope
all_hidden [] scope = scope
all_hidden (name ∷ names) scope = all_hidden names (hidden name scope)
