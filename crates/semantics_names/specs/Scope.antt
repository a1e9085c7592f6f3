-- The columns that a FROM shows. (SELECT, "Determination of input data")
use Rattle.std.specs.Prelude.{Bool, true, false, ◌&&◌, ℕ, suc, List, [], ◌∷◌, map, Option, Some, None, Result, Ok, Err, if◌then◌else◌}
use Rattle.std.specs.Str.{str_eq_ignore_ascii_case}
use Rattle.values.specs.declared.fault.Fault.{Fault}
use Rattle.values.specs.declared.fault.Fault.TheVariants.{Ambiguous, UnknownColumn}
use Rattle.expr.specs.Term.{Term, column, coalesce}
use Rattle.expr.specs.View.{terms}
use Rattle.sql_reader_syntax.specs.Tree.{Name}
use Rattle.semantics_names.specs.Outcome.{also}

-- A column of the row that FROM gives: what its source is called, if it has a name, what it is called itself, and the
-- places of the row at which its bare name looks, the first value that isn't NULL counting. Mostly this is its own place
-- alone. Behind USING the column of the left side has both sides' places, and that of the right has none.
pub record Shown : Type 0 where
  pub source : Option Name
  pub name : Name
  pub places : List ℕ

abbrev pub Scope : Type 0
Scope = List Shown

abbrev pub is_source : Name → Option Name → Bool
is_source table None = false
is_source table (Some name) = str_eq_ignore_ascii_case name table

abbrev pub is_bare : List ℕ → Bool
is_bare [] = false
is_bare (_ ∷ _) = true

-- whether `table.name`, or the bare name, is this column
abbrev pub is_called : Option Name → Name → Shown → Bool
is_called None name shown = is_bare shown.places && str_eq_ignore_ascii_case shown.name name
is_called (Some table) name shown = is_source table shown.source && str_eq_ignore_ascii_case shown.name name

-- the first value of these places that isn't NULL; mostly the one value
abbrev pub bare_term : List ℕ → Term
bare_term (at ∷ []) = column at
bare_term places = coalesce (terms (map column places))

-- the places at which it looks by its bare name; behind its source's it is its own
abbrev pub shown_places : Option Name → ℕ → Shown → List ℕ
shown_places None at shown = shown.places
shown_places (Some table) at shown = at ∷ []

-- the columns that are called so, by their places, where the first column stands at this one
abbrev pub called : Option Name → Name → ℕ → Scope → List (List ℕ)
called table name at [] = []
called table name at (shown ∷ rest) =
    if is_called table name shown then shown_places table at shown ∷ called table name (suc at) rest else called table name (suc at) rest

-- one column has to be called so
abbrev pub only : List (List ℕ) → Result (List ℕ) Fault
only [] = Err UnknownColumn
only (places ∷ []) = Ok places
only (places ∷ others ∷ rest) = Err Ambiguous

abbrev pub places_of : Scope → Option Name → Name → Result (List ℕ) Fault
places_of scope table name = only (called table name 0 scope)

abbrev pub column_of : Scope → Option Name → Name → Result Term Fault
column_of scope table name = also bare_term (places_of scope table name)
