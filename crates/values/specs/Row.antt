-- A row of a table or of an answer, as its values in the order of its columns.
use Rattle.std.specs.Prelude.{◌≡◌, ◌++◌, List, map}
use Rattle.std.specs.Global.{Vec}
use Rattle.values.specs.Datum.{Datum, datum_of}
use Rattle.values.specs.declared.value.Value.{Value}

abbrev pub Row : Type 0
Row = List Datum

-- rows as they lie in memory
abbrev pub rows_data : List (Vec Value) → List Row
rows_data rows = map (λ row. map datum_of row.items) rows

-- values stay in front of others
abbrev pub Grows : Row → Row → Type 0
Grows old new = (more : Row) × (new ≡ old ++ more)
