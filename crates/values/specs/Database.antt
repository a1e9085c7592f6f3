-- What the tables of a database hold.
use Rattle.std.specs.Prelude.{List}
use Rattle.values.specs.Row.{Row}

-- the rows of the schema's own table, and those of each table in the catalog's order
pub record Database : Type 0 where
  pub schema : List Row
  pub tables : List (List Row)
