-- The tables that queries are run over. (The Schema Table)
use Rattle.std.specs.Prelude.{List, [], ◌∷◌, ◌++◌}
use Rattle.schema_tables.specs.TableData.{TableData, schema_table}

-- those of the catalog, and the schema's own behind them
abbrev pub all_tables : List TableData → List TableData
all_tables tables = tables ++ schema_table ∷ []
