-- Which query a statement is over the tables of a catalog, and why it is none. (SELECT; STRICT Tables)
use Rattle.std.specs.Prelude.{List, map}
use Rattle.values.specs.declared.fault.Fault.{Fault}
use Rattle.sql_reader_syntax.specs.StatementTree.{StatementTree}
use Rattle.semantics_names.specs.Statement.{Named}
use Rattle.semantics_names.specs.Typed as naming
use Rattle.schema_tables.specs.TableData.{ColumnData, TableData}

-- a table of the catalog by the names and types of its columns
abbrev pub column_of : ColumnData → naming.Column
column_of c = record { name = c.name; ty = c.ty }

abbrev pub table_of : TableData → naming.Table
table_of t = record { name = t.name; columns = map column_of t.columns }

abbrev pub tables_of : List TableData → List naming.Table
tables_of tables = map table_of tables

-- the statement is this query over these tables, with these names
abbrev pub Resolves : List TableData → StatementTree → Named → Type 0
Resolves tables tree named = naming.Types (tables_of tables) tree named

-- its names or its types give this fault, or memory ran out
abbrev pub IsNoQueryOver : List TableData → StatementTree → Fault → Type 0
IsNoQueryOver tables tree fault = naming.IsNoQuery (tables_of tables) tree fault
