-- A row of which some values are read, of a table of either kind. (Database File Format, section 2.3 "Representation Of SQL
-- Tables", and section 2.4 "Representation Of WITHOUT ROWID Tables")
use Rattle.values.specs.Row.{Row}
use Rattle.schema_tables.specs.TableData.{TableData}
use Rattle.records_tables.specs.stored_rows.Reading.{IsReading}
use Rattle.records_tables.specs.declared.value_reader.ValueReader.{ValueReader}
use Rattle.records_tables.specs.declared.value_reader.ValueReader.TheVariants.{ByRowid, ByKey}
use Rattle.records_tables.specs.Keyed.{IsKeyReading}

-- the table whose row a reader reads
abbrev pub table_read : ValueReader → TableData
table_read (ByRowid reader) = reader.table
table_read (ByKey reader) = reader.table

-- the row that it reads is this one
abbrev pub IsReadingRow : ValueReader → Row → Type 0
IsReadingRow (ByRowid reader) row = IsReading reader row
IsReadingRow (ByKey reader) row = IsKeyReading reader row
