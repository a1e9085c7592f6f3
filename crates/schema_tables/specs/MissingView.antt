-- What the program's missing values are.
use Rattle.values.specs.Datum.{datum_of}
use Rattle.schema_tables.specs.TableData.{MissingData}
use Rattle.schema_tables.specs.declared.missing.Missing.{Missing}
use Rattle.schema_tables.specs.declared.missing.Missing.TheVariants as m

abbrev pub missing_of : Missing → MissingData
missing_of (m.Fill value) = MissingData.Fill (datum_of value)
missing_of m.Refused = MissingData.Refused
