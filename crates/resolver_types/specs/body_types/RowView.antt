-- The types of a row, as plain data.
use Rattle.resolver_types.specs.body_types.Rows.{RowData}
use Rattle.resolver_types.specs.declared.body_types.rows.Row.{Row}

abbrev pub row_of : Row → RowData
row_of r = record { columns = r.columns.items; answers = r.answers.items }
