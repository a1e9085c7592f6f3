-- What a choice sees in memory, as plain data.
use Rattle.expr.specs.View.{term}
use Rattle.index_choice.specs.declared.comparisons.ColumnBound.{ColumnBound}
use Rattle.index_choice.specs.ColumnBounds.{BoundTerm}

abbrev pub bound_term : ColumnBound → BoundTerm
bound_term b = record { side = b.side; strict = b.strict; column = b.column; value = term b.value.now }
