-- What stands in a sequence.
use Rattle.std.specs.Prelude.{List, map}
use Rattle.values.specs.Row.{Row}
use Rattle.semantics.specs.Query.{Direction}
use Rattle.resolver_terms.specs.SelectView.{direction_of}
use Rattle.windows_groups.specs.declared.window_order.placed.Sequence.{Sequence}
use Rattle.windows_groups.specs.window_order.Entries.{keys_of, rows_of}

-- how the terms of ORDER BY sort
abbrev pub ways_in : Sequence → List Direction
ways_in sequence = map direction_of sequence.directions.now

-- the values of ORDER BY on each row
abbrev pub keys_in : Sequence → List Row
keys_in sequence = keys_of sequence.entries.now

abbrev pub rows_in : Sequence → List Row
rows_in sequence = rows_of sequence.entries.now
