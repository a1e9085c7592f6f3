-- Rows with their places among those that are given.
use Rattle.std.specs.Prelude.{ℕ, List, map}
use Rattle.values.specs.Datum.{datum_of}
use Rattle.values.specs.Row.{Row}
use Rattle.windows_groups.specs.declared.window_order.sorting.Entry.{Entry}

abbrev pub tags_of : List Entry → List (Row × ℕ)
tags_of entries = map (λ (entry : Entry). (map datum_of entry.row.now, entry.index)) entries
