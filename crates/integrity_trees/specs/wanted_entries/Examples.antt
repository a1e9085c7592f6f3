-- Rows of CREATE TABLE item(id INTEGER PRIMARY KEY, name TEXT NOT NULL, qty INT) STRICT, and the entries of
-- CREATE INDEX by_qty ON item(qty DESC) WHERE qty IS NOT NULL.
use Rattle.std.specs.Prelude.{Bool, not, List, [], ◌∷◌, pos, codes, Some, slice_index_or}
use Rattle.values.specs.Datum.{null, int, text}
use Rattle.values.specs.Row.{Row}
use Rattle.btree_cursor.specs.key_ranges.Ranges.{is_null}
use Rattle.integrity_trees.specs.wanted_entries.Wanted.{IndexedPlaces, KeyedRow}

abbrev pub has_qty : Row → Bool
has_qty row = not (is_null (slice_index_or row 2 null))

abbrev pub by_qty : IndexedPlaces
by_qty = record { columns = 2 ∷ []; others = [] }

abbrev pub items : List KeyedRow
items =
    (record { rowid = Some (pos 1); row = int (pos 1) ∷ text (codes "bolt") ∷ int (pos 40) ∷ [] }) ∷
    (record { rowid = Some (pos 2); row = int (pos 2) ∷ text (codes "nut") ∷ null ∷ [] }) ∷
    (record { rowid = Some (pos 3); row = int (pos 3) ∷ text (codes "cap") ∷ int (pos 7) ∷ [] }) ∷ []

abbrev pub first_entry : Row
first_entry = int (pos 40) ∷ int (pos 1) ∷ []

abbrev pub second_entry : Row
second_entry = int (pos 7) ∷ int (pos 3) ∷ []
