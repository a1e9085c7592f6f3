-- Bounds, ranges and their ends in memory, as plain data.
use Rattle.std.specs.Prelude.{List, [], ◌∷◌, map, Option, Some, None}
use Rattle.values.specs.Datum.{Datum, datum_of, datum_of_ref}
use Rattle.values.specs.declared.value.ValueRef.{ValueRef}
use Rattle.btree_cursor.specs.declared.key_ranges.ranges.Bound.{Bound}
use Rattle.btree_cursor.specs.declared.key_ranges.ranges.End.{End}
use Rattle.btree_cursor.specs.declared.key_ranges.ranges.KeyRange.{KeyRange}
use Rattle.btree_cursor.specs.key_ranges.Ranges.{Edge, Range, Cut}

abbrev pub edge : Bound → Edge
edge bound = record { value = datum_of_ref bound.value; strict = bound.strict }

abbrev pub edge_option : Option Bound → Option Edge
edge_option None = None
edge_option (Some bound) = Some (edge bound)

abbrev pub range : KeyRange → Range
range r = record { equal = map datum_of r.equal.now; lower = edge_option r.lower; upper = edge_option r.upper }

abbrev pub value_list : Option ValueRef → List Datum
value_list None = []
value_list (Some value) = datum_of_ref value ∷ []

abbrev pub cut : End → Cut
cut end = record { key = value_list end.value; behind = end.behind }
