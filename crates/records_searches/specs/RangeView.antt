-- The values of the bounds of a search, as they lie in memory. (The SQLite Query Optimizer Overview, "WHERE Clause Analysis")
use Rattle.std.specs.Prelude.{◌≡◌, Bool, true, false, length, Option, None, Some, option_map, replicate}
use Rattle.values.specs.Datum.{Datum, datum_of, null}
use Rattle.btree_cursor.specs.key_ranges.Ranges.{Edge, Range}
use Rattle.records_searches.specs.declared.ranges.BoundKind.{BoundKind}
use Rattle.records_searches.specs.declared.ranges.BoundKind.TheVariants.{Inclusive, Strict}
use Rattle.records_searches.specs.declared.ranges.BoundValue.{BoundValue}
use Rattle.records_searches.specs.declared.ranges.RangeShape.{RangeShape}

abbrev pub bound_edge : BoundValue → Edge
bound_edge bound = record { value = datum_of bound.value; strict = bound.strict }

abbrev pub is_strict : BoundKind → Bool
is_strict Inclusive = false
is_strict Strict = true

-- a bound of this kind to which no value was given: no entry meets it
abbrev pub unset_edge : BoundKind → Edge
unset_edge kind = record { value = null; strict = is_strict kind }

-- a range of this shape before its values are known
abbrev pub range_of : RangeShape → Range
range_of shape = record {
  equal = replicate shape.equal null;
  lower = option_map unset_edge shape.lower;
  upper = option_map unset_edge shape.upper;
}

-- a bound with this value, where there is one
abbrev pub with_value : Option Edge → Datum → Option Edge
with_value None value = None
with_value (Some edge) value = Some (record edge { value = value })

-- two ranges have the same bounds, whatever their values
pub record IsSameShape (old new : Range) : Type 0 where
  pub equal : length new.equal ≡ length old.equal
  pub lower : option_map (λ edge. edge.strict) new.lower ≡ option_map (λ edge. edge.strict) old.lower
  pub upper : option_map (λ edge. edge.strict) new.upper ≡ option_map (λ edge. edge.strict) old.upper
