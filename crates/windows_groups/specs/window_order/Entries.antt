-- The rows of a partition with the values of ORDER BY on them. (Window Functions)
use Rattle.std.specs.Prelude.{◌≡◌, ℕ, ◌<◌, ◌≤◌, false, List, length, map}
use Rattle.std.specs.Ordering.{is_lt, ordering_then}
use Rattle.std.specs.declared.cmp.Ordering.{Ordering}
use Rattle.values.specs.Datum.{datum_of}
use Rattle.values.specs.Order.{row_cmp}
use Rattle.values.specs.Row.{Row}
use Rattle.semantics.specs.Query.{Direction, SortTerm}
use Rattle.semantics.specs.Sequence.{keys_cmp}
use Rattle.semantics.specs.Valuation.{Valuation}
use Rattle.semantics.specs.Windows.{row_at, sequence, sort_values}
use Rattle.windows_groups.specs.declared.window_order.sorting.Entry.{Entry}

pub record Keyed : Type 0 where
  pub keys : Row
  pub row : Row

abbrev pub view : Entry → Keyed
view entry = record { keys = map datum_of entry.keys.items; row = map datum_of entry.row.now }

abbrev pub rows_of : List Entry → List Row
rows_of entries = map (λ (entry : Entry). map datum_of entry.row.now) entries

abbrev pub keys_of : List Entry → List Row
keys_of entries = map (λ (entry : Entry). map datum_of entry.keys.items) entries

-- by the values of ORDER BY, and then by the whole row
abbrev pub entry_cmp : List Direction → Keyed → Keyed → Ordering
entry_cmp ds a b = ordering_then (keys_cmp ds a.keys b.keys) (row_cmp a.row b.row)

-- the keys are the values of ORDER BY on the row
abbrev pub IsOf : Valuation → List SortTerm → Entry → Type 0
IsOf value order entry = (view entry).keys ≡ sort_values value order (view entry).row

-- no keys come before those that stand in front of them, and there is one for each term of ORDER BY
pub record IsInWindowOrder (ds : List Direction) (keys : List Row) : Type 0 where
  pub rises : (i j : ℕ) → i ≤ j → j < length keys → is_lt (keys_cmp ds (row_at keys j) (row_at keys i)) ≡ false
  pub whole : (i : ℕ) → i < length keys → length (row_at keys i) ≡ length ds

-- the entries are those of the sequence of the rows, each with the values of ORDER BY on it
pub record IsSequence (value : Valuation) (order : List SortTerm) (given placed : List Entry) : Type 0 where
  pub rows : rows_of placed ≡ sequence value order (rows_of given)
  pub keys : keys_of placed ≡ map (sort_values value order) (sequence value order (rows_of given))
