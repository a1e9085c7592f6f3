-- Which entries of a tree a search gives, and where they stand. (Database File Format, section 2.3; The SQLite Query
-- Optimizer Overview)
use Rattle.std.specs.Prelude.{Bool, true, false, not, ◌&&◌, ◌||◌, if◌then◌else◌, ℕ, ◌+◌, List, [], ◌∷◌, ◌++◌, length, Option, Some, None, slice_index_or}
use Rattle.std.specs.List.{list_any}
use Rattle.std.specs.Ordering.{ordering_then, ordering_reverse, is_lt, is_le, is_eq, is_ge, is_gt}
use Rattle.std.specs.declared.cmp.Ordering.{Ordering}
use Rattle.std.specs.declared.cmp.Ordering.TheVariants.{Equal, Greater}
use Rattle.values.specs.Datum.{Datum, null, int, text, blob}
use Rattle.values.specs.Order.{datum_cmp}

-- the value of a bound, and whether it is one of `<` and `>`, rather than of `<=` and `>=`
pub record Edge : Type 0 where
  pub value : Datum
  pub strict : Bool

-- What a search asks of an entry: the values of its first columns, and between which its next one stands.
pub record Range : Type 0 where
  pub equal : List Datum
  pub lower : Option Edge
  pub upper : Option Edge

-- ---- what an entry has to meet, as its conditions say: a comparison with NULL is never true

abbrev pub is_null : Datum → Bool
is_null null = true
is_null (int number) = false
is_null (text bytes) = false
is_null (blob bytes) = false

abbrev pub holds : (Ordering → Bool) → Datum → Datum → Bool
holds test a b = if is_null a || is_null b then false else test (datum_cmp a b)

abbrev pub above : Bool → Ordering → Bool
above strict = if strict then is_gt else is_ge

abbrev pub below : Bool → Ordering → Bool
below strict = if strict then is_lt else is_le

abbrev pub is_above : Option Edge → Datum → Bool
is_above None value = true
is_above (Some edge) value = holds (above edge.strict) value edge.value

abbrev pub is_below : Option Edge → Datum → Bool
is_below None value = true
is_below (Some edge) value = holds (below edge.strict) value edge.value

abbrev pub meets : List Datum → Option Edge → Option Edge → List Datum → Bool
meets [] lower upper entry = is_above lower (slice_index_or entry 0 null) && is_below upper (slice_index_or entry 0 null)
meets (value ∷ more) lower upper [] = false
meets (value ∷ more) lower upper (first ∷ rest) = holds is_eq first value && meets more lower upper rest

-- ---- where such entries stand

-- the order of a column whose values descend or don't
abbrev pub directed : Bool → Ordering → Ordering
directed descends order = if descends then ordering_reverse order else order

-- how a key stands to an entry, compared by the key's columns alone; `descends` is the direction of each column
abbrev pub key_cmp : List Bool → List Datum → List Datum → Ordering
key_cmp descends [] entry = Equal
key_cmp descends (value ∷ more) [] = Greater
key_cmp [] (value ∷ more) (first ∷ rest) = ordering_then (datum_cmp value first) (key_cmp [] more rest)
key_cmp (d ∷ descends) (value ∷ more) (first ∷ rest) = ordering_then (directed d (datum_cmp value first)) (key_cmp descends more rest)

-- A cut of the entries: those that come before a key, and where it says so those that agree with it, stand before it.
pub record Cut : Type 0 where
  pub key : List Datum
  pub behind : Bool

abbrev pub stands_before : Bool → Ordering → Bool
stands_before behind order = if behind then not (is_lt order) else is_gt order

abbrev pub is_before : List Bool → Cut → List Datum → Bool
is_before descends cut entry = stands_before cut.behind (key_cmp descends cut.key entry)

-- Where the next column begins: behind its first bound. Without one an ascending column begins with its NULLs, which
-- no upper bound lets through.
abbrev pub first_cut : Bool → Option Edge → Option Edge → Cut
first_cut false (Some edge) upper = record { key = edge.value ∷ []; behind = edge.strict }
first_cut false None (Some edge) = record { key = null ∷ []; behind = true }
first_cut false None None = record { key = []; behind = false }
first_cut true lower (Some edge) = record { key = edge.value ∷ []; behind = edge.strict }
first_cut true lower None = record { key = []; behind = false }

-- Where it ends: before its last bound. A descending column ends with its NULLs.
abbrev pub last_cut : Bool → Option Edge → Option Edge → Cut
last_cut false lower (Some edge) = record { key = edge.value ∷ []; behind = not edge.strict }
last_cut false lower None = record { key = []; behind = true }
last_cut true (Some edge) upper = record { key = edge.value ∷ []; behind = not edge.strict }
last_cut true None (Some edge) = record { key = null ∷ []; behind = false }
last_cut true None None = record { key = []; behind = true }

-- the same behind the values of the first columns
abbrev pub behind_values : List Datum → Cut → Cut
behind_values equal cut = record { key = equal ++ cut.key; behind = cut.behind }

-- the direction of the column behind so many
abbrev pub direction : List Bool → ℕ → Bool
direction descends at = slice_index_or descends at false

abbrev pub from_cut : List Bool → Range → Cut
from_cut descends range = behind_values range.equal (first_cut (direction descends (length range.equal)) range.lower range.upper)

abbrev pub to_cut : List Bool → Range → Cut
to_cut descends range = behind_values range.equal (last_cut (direction descends (length range.equal)) range.lower range.upper)

-- an entry stands between two cuts
abbrev pub is_within : List Bool → Cut → Cut → List Datum → Bool
is_within descends from to entry = not (is_before descends from entry) && is_before descends to entry

-- a bound is NULL, so that no entry meets it
abbrev pub edge_is_null : Option Edge → Bool
edge_is_null None = false
edge_is_null (Some edge) = is_null edge.value

abbrev pub has_null : Range → Bool
has_null range = list_any is_null range.equal || (edge_is_null range.lower || edge_is_null range.upper)

-- how many columns of an entry a range looks at
abbrev pub bounded_columns : Option Edge → Option Edge → ℕ
bounded_columns None None = 0
bounded_columns lower upper = 1

abbrev pub width : Range → ℕ
width range = length range.equal + bounded_columns range.lower range.upper
