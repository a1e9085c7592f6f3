-- Windows: the sequence of a partition, frames in it, and values. (Window Functions)
use Rattle.std.specs.Prelude.{◌≡◌, IsPermutation, IsSorted, ℕ, ℤ, pos, neg_ℤ, ◌+ℤ◌, ◌-ℤ◌, int_le, ◌+◌, ◌-◌, ◌*◌, ◌/◌, ◌%◌, ◌==◌, nat_le, nat_lt, Bool, true, false, not, ◌&&◌, if◌then◌else◌, List, [], ◌∷◌, ◌++◌, filter, length, map, reverse, slice_index_or, Option, Some, None, unwrap_or}
use Rattle.std.specs.List.{range_with_len}
use Rattle.std.specs.Ordering.{is_eq, is_lt, on, then_cmp}
use Rattle.std.specs.declared.cmp.Ordering.{Ordering}
use Rattle.values.specs.Datum.{Datum, null, int}
use Rattle.values.specs.Order.{row_cmp}
use Rattle.expr.specs.operations.Operations.{settle}
use Rattle.semantics.specs.Query.{Direction, SortTerm, FrameUnit, Edge, Exclusion, Frame, Window, WindowFunction, WindowCall}
use Rattle.values.specs.Row.{Row}
use Rattle.semantics.specs.Sequence.{value_at, keys_cmp, sorted}
use Rattle.semantics.specs.Times.{once, same_row, times}
use Rattle.semantics.specs.Valuation.{Valuation, term_values}
use Rattle.semantics.specs.Groups.{aggregate_result}

-- ---- the sequence

abbrev pub directions : List SortTerm → List Direction
directions order = map (λ s. s.direction) order

abbrev pub sort_values : Valuation → List SortTerm → Row → Row
sort_values value order row = map (λ s. value s.term row) order

-- by the window's ORDER BY, and then by the whole row
abbrev pub sequence_cmp : Valuation → List SortTerm → Row → Row → Ordering
sequence_cmp value order = then_cmp (on (sort_values value order) (keys_cmp (directions order))) row_cmp

-- the list of these rows that ascends so, of which there is one
abbrev pub sequence : Valuation → List SortTerm → List Row → List Row
sequence value order = sorted (sequence_cmp value order)

abbrev pub row_at : List Row → ℕ → Row
row_at sequence at = slice_index_or sequence at []

-- the places of a list
abbrev pub places : {X : Type 0} → List X → List ℕ
places xs = range_with_len 0 (length xs)

-- ---- peers: `keys` are the values of the window's ORDER BY, of each row of the sequence

-- the keys that come before this one
abbrev pub earlier : List Direction → List Row → Row → List Row
earlier ds keys key = filter (λ other. is_lt (keys_cmp ds other key)) keys

abbrev pub are_peers : List Direction → List Row → ℕ → ℕ → Bool
are_peers ds keys here at = is_eq (keys_cmp ds (row_at keys here) (row_at keys at))

-- how many groups of peers come before that of this place
abbrev pub peer_group : List Direction → List Row → ℕ → ℕ
peer_group ds keys here = length (once (earlier ds keys (row_at keys here)))

-- ---- frames

-- how far an edge stands from the current row, and nothing where it is unbounded
abbrev pub distance : Edge → Option ℤ
distance Edge.unbounded_preceding = None
distance (Edge.preceding n) = Some (neg_ℤ (pos n))
distance Edge.current_row = Some (pos 0)
distance (Edge.following n) = Some (pos n)
distance Edge.unbounded_following = None

-- a key so far along the order, exact; NULL stays where the order has it
abbrev pub moved : Bool → ℤ → Datum → Datum
moved descending by (int n) = int (if descending then n -ℤ by else n +ℤ by)
moved descending by value = value

-- where an edge of RANGE stands: the one key of ORDER BY is moved
abbrev pub edge_key : List Direction → ℤ → Row → Row
edge_key [] by key = key
edge_key (d ∷ ds) by [] = []
edge_key (d ∷ ds) by (value ∷ values) = moved d.descending by value ∷ values

-- the place stands before the edge that is so far from the current row
abbrev pub before_edge : List Direction → FrameUnit → List Row → ℕ → ℤ → ℕ → Bool
before_edge ds FrameUnit.rows keys here by at = not (int_le (pos here +ℤ by) (pos at))
before_edge ds FrameUnit.groups keys here by at = not (int_le (pos (peer_group ds keys here) +ℤ by) (pos (peer_group ds keys at)))
before_edge ds FrameUnit.range keys here by at = is_lt (keys_cmp ds (row_at keys at) (edge_key ds by (row_at keys here)))

-- it stands after the edge
abbrev pub after_edge : List Direction → FrameUnit → List Row → ℕ → ℤ → ℕ → Bool
after_edge ds FrameUnit.rows keys here by at = not (int_le (pos at) (pos here +ℤ by))
after_edge ds FrameUnit.groups keys here by at = not (int_le (pos (peer_group ds keys at)) (pos (peer_group ds keys here) +ℤ by))
after_edge ds FrameUnit.range keys here by at = is_lt (keys_cmp ds (edge_key ds by (row_at keys here)) (row_at keys at))

abbrev pub unless : (ℤ → Bool) → Option ℤ → Bool
unless test None = true
unless test (Some by) = not (test by)

-- whether EXCLUDE takes a place out, which is that of the current row or not, and that of a peer or not
abbrev pub excludes : Exclusion → Bool → Bool → Bool
excludes Exclusion.no_others itself peer = false
excludes Exclusion.current itself peer = itself
excludes Exclusion.group itself peer = peer
excludes Exclusion.ties itself peer = peer && not itself

abbrev pub in_frame : List Direction → Frame → List Row → ℕ → ℕ → Bool
in_frame ds frame keys here at =
    unless (λ by. before_edge ds frame.unit keys here by at) (distance frame.start)
    && (unless (λ by. after_edge ds frame.unit keys here by at) (distance frame.end)
    && not (excludes frame.exclude (here == at) (are_peers ds keys here at)))

-- the rows of the frame of a place, in the order of the sequence
abbrev pub frame_rows : Valuation → Window → List Row → ℕ → List Row
frame_rows value window sequence here =
    map (row_at sequence) (filter (in_frame (directions window.order) window.frame (map (sort_values value window.order) sequence) here) (places sequence))

-- ---- values

-- of so many rows in so many buckets, as equal as can be and the larger first, the bucket of a place
abbrev pub bucket : ℕ → ℕ → ℕ → ℕ
bucket buckets rows at =
    let small = rows / buckets in
    let large = rows % buckets in
    if nat_lt at (large * (small + 1)) then at / (small + 1) else (large + (at - large * (small + 1)) / small)

-- the value of a window function at a place of the sequence; a number that leaves 64 bits is replaced by what stands for
-- it, if anything does
abbrev pub window_result : Valuation → Option Datum → Window → WindowFunction → List Row → ℕ → Option Datum
window_result value o window (WindowFunction.aggregate a) sequence here = aggregate_result value o a (frame_rows value window sequence here)
window_result value o window WindowFunction.row_number sequence here = settle o (pos (here + 1))
window_result value o window WindowFunction.rank sequence here =
    let keys = map (sort_values value window.order) sequence in
    settle o (pos (length (earlier (directions window.order) keys (row_at keys here)) + 1))
window_result value o window WindowFunction.dense_rank sequence here =
    settle o (pos (peer_group (directions window.order) (map (sort_values value window.order) sequence) here + 1))
window_result value o window (WindowFunction.ntile n) sequence here = settle o (pos (bucket n (length sequence) here + 1))
window_result value o window (WindowFunction.lag x n otherwise) sequence here =
    Some (if nat_le n here then value x (row_at sequence (here - n)) else value otherwise (row_at sequence here))
window_result value o window (WindowFunction.lead x n otherwise) sequence here =
    Some (if nat_lt (here + n) (length sequence) then value x (row_at sequence (here + n)) else value otherwise (row_at sequence here))
window_result value o window (WindowFunction.first_value x) sequence here =
    Some (value_at (map (value x) (frame_rows value window sequence here)) 0)
window_result value o window (WindowFunction.last_value x) sequence here =
    Some (value_at (reverse (map (value x) (frame_rows value window sequence here))) 0)
window_result value o window (WindowFunction.nth_value x n) sequence here =
    Some (value_at (map (value x) (frame_rows value window sequence here)) (n - 1))

-- ---- rows with their values

-- Each row with how many equal ones stand before it, in the list and among those that come before the list. So equal rows
-- are told apart, in one way for all windows of a SELECT, and which of them has which number makes no difference to the bag.
abbrev pub numbered_after : List Row → List Row → List (Row × ℕ)
numbered_after before [] = []
numbered_after before (row ∷ rows) = (row, times row before) ∷ numbered_after (row ∷ before) rows

abbrev pub numbered : List Row → List (Row × ℕ)
numbered = numbered_after []

-- the rows that agree with this one in the values of PARTITION BY
abbrev pub partition_of : Valuation → Window → List Row → Row → List Row
partition_of value window rows row =
    filter (λ other. same_row (term_values value window.partition row) (term_values value window.partition other)) rows

-- the place of a row in the sequence of its partition: behind the rows that come before it, and behind so many equal ones
abbrev pub place_of : Valuation → Window → List Row → Row × ℕ → ℕ
place_of value window rows r =
    length (filter (λ other. is_lt (sequence_cmp value window.order other r.0)) (partition_of value window rows r.0)) + r.1

abbrev pub call_result : Valuation → Option Datum → WindowCall → List Row → Row × ℕ → Option Datum
call_result value o call rows r =
    window_result value o call.window call.function
    (sequence value call.window.order (partition_of value call.window rows r.0)) (place_of value call.window rows r)

abbrev pub call_value : Valuation → Datum → List Row → Row × ℕ → WindowCall → Datum
call_value value w rows r call = unwrap_or (call_result value (Some w) call rows r) null

-- each row, and behind it the value of each window call
abbrev pub windowed : Valuation → Datum → List WindowCall → List Row → List Row
windowed value w calls rows = map (λ r. r.0 ++ map (call_value value w rows r) calls) (numbered rows)

-- whatever list of these rows ascends so is the sequence
abbrev pub SequenceIsOne : Type 0
SequenceIsOne = (value : Valuation) (order : List SortTerm) (rows ascending : List Row) → IsPermutation rows ascending
    → IsSorted (sequence_cmp value order) ascending → ascending ≡ sequence value order rows
