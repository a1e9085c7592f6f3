-- A SELECT in which other expressions stand, whose values are those of its own under another valuation.
use Rattle.std.proofs.Common.{◌≡◌, ℕ, ◌+◌, ◌-◌, pos, length, reverse, List, [], ◌∷◌, ◌++◌, map, Option, Some, None, unwrap_or, option_map, refl, sym, ap, ◌∙◌}
use Rattle.std.specs.List.{filter, flat_map}
use Rattle.std.proofs.lemmas.List.{map-append}
use Rattle.values.specs.Datum.{Datum, null}
use Rattle.values.specs.Row.{Row}
use Rattle.expr.specs.operations.Operations.{settle}
use Rattle.expr.specs.Term.{Term}
use Rattle.semantics.proofs.GroupLemmas.{map-map, map_agree}
use Rattle.semantics.specs.Body.{distinct, key_value, output, plain_outputs, results, select_outputs, select_rows}
use Rattle.semantics.specs.Groups.{Group, aggregate_result, aggregate_value, group_keys, group_of, group_row, group_rows, grouped, groups}
use Rattle.semantics.specs.Hits.{call_terms, function_terms, grouping_terms, key_terms, order_terms}
use Rattle.semantics.specs.Query.{Aggregate, Direction, Grouping, Key, KeyTerm, Select, SortTerm, Window, WindowCall, WindowFunction}
use Rattle.semantics.specs.Sequence.{value_at}
use Rattle.semantics.specs.Times.{once, same_row}
use Rattle.semantics.specs.Valuation.{Valuation, kept, term_values}
use Rattle.semantics.specs.Windows.{call_result, call_value, directions, earlier, frame_rows, in_frame, numbered, partition_of, peer_group, place_of, places, row_at, sequence, sort_values, window_result, windowed}
use Rattle.semantics.specs.Mapped.{mapped_aggregate, mapped_call, mapped_function, mapped_grouping, mapped_key, mapped_key_term, mapped_select, mapped_sort, mapped_window}

module _ (value : Valuation) (f : Term → Term) where
  -- the value of what stands in the place of an expression
  abbrev pub behind : Valuation
  behind t = value (f t)

  pub terms_mapped : (terms : List Term) → term_values value (map f terms) ≡ term_values behind terms
  terms_mapped terms = λ i row. map-map (λ t. value t row) f terms i

  -- ---- groups

  group_keys_mapped : (by : List Term) (rows : List Row) → group_keys value (map f by) rows ≡ group_keys behind by rows
  group_keys_mapped [] rows = refl
  group_keys_mapped (t ∷ ts) rows = ap (λ (of : Row → Row). once (map of rows)) (terms_mapped (t ∷ ts))

  group_of_mapped : (by : List Term) (rows : List Row) (key : Row) → group_of value (map f by) rows key ≡ group_of behind by rows key
  group_of_mapped by rows key = ap (λ (of : Row → Row). record { key = key; members = filter (λ row. same_row key (of row)) rows }) (terms_mapped by)

  pub groups_mapped : (by : List Term) (rows : List Row) → groups value (map f by) rows ≡ groups behind by rows
  groups_mapped by rows =
      ap (map (group_of value (map f by) rows)) (group_keys_mapped by rows)
      ∙ map_agree (group_of value (map f by) rows) (group_of behind by rows) (group_of_mapped by rows) (group_keys behind by rows)

  group_row_mapped : (w : Datum) (aggregates : List Aggregate) (group : Group)
      → group_row value w (map (mapped_aggregate f) aggregates) group ≡ group_row behind w aggregates group
  group_row_mapped w aggregates group = ap (λ values. group.key ++ values) (map-map (aggregate_value value w group.members) (mapped_aggregate f) aggregates)

  pub group_rows_mapped : (w : Datum) (g : Grouping) (rows : List Row) → group_rows value w (mapped_grouping f g) rows ≡ group_rows behind w g rows
  group_rows_mapped w g rows =
      ap (map (group_row value w (map (mapped_aggregate f) g.aggregates))) (groups_mapped g.by rows)
      ∙ map_agree (group_row value w (map (mapped_aggregate f) g.aggregates)) (group_row behind w g.aggregates) (group_row_mapped w g.aggregates) (groups behind g.by rows)

  pub grouped_mapped : (w : Datum) (g : Option Grouping) (rows : List Row) → grouped value w (option_map (mapped_grouping f) g) rows ≡ grouped behind w g rows
  grouped_mapped w None rows = refl
  grouped_mapped w (Some g) rows = ap (kept behind g.having) (group_rows_mapped w g rows)

  -- ---- windows

  -- what depends on the directions of ORDER BY and on the values of its terms
  in_order : {X : Type 0} (g : List Direction → (Row → Row) → X) (order : List SortTerm)
      → g (directions (map (mapped_sort f) order)) (sort_values value (map (mapped_sort f) order)) ≡ g (directions order) (sort_values behind order)
  in_order g order =
      ap (λ ds. g ds (sort_values value (map (mapped_sort f) order))) (map-map (λ (s : SortTerm). s.direction) (mapped_sort f) order)
      ∙ ap (g (directions order)) (λ i row. map-map (λ (s : SortTerm). value s.term row) (mapped_sort f) order i)

  frame_mapped : (window : Window) (rows : List Row) (here : ℕ) → frame_rows value (mapped_window f window) rows here ≡ frame_rows behind window rows here
  frame_mapped window rows here =
      in_order (λ ds of. map (row_at rows) (filter (in_frame ds window.frame (map of rows) here) (places rows))) window.order

  module _ (o : Option Datum) (window : Window) where
    function_mapped : (function : WindowFunction) (rows : List Row) (here : ℕ)
        → window_result value o (mapped_window f window) (mapped_function f function) rows here ≡ window_result behind o window function rows here
    function_mapped (WindowFunction.aggregate a) rows here = ap (aggregate_result behind o a) (frame_mapped window rows here)
    function_mapped WindowFunction.row_number rows here = refl
    function_mapped WindowFunction.rank rows here =
        in_order (λ ds of. settle o (pos (length (earlier ds (map of rows) (row_at (map of rows) here)) + 1))) window.order
    function_mapped WindowFunction.dense_rank rows here = in_order (λ ds of. settle o (pos (peer_group ds (map of rows) here + 1))) window.order
    function_mapped (WindowFunction.ntile n) rows here = refl
    function_mapped (WindowFunction.lag x n otherwise) rows here = refl
    function_mapped (WindowFunction.lead x n otherwise) rows here = refl
    function_mapped (WindowFunction.first_value x) rows here = ap (λ frame. Some (value_at (map (behind x) frame) 0)) (frame_mapped window rows here)
    function_mapped (WindowFunction.last_value x) rows here = ap (λ frame. Some (value_at (reverse (map (behind x) frame)) 0)) (frame_mapped window rows here)
    function_mapped (WindowFunction.nth_value x n) rows here = ap (λ frame. Some (value_at (map (behind x) frame) (n - 1))) (frame_mapped window rows here)

  partition_mapped : (window : Window) (rows : List Row) (row : Row)
      → partition_of value (mapped_window f window) rows row ≡ partition_of behind window rows row
  partition_mapped window rows row =
      ap (λ (of : Row → Row). filter (λ other. same_row (of row) (of other)) rows) (terms_mapped window.partition)

  sequence_mapped : (order : List SortTerm) (rows : List Row) → sequence value (map (mapped_sort f) order) rows ≡ sequence behind order rows
  sequence_mapped order rows = simp map-map

  place_mapped : (window : Window) (rows : List Row) (r : Row × ℕ) → place_of value (mapped_window f window) rows r ≡ place_of behind window rows r
  place_mapped window rows r = simp map-map

  pub call_mapped : (o : Option Datum) (call : WindowCall) (rows : List Row) (r : Row × ℕ)
      → call_result value o (mapped_call f call) rows r ≡ call_result behind o call rows r
  call_mapped o call rows r =
      function_mapped o call.window call.function _ _
      ∙ ap (λ s. window_result behind o call.window call.function s (place_of value (mapped_window f call.window) rows r))
      (ap (sequence value (map (mapped_sort f) call.window.order)) (partition_mapped call.window rows r.0)
      ∙ sequence_mapped call.window.order (partition_of behind call.window rows r.0))
      ∙ ap (window_result behind o call.window call.function (sequence behind call.window.order (partition_of behind call.window rows r.0)))
      (place_mapped call.window rows r)

  calls_mapped : (w : Datum) (calls : List WindowCall) (rows : List Row) (r : Row × ℕ)
      → map (call_value value w rows r) (map (mapped_call f) calls) ≡ map (call_value behind w rows r) calls
  calls_mapped w calls rows r =
      map-map (call_value value w rows r) (mapped_call f) calls
      ∙ map_agree (λ call. call_value value w rows r (mapped_call f call)) (call_value behind w rows r)
      (λ call. ap (λ m. unwrap_or m null) (call_mapped (Some w) call rows r)) calls

  pub windowed_mapped : (w : Datum) (calls : List WindowCall) (rows : List Row) → windowed value w (map (mapped_call f) calls) rows ≡ windowed behind w calls rows
  windowed_mapped w calls rows =
      map_agree (λ (r : Row × ℕ). r.0 ++ map (call_value value w rows r) (map (mapped_call f) calls)) (λ (r : Row × ℕ). r.0 ++ map (call_value behind w rows r) calls)
      (λ r. ap (λ values. r.0 ++ values) (calls_mapped w calls rows r)) (numbered rows)

  -- ---- the SELECT

  pub select_rows_mapped : (w : Datum) (s : Select) (rows : List Row) → select_rows value w (mapped_select f s) rows ≡ select_rows behind w s rows
  select_rows_mapped w s rows =
      windowed_mapped w s.windows _ ∙ ap (windowed behind w s.windows) (grouped_mapped w s.grouping (kept behind s.condition rows))

  pub results_mapped : (w : Datum) (s : Select) (rows : List Row) → results value w (mapped_select f s) rows ≡ results behind w s rows
  results_mapped w s rows = ap (distinct s.distinct)
      (ap (λ (of : Row → Row). map of (select_rows value w (mapped_select f s) rows)) (terms_mapped s.columns)
      ∙ ap (map (term_values behind s.columns)) (select_rows_mapped w s rows))

  -- ---- its ORDER BY

  key_mapped : (shown row : Row) (by : KeyTerm) (direction : Direction)
      → key_value value shown row (mapped_key f (record { by = by; direction = direction })) ≡ key_value behind shown row (record { by = by; direction = direction })
  key_mapped shown row (KeyTerm.result at) direction = refl
  key_mapped shown row (KeyTerm.term t) direction = refl

  keys_mapped : (order : List Key) (shown row : Row) → map (key_value value shown row) (map (mapped_key f) order) ≡ map (key_value behind shown row) order
  keys_mapped order shown row =
      map-map (key_value value shown row) (mapped_key f) order
      ∙ map_agree (λ key. key_value value shown row (mapped_key f key)) (key_value behind shown row) (λ key. key_mapped shown row key.by key.direction) order

  output_mapped : (order : List Key) (shown row : Row) → output value (map (mapped_key f) order) shown row ≡ output behind order shown row
  output_mapped order shown row = ap (λ keys. record { row = shown; keys = keys }) (keys_mapped order shown row)

  pub plain_mapped : (order : List Key) (rows : List Row) → plain_outputs value (map (mapped_key f) order) rows ≡ plain_outputs behind order rows
  plain_mapped order rows =
      map_agree (λ shown. output value (map (mapped_key f) order) shown []) (λ shown. output behind order shown []) (λ shown. output_mapped order shown []) rows

  pub select_outputs_mapped : (w : Datum) (order : List Key) (s : Select) (rows : List Row)
      → select_outputs value w (map (mapped_key f) order) (mapped_select f s) rows ≡ select_outputs behind w order s rows
  select_outputs_mapped w order s rows =
      map_agree (λ row. output value (map (mapped_key f) order) (term_values value (map f s.columns) row) row)
      (λ row. output behind order (term_values behind s.columns row) row)
      (λ row. ap (λ (of : Row → Row). output value (map (mapped_key f) order) (of row) row) (terms_mapped s.columns) ∙ output_mapped order (term_values behind s.columns row) row)
      (select_rows value w (mapped_select f s) rows)
      ∙ ap (map (λ row. output behind order (term_values behind s.columns row) row)) (select_rows_mapped w s rows)

-- ---- the expressions of a SELECT

module _ (f : Term → Term) where
  pub grouping_terms_mapped : (g : Grouping) → grouping_terms (mapped_grouping f g) ≡ map f (grouping_terms g)
  grouping_terms_mapped g =
      ap (λ rest. map f g.by ++ rest) (map-map (λ (a : Aggregate). a.argument) (mapped_aggregate f) g.aggregates ∙ sym (map-map f (λ (a : Aggregate). a.argument) g.aggregates))
      ∙ sym (map-append f g.by (map (λ a. a.argument) g.aggregates))

  function_terms_mapped : (function : WindowFunction) → function_terms (mapped_function f function) ≡ map f (function_terms function)
  function_terms_mapped (WindowFunction.aggregate a) = refl
  function_terms_mapped WindowFunction.row_number = refl
  function_terms_mapped WindowFunction.rank = refl
  function_terms_mapped WindowFunction.dense_rank = refl
  function_terms_mapped (WindowFunction.ntile n) = refl
  function_terms_mapped (WindowFunction.lag x n otherwise) = refl
  function_terms_mapped (WindowFunction.lead x n otherwise) = refl
  function_terms_mapped (WindowFunction.first_value x) = refl
  function_terms_mapped (WindowFunction.last_value x) = refl
  function_terms_mapped (WindowFunction.nth_value x n) = refl

  pub call_terms_mapped : (call : WindowCall) → call_terms (mapped_call f call) ≡ map f (call_terms call)
  call_terms_mapped call =
      rw (
        map-append f (call.window.partition ++ map (λ (s : SortTerm). s.term) call.window.order) (function_terms call.function),
        map-append f call.window.partition (map (λ (s : SortTerm). s.term) call.window.order),
        function_terms_mapped call.function,
        map-map (λ (s : SortTerm). s.term) (mapped_sort f) call.window.order,
        map-map f (λ (s : SortTerm). s.term) call.window.order,
      ) refl

  pub all_call_terms_mapped : (calls : List WindowCall) → flat_map call_terms (map (mapped_call f) calls) ≡ map f (flat_map call_terms calls)
  all_call_terms_mapped [] = refl
  all_call_terms_mapped (call ∷ calls) =
      rw (call_terms_mapped call, all_call_terms_mapped calls) (sym (map-append f (call_terms call) (flat_map call_terms calls)))

  key_terms_mapped : (by : KeyTerm) → key_terms (mapped_key_term f by) ≡ map f (key_terms by)
  key_terms_mapped (KeyTerm.result at) = refl
  key_terms_mapped (KeyTerm.term t) = refl

  pub order_terms_mapped : (order : List Key) → order_terms (map (mapped_key f) order) ≡ map f (order_terms order)
  order_terms_mapped [] = refl
  order_terms_mapped (key ∷ order) =
      rw (key_terms_mapped key.by, order_terms_mapped order) (sym (map-append f (key_terms key.by) (order_terms order)))
