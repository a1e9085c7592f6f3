-- How many values the rows of groups have, and expressions over these.
use Rattle.std.proofs.Common.{◌≡◌, ◌∙◌, ◌+◌, ◌≤◌, All, ℕ, List, [], ◌∷◌, length, map, Option, refl, sym, ap, arith}
use Rattle.std.specs.List.{range_with_len}
use Rattle.std.proofs.lemmas.List.{ext_get_or, length-append, length-map}
use Rattle.std.proofs.lemmas.List.Elements.{All-cons, All-contains, All-head, All-nil, All-tail}
use Rattle.std.proofs.lemmas.List.FromFn.{get_or-map-range_with_len, length-map-range_with_len}
use Rattle.values.specs.Datum.{Datum, null}
use Rattle.values.specs.Row.{Row}
use Rattle.expr.specs.Filled.{filled}
use Rattle.expr.specs.Meaning.{run}
use Rattle.expr.specs.Term.{Term}
use Rattle.semantics.specs.Body.{answers_in, values_over}
use Rattle.semantics.specs.Groups.{Group, aggregate_value, group_keys, group_of, group_row, group_rows}
use Rattle.semantics.specs.Hits.{where_rows}
use Rattle.semantics.specs.OneTable.{shown}
use Rattle.semantics.specs.Query.{Grouping}
use Rattle.semantics.specs.Sequence.{value_at}
use Rattle.semantics.specs.Valuation.{Valuation, holds_on, term_values}
use Rattle.semantics.proofs.ElementLemmas.{All-once}
use Rattle.logical_plan_terms.specs.Over.{StandsOver}
use Rattle.logical_plan_terms.specs.group_plans.Grouped.{group_columns}
use Rattle.logical_plan_terms.specs.group_plans.Laws.{GroupedSay}
use Rattle.logical_plan_terms.proofs.lemmas.group_plans.SeenLemmas.{held_filter}

all_mapped : {X Y : Type 0} (Q : X → Type 0) (P : Y → Type 0) (f : X → Y) (xs : List X) → ((x : X) → Q x → P (f x)) → All Q xs → All P (map f xs)
all_mapped Q P f [] each all = All-nil P
all_mapped Q P f (x ∷ xs) each all = All-cons P (f x) (map f xs) (each x (All-head Q x xs all)) (all_mapped Q P f xs each (All-tail Q x xs all))

everywhere : {X : Type 0} (xs : List X) → All (λ (x : X). Unit {0}) xs
everywhere xs = λ k d within. tt

-- a row whose values are all read is itself
pub shown_whole : (n : ℕ) (row : Row) → length row ≡ n → shown (range_with_len 0 n) row ≡ row
shown_whole n row long =
    ext_get_or null (shown (range_with_len 0 n) row) row (length-map-range_with_len (value_at row) 0 n ∙ sym long)
    (λ i within. get_or-map-range_with_len (value_at row) 0 n i i null (omega (arith, within, length-map-range_with_len (value_at row) 0 n)) (omega arith))

module _ (value : Valuation) where
  keys_wide : (by : List Term) (rows : List Row) → All (λ (key : Row). length key ≡ length by) (group_keys value by rows)
  keys_wide [] rows = All-cons (λ (key : Row). length key ≡ 0) [] [] refl (All-nil (λ (key : Row). length key ≡ 0))
  keys_wide (t ∷ ts) rows =
      All-once (λ (key : Row). length key ≡ length (t ∷ ts)) (map (term_values value (t ∷ ts)) rows)
      (all_mapped (λ (row : Row). Unit {0}) (λ (key : Row). length key ≡ length (t ∷ ts)) (term_values value (t ∷ ts)) rows
      (λ row any. length-map (t ∷ ts) (λ t. value t row)) (everywhere rows))

  pub rows_wide : (w : Datum) (g : Grouping) (rows : List Row) → All (λ (row : Row). length row ≡ length g.by + length g.aggregates) (group_rows value w g rows)
  rows_wide w g rows =
      all_mapped (λ (group : Group). length group.key ≡ length g.by) (λ (row : Row). length row ≡ length g.by + length g.aggregates)
      (group_row value w g.aggregates) (map (group_of value g.by rows) (group_keys value g.by rows))
      (λ group long. length-append group.key (map (aggregate_value value w group.members) g.aggregates)
      ∙ (λ j. long j + length-map g.aggregates (aggregate_value value w group.members) j))
      (all_mapped (λ (key : Row). length key ≡ length g.by) (λ (group : Group). length group.key ≡ length g.by) (group_of value g.by rows) (group_keys value g.by rows)
      (λ key long. long) (keys_wide g.by rows))

-- an expression over the values of a group's row says of it what its term says
pub wide_says : (g : Grouping) (inner : ℕ) (answers : List (List Datum)) (e t : Term) → length answers ≤ inner → StandsOver (group_columns g) inner e t
    → (o : Option Datum) (row : Row) → length row ≡ length g.by + length g.aggregates → run o row e ≡ run o row (filled answers t)
wide_says g inner answers e t few stands o row long =
    ap (λ r. run o r e) (sym (shown_whole (length g.by + length g.aggregates) row long)) ∙ stands answers few o row

pub grouped_say : GroupedSay
grouped_say w db from s g inner e t few stands o row held =
    let value = values_over w db from in
    wide_says g inner (answers_in w db from) e t few stands o row
    (All-contains (λ (row : Row). length row ≡ length g.by + length g.aggregates) (group_rows value w g (where_rows w db from s)) row
    (rows_wide value w g (where_rows w db from s))
    (held_filter (holds_on value g.having) (group_rows value w g (where_rows w db from s)) row held))
