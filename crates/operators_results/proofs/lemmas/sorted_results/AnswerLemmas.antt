-- Rows that were put in order are shown as ORDER BY, LIMIT and OFFSET say.
use Rattle.std.proofs.Common.{◌≡◌, ◌∙◌, ℕ, ℤ, List, [], is_lt, map, sym, ap, subst, Option, IsPermutation}
use Rattle.values.specs.Datum.{Datum}
use Rattle.values.specs.Row.{Row}
use Rattle.expr.specs.Meaning.{eval}
use Rattle.semantics.specs.Answer.{key_directions, limited, skipped}
use Rattle.semantics.specs.Body.{Output, key_value}
use Rattle.semantics.specs.Query.{Direction, Key}
use Rattle.semantics.specs.Sequence.{keys_cmp}
use Rattle.semantics.proofs.AnswerLemmas.{limited-map, skipped-map}
use Rattle.semantics.proofs.GroupLemmas.{map-map}
use Rattle.operators_results.specs.declared.limits.LimitOffset.{LimitOffset}
use Rattle.operators_results.specs.Slices.{sliced}
use Rattle.windows_groups.specs.declared.order.ResultKey.{ResultKey}
use Rattle.windows_groups.specs.Firsts.{BeginsAll, at_most}
use Rattle.windows_groups.specs.Keys.{comes_before, directions, key_values, result_key}
use Rattle.windows_groups.proofs.FirstLemmas.{BeginsAll-map, at_most-map}
use Rattle.logical_plan.specs.answers.Answers.{IsShownInOrder, OrderData, shown_output, without}

-- rows in order, of which a part is shown
module _ (front : Row → Row) (order : List ResultKey) (ways : List Direction) (limit : Option ℤ) (offset : ℤ) (most : Option ℕ) (first all : List Row)
    (slice : LimitOffset) (rows : List Row)
    (ways_are : directions order ≡ ways)
    (made : BeginsAll (comes_before order) most first all)
    (looked_at : (rows : List Row) → limited limit (skipped offset (at_most most rows)) ≡ limited limit (skipped offset rows))
    (shown : rows ≡ sliced slice (map front first))
    (slice_is : (rows : List Row) → sliced slice rows ≡ limited limit (skipped offset rows)) where
  abbrev pub output_of : Row → Output
  output_of row = record { row = front row; keys = key_values order row }

  pub outputs_begin : BeginsAll (λ (a b : Output). is_lt (keys_cmp ways a.keys b.keys)) most (map output_of first) (map output_of all)
  outputs_begin =
      BeginsAll-map (λ (a b : Output). is_lt (keys_cmp ways a.keys b.keys)) output_of most first all
      (subst (λ (ds : List Direction). BeginsAll (λ x y. is_lt (keys_cmp ds (key_values order x) (key_values order y))) most first all) ways_are made)

  abbrev row_of : Output → Row
  row_of o = o.row

  first_rows : at_most most (map front first) ≡ at_most most (map row_of outputs_begin.ordered)
  first_rows =
      ap (at_most most) (sym (map-map row_of output_of first))
      ∙ at_most-map row_of most (map output_of first)
      ∙ ap (map row_of) (sym outputs_begin.begins)
      ∙ sym (at_most-map row_of most outputs_begin.ordered)

  pub rows_shown : rows ≡ map row_of (limited limit (skipped offset outputs_begin.ordered))
  rows_shown =
      shown ∙ slice_is (map front first)
      ∙ sym (looked_at (map front first))
      ∙ ap (λ rows. limited limit (skipped offset rows)) first_rows
      ∙ looked_at (map row_of outputs_begin.ordered)
      ∙ ap (limited limit) (skipped-map row_of offset outputs_begin.ordered)
      ∙ limited-map row_of limit (skipped offset outputs_begin.ordered)

directions_are : (keys : List ResultKey) → directions keys ≡ key_directions (map result_key keys)
directions_are keys = sym (map-map (λ (key : Key). key.direction) result_key keys)

keys_are : (w : Datum) (keys : List ResultKey) (row : Row) → key_values keys row ≡ map (key_value (eval w) row []) (map result_key keys)
keys_are w keys row = sym (map-map (key_value (eval w) row []) result_key keys)

module _ (w : Datum) (keys : List ResultKey) (hidden : ℕ) (limit : Option ℤ) (offset : ℤ) (all : List Row) (most : Option ℕ) (first : List Row)
    (slice : LimitOffset) (rows : List Row)
    (made : BeginsAll (comes_before keys) most first all)
    (looked_at : (rows : List Row) → limited limit (skipped offset (at_most most rows)) ≡ limited limit (skipped offset rows))
    (shown : rows ≡ sliced slice (map (without hidden) first))
    (slice_is : (rows : List Row) → sliced slice rows ≡ limited limit (skipped offset rows)) where
  abbrev pub order : OrderData
  order = record { keys = map result_key keys; hidden = hidden }

  abbrev seen : Row → Output
  seen row = record { row = without hidden row; keys = key_values keys row }

  seen_is : (row : Row) → seen row ≡ shown_output w order row
  seen_is row i = record { row = without hidden row; keys = keys_are w keys row i }

  outputs_are : map seen all ≡ map (shown_output w order) all
  outputs_are = ap (λ (f : Row → Output). map f all) (λ i row. seen_is row i)

  abbrev begin : BeginsAll (λ (a b : Output). is_lt (keys_cmp (key_directions order.keys) a.keys b.keys)) most (map seen first) (map seen all)
  begin =
      outputs_begin (without hidden) keys (key_directions order.keys) limit offset most first all slice rows (directions_are keys) made looked_at shown slice_is

  pub is_shown : IsShownInOrder w order limit offset all rows
  is_shown = record {
    ordered = begin.ordered;
    same = subst (λ (outs : List Output). IsPermutation outs begin.ordered) outputs_are begin.same;
    ascends = begin.ascends;
    shown =
        rows_shown (without hidden) keys (key_directions order.keys) limit offset most first all slice rows (directions_are keys) made looked_at shown slice_is;
  }
