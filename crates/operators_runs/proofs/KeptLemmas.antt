-- Columns of kept rows, written one row after another.
use Rattle.std.proofs.Common.{◌≡◌, ◌∙◌, ◌+◌, ◌-◌, ◌<◌, ◌≤◌, ◌^◌, arith, ℕ, suc, List, [], ◌∷◌, ◌++◌, add-one, drop, drop-cons, get_or, length, map, take, sym, ap, subst, Global, Vec}
use Rattle.std.proofs.lemmas.List.{length-map, map-append, map_push, take-append-drop, take_more}
use Rattle.std.specs.Io.KnownBytes.{Appends}
use Rattle.values.specs.Datum.{datum_of, datum_of_ref}
use Rattle.values.specs.Row.{Row, rows_data}
use Rattle.values.specs.Sink.{SinkFacts}
use Rattle.values.specs.declared.fault.Fault.{Fault}
use Rattle.values.specs.declared.value.Value.{Value}
use Rattle.values.specs.declared.value.ValueRef.{ValueRef}
use Rattle.values.proofs.SinkLemmas.{Appends-then}
use Rattle.semantics.specs.OneTable.{shown}
use Rattle.semantics.specs.Sequence.{value_at}
use Rattle.explain.specs.Text.{row_text}
use Rattle.operators_runs.specs.Stream.{Streams, StreamsUntil}
use Rattle.operators_runs.proofs.StreamLemmas.{length-shown, shown_text, shown_text-push, until_behind}

-- one column more
pub value_more : (row : Row) (columns : List ℕ) (i : ℕ) (values : List ValueRef) (value : ValueRef) → i < length columns
    → datum_of_ref value ≡ value_at row (get_or columns i 0) → map datum_of_ref values ≡ shown (take i columns) row
    → map datum_of_ref (values ++ value ∷ []) ≡ shown (take (i + 1) columns) row
value_more row columns i values value within is before =
    map_push datum_of_ref values value
    ∙ (λ k. before k ++ is k ∷ [])
    ∙ sym (map_push (value_at row) (take i columns) (get_or columns i 0))
    ∙ sym (ap (map (value_at row)) (take_more columns i 0 within))

module _ (columns : List ℕ) (rows : List (Vec Value Global)) (i : ℕ) (row : Vec Value Global) (within : i < length rows) (is : row ≡ get_or rows i row) where
  abbrev here : Row
  here = map datum_of row.items

  one_more : rows_data (take (i + 1) rows) ≡ rows_data (take i rows) ++ here ∷ []
  one_more =
      ap rows_data (take_more rows i row within ∙ ap (λ (r : Vec Value Global). take i rows ++ r ∷ []) (sym is))
      ∙ map_push (λ (r : Vec Value Global). map datum_of r.items) (take i rows) row

  parts : rows_data (take i rows) ++ (here ∷ [] ++ rows_data (drop (i + 1) rows)) ≡ rows_data rows
  parts =
      sym (map-append (λ (r : Vec Value Global). map datum_of r.items) (take i rows) (row ∷ drop (i + 1) rows))
      ∙ ap (λ (rest : List (Vec Value Global)). rows_data (take i rows ++ rest)) (rest_is)
      ∙ ap rows_data (take-append-drop i rows)
    where
      rest_is : row ∷ drop (i + 1) rows ≡ drop i rows
      rest_is = sym (drop-cons rows i row within ∙ (rw (add-one i) (ap (λ (r : Vec Value Global). r ∷ drop (suc i) rows) (sym is))))

  -- a row more was written
  pub kept_more : (old mid new : SinkFacts) → Appends old.written mid.written (shown_text columns (rows_data (take i rows)))
      → Appends mid.written new.written (row_text (shown columns here))
      → Appends old.written new.written (shown_text columns (rows_data (take (i + 1) rows)))
  kept_more old mid new before written =
      subst (λ (t : List ℕ). Appends old.written new.written t)
      (sym (ap (shown_text columns) one_more ∙ shown_text-push columns (rows_data (take i rows)) here))
      (Appends-then _ _ _ _ _ before written)

  -- a fault in this row
  pub kept_cut : (e : Fault) (old mid new : SinkFacts) → Appends old.written mid.written (shown_text columns (rows_data (take i rows)))
      → StreamsUntil e columns (here ∷ []) mid new → StreamsUntil e columns (rows_data rows) old new
  kept_cut e old mid new before until =
      subst (λ (all : List Row). StreamsUntil e columns all old new) parts
      (until_behind e columns (rows_data (take i rows)) (here ∷ []) (rows_data (drop (i + 1) rows)) old mid new before until)

-- all were written
pub kept_done : (columns : List ℕ) (rows : List (Vec Value Global)) (old new : SinkFacts) (n : ℕ) → n ≡ length rows → n ≤ 2 ^ 64 - 1
    → Appends old.written new.written (shown_text columns (rows_data rows)) → Streams columns (rows_data rows) n old new
kept_done columns rows old new n is few written = record {
  written = written;
  counted_is =
      let long = length-shown columns (rows_data rows) in
      let same = length-map rows (λ (r : Vec Value Global). map datum_of r.items) in
      omega (arith, is, few, long, same);
}
