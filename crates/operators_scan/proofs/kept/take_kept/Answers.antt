use Rattle.std.proofs.Common.{rules, ◌≡◌, ◌≤◌, ◌∙◌, ◌+◌, [], Vec, Global, append-nil, arith, drop, length, map, ap, sym, refl}
use Rattle.std.proofs.lemmas.List.{drop_all, length-map}
use Rattle.values.specs.declared.value.Value.{Value}
use Rattle.std.proofs.lemmas.Option.{slice_get_read}
use Rattle.values.specs.Datum.{datum_of}
use Rattle.values.specs.Row.{rows_data}
use Rattle.operators_scan.proofs.lemmas.scan.CellLemmas.{take_datums}
use Rattle.operators_scan.proofs.KeptLemmas.{row_at}
use Rattle.operators_scan.proofs.kept.take_kept.Goals as goal

pub returns-clause-rows : goal.returns-clause-rows
returns-clause-rows c = (
  map datum_of c.in-Some.values.now.items,
  drop (c.args.next.now + 1) (rows_data c.args.rows.now),
  row_at c.args.rows.now c.args.next.now c.in-Some.values.now
      (slice_get_read c.args.rows.now (length c.args.rows.now) c.args.next.now c.in-Some.values.now refl c.in-Some.ensures.lookup.3.0 c.in-Some.ensures.lookup.1),
  (rw c.as_slice.ensures.value at c.in_ok-put_columns.ensures),
  refl,
)

pub returns-in_default-clause-rows : goal.returns-in_default-clause-rows
returns-in_default-clause-rows c =
    let past : length c.args.rows.now ≤ c.args.next.now = search rules in
    let long = length-map c.args.rows.now (λ (row : Vec Value Global). map datum_of row.items) in
    let none : drop c.args.next.now (rows_data c.args.rows.now) ≡ [] = drop_all c.args.next.now (rows_data c.args.rows.now) (omega (arith, past, long)) in
    (none, ap (map datum_of) c.truncate.ensures.items ∙ take_datums c.args.before c.args.row.now.items, sym none)

pub returns-in_default-clause-front : goal.returns-in_default-clause-front
returns-in_default-clause-front c = (
  [],
  ap (map datum_of) c.truncate.ensures.items ∙ take_datums c.args.before c.args.row.now.items ∙ sym (append-nil _),
)
