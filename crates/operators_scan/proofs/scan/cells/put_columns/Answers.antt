use Rattle.std.proofs.Common.{rules, ◌≡◌, ◌∙◌, ◌+◌, ◌++◌, arith, length, map, take, ap}
use Rattle.std.proofs.lemmas.List.{take_all}
use Rattle.values.specs.Datum.{datum_of, datum_of_ref}
use Rattle.semantics.specs.OneTable.{shown}
use Rattle.operators_scan.proofs.lemmas.scan.CellLemmas.{Grows-more, shown_more}
use Rattle.operators_scan.proofs.scan.cells.put_columns.Goals as goal

pub returns-in_default-clause-shown : goal.returns-in_default-clause-shown
returns-in_default-clause-shown c = λ whole is. absurd (c.in_default.ensures.none whole (c.loop-column.invariant.reads whole is))

pub loop-column-preserved : goal.loop-column-preserved
loop-column-preserved c =
    let front = take c.args.at (map datum_of c.args.row.now.items) in
    let here = take c.loop-column.next (map datum_of c.loop-column.row.items) in
    let there = take (c.loop-column.next + 1) (map datum_of c.put_value.new.row.items) in
    record {
      table_is = c.value.ensures.table ∙ c.loop-column.invariant.table_is;
      reads = λ whole is. (c.in-Some.ensures.found whole (c.loop-column.invariant.reads whole is)).1;
      at = let at = c.loop-column.invariant.at in omega (arith, at);
      shows = λ whole is.
          shown_more whole c.args.columns.now c.loop-column.column-index front here there (datum_of_ref c.in-Some.value) c.loop-column-test.true
          (c.in-Some.ensures.found whole (c.loop-column.invariant.reads whole is)).0
          (c.loop-column.invariant.shows whole is) c.in_ok-put_value.ensures.value;
      front = Grows-more front here there (datum_of_ref c.in-Some.value) c.loop-column.invariant.front c.in_ok-put_value.ensures.value;
      long = c.in_ok-put_value.ensures.long;
    }

pub returns-clause-shown : goal.returns-clause-shown
returns-clause-shown c = λ whole is.
    let end : c.args.at + length c.args.columns.now ≡ c.loop-column.next = search rules in (
      ap (λ n. take n (map datum_of c.loop-column.row.items)) end ∙ c.loop-column.invariant.shows whole is
          ∙ ap (λ columns. take c.args.at (map datum_of c.args.row.now.items) ++ shown columns whole) (take_all c.loop-column.column-index c.args.columns.now c.loop-column-test.false),
      c.loop-column.invariant.reads whole is,
    )

pub returns-clause-front : goal.returns-clause-front
returns-clause-front c =
    let end : c.args.at + length c.args.columns.now ≡ c.loop-column.next = search rules in (
      c.loop-column.invariant.front.0,
      ap (λ n. take n (map datum_of c.loop-column.row.items)) end ∙ c.loop-column.invariant.front.1,
    )
