use Rattle.std.proofs.Common.{◌≡◌, ℤ, rules, w64, SFits, below_more}
use Rattle.std.proofs.lemmas.Int.{to_z-of_z}
use Rattle.btree.specs.declared.image.kind.Level.TheVariants.{Leaf}
use Rattle.btree.specs.image.Layout.{cell_count}
use Rattle.btree.specs.Views.{cell_data}
use Rattle.records_tables.specs.stored_rows.Keys.{HasKeyAt}
use Rattle.records_tables.specs.stored_rows.RowFaults.{IsRowIn}
use Rattle.records_tables.proofs.lemmas.stored_rows.KeyLemmas.{one_key, fit_more, fit_all}
use Rattle.records_tables.proofs.stored_rows.leaf.are_rows.Goals as goal

pub loop-i-preserved : goal.loop-i-preserved
loop-i-preserved c =
    let inv = c.loop-i.invariant in
    let fits : SFits w64 c.in-Some-row_key.key = search rules in
    let keeps = rw (to_z-of_z w64 c.in-Some-row_key.key fits) at c.is_within.ensures.0 (search rules) in
    let here = c.in-Some.ensures.found in
    let has : HasKeyAt c.args.view.now.at c.args.most c.args.view.now.page Leaf c.loop-i.i c.in-Some-row_key.key =
    (cell_data c.in-Some.cell, here, c.in-Some-row_key.ensures.key) in
    record {
      cells = below_more (λ j. (key : ℤ) × HasKeyAt c.args.view.now.at c.args.most c.args.view.now.page Leaf j key) c.loop-i.i
          inv.cells (c.in-Some-row_key.key, has);
      fit = rw (to_z-of_z w64 c.in-Some-row_key.key fits) (fit_more _ (one_key c.args.view.now.at c.args.most c.args.view.now.page Leaf)
          c.args.low c.args.high c.loop-i.last c.loop-i.i c.in-Some-row_key.key inv.fit keeps.0 keeps.1 has);
      rows = λ pages.
          let row = c.in-Some-row_key.ensures.row pages in
          below_more (λ j. IsRowIn pages c.args.table.now c.args.view.now.at c.args.most c.args.view.now.page j) c.loop-i.i (inv.rows pages)
          (record { cell = _; row = row.0; here = here; is = row.1; fits = row.2 });
    }

pub returns-clause-fit : goal.returns-clause-fit
returns-clause-fit c =
    let end : c.loop-i.i ≡ cell_count c.args.view.now.at c.args.view.now.page = search rules in
    λ done. fit_all _ (one_key c.args.view.now.at c.args.most c.args.view.now.page Leaf) c.args.low c.args.high c.loop-i.last c.loop-i.i _ end c.loop-i.invariant.fit
