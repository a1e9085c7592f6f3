use Rattle.std.proofs.Common.{◌<◌, ℤ, rules, w64, SFits, below_more}
use Rattle.std.proofs.lemmas.Int.{to_z-of_z}
use Rattle.btree.specs.image.Layout.{cell_count}
use Rattle.btree.proofs.CellLemmas.{IfNone-always}
use Rattle.records_tables.specs.stored_rows.Keys.{HasKeyAt, HasCells}
use Rattle.records_tables.proofs.lemmas.stored_rows.KeyLemmas.{one_key, step_fits, step_unfit}
use Rattle.records_tables.proofs.stored_rows.keys.keys_fit.Goals as goal

pub returns-in_err-key-clause-none : goal.returns-in_err-key-clause-none
returns-in_err-key-clause-none c =
    let within : c.loop-i.i < cell_count c.args.view.now.at c.args.view.now.page = search rules in
    IfNone-always c.from_residual.result (λ (cells : HasCells c.args.view.now.at c.args.most c.args.view.now.page c.args.view.now.level).
    let here = cells c.loop-i.i within in c.in_err-key.ensures.none here.0 here.1)

pub loop-i-preserved : goal.loop-i-preserved
loop-i-preserved c =
    let within : c.loop-i.i < cell_count c.args.view.now.at c.args.view.now.page = search rules in
    let fits : SFits w64 c.in_ok-key.key = search rules in
    let has = c.in_ok-key.ensures.found in
    let keeps = rw (to_z-of_z w64 c.in_ok-key.key fits) at c.is_within-within.ensures in
    let one = one_key c.args.view.now.at c.args.most c.args.view.now.page c.args.view.now.level in
    record {
      cells = below_more (λ j. (key : ℤ) × HasKeyAt c.args.view.now.at c.args.most c.args.view.now.page c.args.view.now.level j key) c.loop-i.i
          c.loop-i.invariant.cells (c.in_ok-key.key, has);
      fits = rw (to_z-of_z w64 c.in_ok-key.key fits) (step_fits _ one c.args.low c.args.high c.loop-i.last c.loop-i.i c.in_ok-key.key has c.loop-i.fit c.is_within-within.result c.loop-i.invariant.fits keeps);
      unfit = step_unfit _ one c.args.low c.args.high c.loop-i.last c.loop-i.i c.in_ok-key.key has _ c.loop-i.fit c.is_within-within.result within c.loop-i.invariant.fits c.loop-i.invariant.unfit keeps;
    }
