use Rattle.std.proofs.Common.{◌∙◌, ◌<◌, map, sym, arith}
use Rattle.std.proofs.lemmas.Result.{IfOk-weaker}
use Rattle.values.specs.Datum.{datum_of}
use Rattle.windows.proofs.lemmas.window_values.LookupLemmas.{length-data, the_last}
use Rattle.windows.proofs.window_values.lookups.last_value.Goals as goal

pub returns : goal.returns
returns c =
    let values = c.args.values.now in
    let some : 0 < c.rows_in-count.result = omega arith in
    let last = the_last (map datum_of values) c.args.ranges.now _ (length-data values) c.requires c.rows_in-count.result c.rows_in-count.ensures some in
    IfOk-weaker c.nth_value.result _ _ (λ v e. e ∙ sym last) c.nth_value.ensures
