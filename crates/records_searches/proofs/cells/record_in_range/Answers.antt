use Rattle.std.proofs.Common.{◌∙◌}
use Rattle.std.proofs.lemmas.Result.{err_from_is_err_and}
use Rattle.btree_cursor.specs.key_ranges.View.{range}
use Rattle.records_searches.proofs.ComingLemmas.{met_if}
use Rattle.records_searches.proofs.cells.record_in_range.Goals as goal

pub returns-in_err-found-clause-met : goal.returns-in_err-found-clause-met
returns-in_err-found-clause-met g c = λ steady values has.
    let p = err_from_is_err_and c.from_residual.result c.from_residual.ensures.1 in
    rw (p.1, p.2) (c.in_err-found.ensures.bytes steady values has)

pub returns-clause-met : goal.returns-clause-met
returns-clause-met g c = λ steady values has.
    c.is_some.ensures ∙ met_if (range c.args.bounds.now) values c.in_ok-found.found (c.in_ok-found.ensures.bytes steady values has)
