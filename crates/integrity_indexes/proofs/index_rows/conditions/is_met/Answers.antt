use Rattle.std.proofs.Common.{rules, map}
use Rattle.values.specs.Datum.{datum_of}
use Rattle.expr.specs.View.{term}
use Rattle.integrity_indexes.proofs.lemmas.index_rows.ConditionLemmas.{none_is, truth_is}
use Rattle.integrity_indexes.proofs.index_rows.conditions.is_met.Goals as goal

pub returns-in-Ok : goal.returns-in-Ok
returns-in-Ok c = truth_is (term c.args.condition.now) (map datum_of c.args.row.now) c.in-Ok.met c.in-Ok.ensures.value c.in-Ok.ensures.whole

pub returns-in-Err-Overflow : goal.returns-in-Err-Overflow
returns-in-Err-Overflow c = none_is (term c.args.condition.now) (map datum_of c.args.row.now) (c.is_true.ensures.overflow (search rules))
