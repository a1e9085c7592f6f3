use Rattle.std.proofs.Common.{SFits, map, rules, w64}
use Rattle.std.proofs.lemmas.Int.{to_z-of_z}
use Rattle.values.specs.Datum.{datum_of, int}
use Rattle.expr.specs.View.{term}
use Rattle.expr.proofs.AnswerLemmas.{for_every}
use Rattle.expr.proofs.evaluation.eval.Goals as goal

pub returns-in-Ok-clause-value : goal.returns-in-Ok-clause-value
returns-in-Ok-clause-value c = for_every (term c.args.expr.now) (map datum_of c.args.row.now) (datum_of c.in-Ok.value) c.in-Ok.ensures

pub returns-in-Some-clause-value : goal.returns-in-Some-clause-value
returns-in-Some-clause-value c =
    let fits : SFits w64 c.in-Some.n = search rules in
    rw (to_z-of_z w64 c.in-Some.n fits) (for_every (term c.args.expr.now) (map datum_of c.args.row.now) (int c.in-Some.n) c.in-Some.ensures)
