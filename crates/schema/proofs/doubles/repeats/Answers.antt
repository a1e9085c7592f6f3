use Rattle.schema.proofs.DoubleLemmas.{repeats_none, repeats_tested}
use Rattle.schema.proofs.doubles.repeats.Goals as goal

pub returns-in-Some : goal.returns-in-Some
returns-in-Some c =
    repeats_tested c.args.row.now c.in-Some.name.now c.in-Some.ensures.found c.args.before.now c.is_taken.result c.is_taken.ensures

pub returns-in-None : goal.returns-in-None
returns-in-None c =
    ((λ e. absurd cc), (λ r. absurd (repeats_none c.args.row.now c.in-None.ensures.none c.args.before.now r)))
