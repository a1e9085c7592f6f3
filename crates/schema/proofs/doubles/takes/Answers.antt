use Rattle.schema.proofs.DoubleLemmas.{takes_none, takes_tested}
use Rattle.schema.proofs.doubles.takes.Goals as goal

pub returns-in-Some : goal.returns-in-Some
returns-in-Some c =
    takes_tested c.args.row.now c.in-Some.other.now c.in-Some.ensures.found c.args.name.now c.is_same_name.result
    c.is_same_name.ensures

pub returns-in-None : goal.returns-in-None
returns-in-None c =
    ((λ e. absurd cc), (λ t. absurd (takes_none c.args.row.now c.in-None.ensures.none c.args.name.now t)))
