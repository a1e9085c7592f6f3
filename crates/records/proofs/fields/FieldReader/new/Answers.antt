use Rattle.records.proofs.UnreadLemmas.{unread_record}
use Rattle.records.proofs.fields.FieldReader.new.Goals as goal

pub returns-in_err-spelt-clause-none : goal.returns-in_err-spelt-clause-none
returns-in_err-spelt-clause-none c =
    rw c.from_residual.ensures (λ values is. c.in_err-spelt.ensures.none is.header.spelt is.bodies is.header.split)

pub returns-clause-found : goal.returns-clause-found
returns-clause-found c = unread_record c.args.bytes.now c.in_ok-spelt.spelt.now c.in_ok-spelt.bodies.now c.in_ok-spelt.ensures.found
