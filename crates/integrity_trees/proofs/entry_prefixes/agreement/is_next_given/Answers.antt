use Rattle.std.proofs.Common.{◌∙◌, sym}
use Rattle.integrity_trees.proofs.entry_prefixes.agreement.is_next_given.Goals as goal

pub returns-in_default-clause-not : goal.returns-in_default-clause-not
returns-in_default-clause-not c = λ no x xs is. absurd (c.in_default.ensures.none x xs is)

pub returns-clause-given : goal.returns-clause-given
returns-clause-given c = λ yes x xs is.
    let first = (c.in-Some.ensures.found x xs).0 is in
    (λ e. c.is_given.ensures.given yes (sym first.0 ∙ e), first.1)

pub returns-clause-not : goal.returns-clause-not
returns-clause-not c = λ no x xs is.
    let first = (c.in-Some.ensures.found x xs).0 is in
    first.0 ∙ c.is_given.ensures.not no
