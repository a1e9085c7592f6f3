use Rattle.btree_cursor.proofs.index_entries.entries.record_comes_before.Goals as goal

pub returns-in_default-clause-found : goal.returns-in_default-clause-found
returns-in_default-clause-found c = λ values is. absurd (c.in_default.ensures.none values is)

pub returns-in-None-clause-found : goal.returns-in-None-clause-found
returns-in-None-clause-found c = λ values is. absurd (c.in-None.ensures.none values ((c.in-Some.ensures.found values).1 is))

pub returns-in-None-clause-broken : goal.returns-in-None-clause-broken
returns-in-None-clause-broken c =
    c.why_unread-in-None.ensures.broken (λ values is. c.in-None.ensures.none values ((c.in-Some.ensures.found values).1 is))
