-- What is left behind a statement decides.
use Rattle.std.proofs.Common.{sym, ◌∙◌, rules}
use Rattle.sql_reader.proofs.lemmas.statement_limits.LimitLemmas.{none_beyond, not_both, some_within}
use Rattle.sql_reader.proofs.statement_limits.limits.check_limits.Goals as goal
use Rattle.sql_reader_grammar.specs.statement_trees.StatementView.{statement_of}

pub returns-in-Some-clause-within : goal.returns-in-Some-clause-within
returns-in-Some-clause-within c =
    let w = some_within (statement_of c.args.statement.now) _ (sym c.behind_statement.ensures ∙ c.in-Some.is) in
    (λ x. w, λ x. search rules)

pub returns-in-Some-clause-beyond : goal.returns-in-Some-clause-beyond
returns-in-Some-clause-beyond c =
    let w = some_within (statement_of c.args.statement.now) _ (sym c.behind_statement.ensures ∙ c.in-Some.is) in
    (λ x. absurd (cc), λ x. absurd (not_both (statement_of c.args.statement.now) w x))

pub returns-in-None-clause-within : goal.returns-in-None-clause-within
returns-in-None-clause-within c =
    let b = none_beyond (statement_of c.args.statement.now) (sym c.behind_statement.ensures ∙ c.in-None.is) in
    (λ x. absurd (search rules), λ x. absurd (not_both (statement_of c.args.statement.now) x b))

pub returns-in-None-clause-beyond : goal.returns-in-None-clause-beyond
returns-in-None-clause-beyond c =
    let b = none_beyond (statement_of c.args.statement.now) (sym c.behind_statement.ensures ∙ c.in-None.is) in
    (λ x. b, λ x. search rules)
