use Rattle.std.proofs.Common.{inr, subst, sym}
use Rattle.resolver_bodies.specs.BodyView.{body_of}
use Rattle.resolver_terms.specs.Outcome.{Gives}
use Rattle.resolver.proofs.lemmas.statement_names.StatementLemmas.{slice_none, slice_some}
use Rattle.sql_reader_grammar.specs.statement_trees.StatementView.{statement_of}
use Rattle.resolver.proofs.statement_names.statements.slice.Goals as goal

pub returns-then-not-is_within : goal.returns-then-not-is_within
returns-then-not-is_within c =
    inr (slice_none (statement_of c.args.statement.now) (body_of c.args.body.now) c.is_within.result c.is_within.ensures c.if-not-is_within.true)

pub returns : goal.returns
returns c =
    subst (Gives (λ n. n) c.limits.result)
    (sym (slice_some (statement_of c.args.statement.now) (body_of c.args.body.now) c.is_within.result c.is_within.ensures c.if-not-is_within.false))
    c.limits.ensures
