use Rattle.std.proofs.Common.{map, ap, subst, ◌∙◌}
use Rattle.resolver_terms.specs.Outcome.{Gives}
use Rattle.resolver_sources.specs.source_names.GivenView.{known_of}
use Rattle.resolver_bodies.specs.NamedView.{named_data}
use Rattle.sql_reader_grammar.specs.statement_trees.StatementView.{statement_of}
use Rattle.resolver.proofs.ResolvedLemmas.{named_so}
use Rattle.resolver.proofs.resolved.typed_statement.Goals as goal

pub returns : goal.returns
returns c =
    subst (Gives named_data c.typed.result)
    (named_so c.args.tables.now (statement_of c.args.statement.now) (map known_of c.in_ok-known.known.items) (named_data c.in_ok-named.named)
    (map (λ types. types.items) c.as_slice.result.now) c.in_ok-known.ensures c.in_ok-named.ensures
    (ap (map (λ types. types.items)) c.as_slice.ensures.value ∙ c.in_ok-types.ensures))
    c.typed.ensures
