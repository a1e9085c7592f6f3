use Rattle.std.proofs.Common.{[], map}
use Rattle.std.proofs.lemmas.Result.{err_from_is_err_and}
use Rattle.std.specs.List.{filter_map}
use Rattle.semantics_names.specs.Places as spec
use Rattle.semantics_names.specs.Same.{is_same_aggregate}
use Rattle.semantics_names.specs.Statement.{firsts}
use Rattle.resolver_exprs.proofs.lemmas.places.FirstLemmas.{is_refused}
use Rattle.resolver_terms.specs.SelectView.{aggregate_of}
use Rattle.sql_reader_grammar.specs.statement_trees.TreeView.{expr_of}
use Rattle.resolver_exprs.proofs.places.mentions.first_aggregates.Goals as goal

pub returns-in_err-found : goal.returns-in_err-found
returns-in_err-found g c =
    let said = spec.aggregate_of (g.I.InnerQueries.answers c.args.inner.now) (g.P.Place.meaning c.args.place.now) in
    let p = err_from_is_err_and c.from_residual.result c.from_residual.ensures.1 in
    rw (p.1, p.2) (is_refused is_same_aggregate (λ e. expr_of e.now) said c.args.parts.now c.loop-part.part-index c.part-item.result
    (map aggregate_of c.loop-part.aggregates.items) c.in_err-found.field-0.0
    (firsts is_same_aggregate [] (filter_map said (map (λ e. expr_of e.now) c.args.parts.now)))
    c.loop-part-test.true c.part-item.is c.in_err-found.ensures c.loop-part.invariant)
