use Rattle.std.proofs.Common.{Ok, map}
use Rattle.std.proofs.lemmas.Result.{err_from_is_err_and}
use Rattle.resolver_sources.proofs.lemmas.from_names.StepLemmas.{goes_on, is_refused}
use Rattle.resolver_sources.specs.from_names.Resolved.{joined_to}
use Rattle.resolver_sources.specs.from_names.Steps.{stepped}
use Rattle.resolver_sources.specs.source_names.GivenView.{known_of, sources_of}
use Rattle.sql_reader_grammar.specs.statement_trees.TreeView.{joined_of}
use Rattle.resolver_sources.proofs.from_names.froms.all_joined.Goals as goal

pub returns-in_err-all : goal.returns-in_err-all
returns-in_err-all g c =
    let step = joined_to (g.I.InnerQueries.answers c.args.inner.now) (map known_of c.args.known.now) (g.Q.Queries.meaning c.args.queries.now) in
    let p = err_from_is_err_and c.from_residual.result c.from_residual.ensures.1 in
    rw (p.1, p.2) (is_refused step joined_of c.args.others.now c.loop-next.next-index c.next-item.result (sources_of c.loop-next.all)
    (stepped step (Ok (sources_of c.args.left)) (map joined_of c.args.others.now)) c.loop-next-test.true c.next-item.is c.loop-next.invariant
    c.in_err-all.field-0.0 c.in_err-all.ensures)

pub loop-next-preserved : goal.loop-next-preserved
loop-next-preserved g c =
    let step = joined_to (g.I.InnerQueries.answers c.args.inner.now) (map known_of c.args.known.now) (g.Q.Queries.meaning c.args.queries.now) in
    goes_on step joined_of c.args.others.now c.loop-next.next-index c.next-item.result (sources_of c.loop-next.all)
    (stepped step (Ok (sources_of c.args.left)) (map joined_of c.args.others.now)) c.loop-next-test.true c.next-item.is c.loop-next.invariant
    (sources_of c.in_ok-all.all) c.in_ok-all.ensures
