use Rattle.std.proofs.Common.{Ok, map}
use Rattle.std.proofs.lemmas.Result.{err_from_is_err_and}
use Rattle.resolver_sources.proofs.lemmas.from_names.StepLemmas.{goes_on, is_refused}
use Rattle.resolver_sources.specs.from_names.Steps.{stepped}
use Rattle.resolver.specs.query_names.Compounds.{joined_to}
use Rattle.resolver_sources.specs.source_names.GivenView.{known_of, queried_of}
use Rattle.sql_reader_grammar.specs.statement_trees.TreeView.{arranged_of}
use Rattle.resolver.proofs.query_names.compounds.all_joined.Goals as goal

pub returns-in_err-all : goal.returns-in_err-all
returns-in_err-all g c =
    let step = joined_to (map known_of c.args.known.now) (g.Q.Queries.meaning c.args.queries.now) in
    let p = err_from_is_err_and c.from_residual.result c.from_residual.ensures.1 in
    rw (p.1, p.2) (is_refused step arranged_of c.args.others.now c.loop-next.next-index c.next-item.result (queried_of c.loop-next.all)
    (stepped step (Ok (queried_of c.args.left)) (map arranged_of c.args.others.now)) c.loop-next-test.true c.next-item.is c.loop-next.invariant
    c.in_err-all.field-0.0 c.in_err-all.ensures)

pub loop-next-preserved : goal.loop-next-preserved
loop-next-preserved g c =
    let step = joined_to (map known_of c.args.known.now) (g.Q.Queries.meaning c.args.queries.now) in
    goes_on step arranged_of c.args.others.now c.loop-next.next-index c.next-item.result (queried_of c.loop-next.all)
    (stepped step (Ok (queried_of c.args.left)) (map arranged_of c.args.others.now)) c.loop-next-test.true c.next-item.is c.loop-next.invariant
    (queried_of c.in_ok-all.all) c.in_ok-all.ensures
