use Rattle.std.proofs.Common.{rules, string_bytes}
use Rattle.sql_reader_grammar.proofs.lemmas.same_queries.ListLemmas.{list_step}
use Rattle.sql_reader_grammar.proofs.same_queries.names.same_names.Goals as goal

pub loop-x-preserved : goal.loop-x-preserved
loop-x-preserved c =
    list_step (λ name. string_bytes name) c.args.a.now c.args.b.now c.loop-x.rest.now c.in-Some.later.now c.loop-x.x-index c.x-item.result c.in-Some.y.now
    c.loop-x-test.true c.x-item.is (search rules) (search rules) c.loop-x.invariant
