use Rattle.std.proofs.Common.{◌≡◌, ◌∙◌, Option, None, Some, ap, option_map, subst, sym}
use Rattle.btree.specs.image.Pages.{pages_seen}
use Rattle.logical_plan_queries.specs.Answers.{PlannedData, planned_data}
use Rattle.operators_runs.proofs.lemmas.nested_runs.PlannedLemmas.{planned_once, planned_wrote, same_plan}
use Rattle.operators_runs.specs.nested_runs.Writes.{HasPlanOver}
use Rattle.resolver_bodies.specs.NamedView.{query_data}
use Rattle.operators_runs.proofs.nested_runs.written.write_query.Goals as goal

pub write_answer-requires-clause-roots : goal.write_answer-requires-clause-roots
write_answer-requires-clause-roots g c = rw c.new-sources.ensures c.requires.roots

pub write_answer-requires-clause-planned : goal.write_answer-requires-clause-planned
write_answer-requires-clause-planned g c =
    let is : option_map planned_data c.args.planned.now ≡ Some (planned_data c.in-Some.planned) = ap (option_map planned_data) c.in-Some.is in
    rw c.new-sources.ensures
    (subst (λ (p : Option PlannedData). HasPlanOver c.args.tables.now (query_data c.args.query.now) p) is c.requires.plan).1

pub returns-in-Some-clause-rows : goal.returns-in-Some-clause-rows
returns-in-Some-clause-rows g c = λ steady typed runs stored.
    let is : option_map planned_data c.args.planned.now ≡ Some (planned_data c.in-Some.planned) = ap (option_map planned_data) c.in-Some.is in
    let plan = subst (λ (p : Option PlannedData). HasPlanOver c.args.tables.now (query_data c.args.query.now) p) is c.requires.plan in
    planned_wrote (pages_seen c.args.pager.now.state) c.args.tables.now (query_data c.args.query.now) typed (planned_data c.in-Some.planned) plan.0
    (g.W.Sink.facts c.args.out.now) (g.W.Sink.facts c.write_answer.new.out) c.write_answer.result
    ((rw c.new-sources.ensures at c.write_answer.ensures.rows) steady stored)

pub returns-in-Some-clause-few : goal.returns-in-Some-clause-few
returns-in-Some-clause-few g c = λ planned found.
    let is : option_map planned_data c.args.planned.now ≡ Some (planned_data c.in-Some.planned) = ap (option_map planned_data) c.in-Some.is in
    rw (same_plan (option_map planned_data c.args.planned.now) planned (planned_data c.in-Some.planned) found is)
    (rw c.new-sources.ensures at c.write_answer.ensures.pages)

pub returns-in-Some-clause-each_once : goal.returns-in-Some-clause-each_once
returns-in-Some-clause-each_once g c = λ steady on said typed runs.
    let is : option_map planned_data c.args.planned.now ≡ Some (planned_data c.in-Some.planned) = ap (option_map planned_data) c.in-Some.is in
    let plan = subst (λ (p : Option PlannedData). HasPlanOver c.args.tables.now (query_data c.args.query.now) p) is c.requires.plan in
    planned_once (pages_seen c.args.pager.now.state) c.args.tables.now (query_data c.args.query.now) typed (planned_data c.in-Some.planned) plan.0
    on said c.args.pager.now.state c.write_answer.new.pager.state c.write_answer.result
    ((rw c.new-sources.ensures at c.write_answer.ensures.pages) steady on said.stored)

pub returns-in-None-clause-few : goal.returns-in-None-clause-few
returns-in-None-clause-few g c = λ planned found.
    let is : option_map planned_data c.args.planned.now ≡ None = ap (option_map planned_data) c.in-None.is in
    absurd (let same = sym is ∙ found in cc)
