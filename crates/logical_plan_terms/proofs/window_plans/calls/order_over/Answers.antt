use Rattle.std.proofs.Common.{◌∙◌, ◌++◌, ◌∷◌, [], map, sym, ap}
use Rattle.std.proofs.lemmas.List.{map-append}
use Rattle.expr.specs.Filled.{filled}
use Rattle.semantics.specs.Mapped.{mapped_sort}
use Rattle.semantics.specs.Query as query
use Rattle.resolver_terms.specs.SelectView.{direction_of, sort_of}
use Rattle.logical_plan_terms.specs.Over.{IsOver}
use Rattle.logical_plan_terms.proofs.lemmas.window_plans.ItselfLemmas.{mapped_more, not_all}
use Rattle.logical_plan_terms.proofs.window_plans.calls.order_over.Goals as goal

pub returns-in-None-clause-over : goal.returns-in-None-clause-over
returns-in-None-clause-over c =
    not_all (λ (s : query.SortTerm). IsOver c.args.columns.now c.args.inner s.term) sort_of c.args.order.now c.loop-sort.sort-index c.sort-item.result
    c.loop-sort-test.true c.sort-item.is (rw c.in-None.is at c.in_ok-term.ensures.over)

pub loop-sort-preserved : goal.loop-sort-preserved
loop-sort-preserved c = λ answers few.
    let one = (rw c.in-Some.is at c.in_ok-term.ensures.itself) c.requires answers few in
    ap (map sort_of) c.in_ok-push-in-Some.ensures.items
    ∙ map-append sort_of c.loop-sort.over.items (record { term = c.in-Some.term; direction = c.sort-item.result.direction } ∷ [])
    ∙ (λ j. c.loop-sort.invariant answers few j ++ record { term = one j; direction = direction_of c.sort-item.result.direction } ∷ [])
    ∙ sym (mapped_more sort_of (mapped_sort (filled answers)) c.args.order.now c.loop-sort.sort-index c.sort-item.result c.loop-sort-test.true c.sort-item.is)
