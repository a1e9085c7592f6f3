use Rattle.std.proofs.Common.{map}
use Rattle.expr.specs.View.{term}
use Rattle.resolver_terms.specs.SelectView.{frame_of}
use Rattle.logical_plan_terms.proofs.lemmas.window_plans.ItselfLemmas.{zip_itself}
use Rattle.logical_plan_terms.proofs.window_plans.calls.window_over.Goals as goal

pub returns-in-None-clause-over : goal.returns-in-None-clause-over
returns-in-None-clause-over c = λ over. (rw (c.in-None.is, c.as_slice.ensures.value) at c.in_ok-partition_over.ensures.over) over.partition

pub returns-in-None-terms_over-clause-over : goal.returns-in-None-terms_over-clause-over
returns-in-None-terms_over-clause-over c = λ over.
    (rw (c.in-None-terms_over.is, c.as_slice-2.ensures.value) at c.in_ok-terms_over.ensures.over) over.order

pub returns-clause-itself : goal.returns-clause-itself
returns-clause-itself c = λ answers few.
    let partition = zip_itself c.args.inner answers few (map term c.in-Some.partition.items) (map term c.args.window.now.partition.items)
    ((rw (c.in-Some.is, c.as_slice.ensures.value) at c.in_ok-partition_over.ensures.itself) c.requires) in
    let order = (rw (c.in-Some-terms_over.is, c.as_slice-2.ensures.value) at c.in_ok-terms_over.ensures.themselves) answers few in
    (λ j. record { partition = partition j; order = order j; frame = frame_of c.args.window.now.frame })
