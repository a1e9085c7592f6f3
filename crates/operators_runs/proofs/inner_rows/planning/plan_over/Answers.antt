use Rattle.logical_plan_queries.proofs.TypedLemmas.{typed_is_served}
use Rattle.operators_runs.proofs.inner_rows.planning.plan_over.Goals as goal

pub returns-in-None-clause-typed : goal.returns-in-None-clause-typed
returns-in-None-clause-typed c = λ catalog have typed form.
    absurd ((rw c.in-None.is at c.in_ok-plan.ensures.plan) (typed_is_served catalog _ typed form))
