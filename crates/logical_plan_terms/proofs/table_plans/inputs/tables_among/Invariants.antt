use Rattle.std.proofs.Common.{◌≡◌, map, take}
use Rattle.resolver_bodies.specs.BodyView.{joined_all, joined_of}
use Rattle.semantics.specs.Query.{nothing}
use Rattle.logical_plan_terms.specs.table_plans.Input.{from_of}
use Rattle.logical_plan_terms.specs.table_plans.TableJoins.{AreTableJoins}
use Rattle.logical_plan_terms.proofs.table_plans.inputs.tables_among.Given as goal

abbrev pub invariant-loop-joined : goal.invariant-loop-joined
invariant-loop-joined l =
    (joined_all nothing (map joined_of (take l.joined-index l.sources)) ≡ from_of l.tables.items) × AreTableJoins (from_of l.tables.items)
