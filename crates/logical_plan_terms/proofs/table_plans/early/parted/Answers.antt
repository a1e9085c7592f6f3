use Rattle.std.proofs.Common.{◌∙◌, List, map, subst, sym}
use Rattle.std.proofs.lemmas.Iterator.Adapters.{YieldsList-from_vec}
use Rattle.std.proofs.lemmas.Iterator.Consumers.{YieldsList-end}
use Rattle.expr.specs.View.{term}
use Rattle.expr.specs.declared.tree.Expr.{Expr}
use Rattle.semantics.proofs.ScanLemmas.{map-identity}
use Rattle.logical_plan_terms.specs.table_plans.Parted.{IsParted}
use Rattle.logical_plan_terms.proofs.table_plans.early.parted.Goals as goal

pub returns : goal.returns
returns c =
    let given = c.into_iter-e-iterator.ensures.into_iter_gives in
    let end = YieldsList-end (YieldsList-from_vec c.args.tests.items given.0 (given.1 ∙ c.args.tests.ok.0))
    c.loop-e.yielded _ c.loop-e.yielded_by _ c.next.new.self c.in-None.is c.next.ensures.steps in
    subst (λ (es : List Expr). IsParted c.args.count (map term es) (map term c.loop-e.early.items) (map term c.loop-e.late.items))
    (sym (map-identity c.loop-e.yielded) ∙ end.0) c.loop-e.invariant
