use Rattle.std.proofs.Common.{Option, None, Some, rules}
use Rattle.std.specs.Prelude.{IfNone}
use Rattle.integrity_trees.proofs.index_walk.last.column_order.Goals as goal

IfNone-always : {T : Type 0} {P : Type 0} (r : Option T) → P → IfNone r P
IfNone-always None p = p
IfNone-always (Some v) p = tt

pub returns-in_err-first-clause-none : goal.returns-in_err-first-clause-none
returns-in_err-first-clause-none c = IfNone-always c.from_residual.result (λ x y xs ys one other. c.in_err-first.ensures.none x xs one)

pub returns-in_err-second-clause-none : goal.returns-in_err-second-clause-none
returns-in_err-second-clause-none c = IfNone-always c.from_residual-in_err-second.result (λ x y xs ys one other. c.in_err-second.ensures.none y ys other)

pub returns-then-descends-clause-found : goal.returns-then-descends-clause-found
returns-then-descends-clause-found c = λ x y xs ys one other.
    let first = (c.in_ok-first.ensures.found x xs).0 one in
    let second = (c.in_ok-second.ensures.found y ys).0 other in
    (rw (first.0, second.0) (search rules), first.1, second.1)

pub returns-clause-found : goal.returns-clause-found
returns-clause-found c = λ x y xs ys one other.
    let first = (c.in_ok-first.ensures.found x xs).0 one in
    let second = (c.in_ok-second.ensures.found y ys).0 other in
    (rw (first.0, second.0) (search rules), first.1, second.1)
