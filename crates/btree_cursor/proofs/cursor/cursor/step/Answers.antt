use Rattle.std.proofs.Common.{◌+◌, drop, IfSome, Option, subst, arith}
use Rattle.std.proofs.lemmas.Result.{err_from_is_err_and}
use Rattle.btree.specs.image.Pages.{pages_seen}
use Rattle.btree_cursor.specs.declared.cursor.cursor.Frame.{Frame}
use Rattle.btree_cursor.specs.cursor.Rest.{GoesOn}
use Rattle.btree_cursor.specs.cursor.Left.{IsLess}
use Rattle.btree_cursor.proofs.lemmas.cursor.FrameLemmas.{IfOk-weaker, IfOk-weaker_both}
use Rattle.btree_cursor.proofs.lemmas.cursor.LeftLemmas.{leaf_is_left, cell_is_left}
use Rattle.btree_cursor.proofs.lemmas.cursor.RestLemmas.{standing_stays, standing_step, standing_left, standing_behind, standing_end}
use Rattle.btree_cursor.specs.cursor.Way.{HasReached}
use Rattle.btree_cursor.proofs.lemmas.cursor.StandLemmas.{stands_at}
use Rattle.btree_cursor.proofs.lemmas.cursor.WayLemmas.{reached_leaf}
use Rattle.btree_cursor.proofs.cursor.cursor.step.Goals as goal

pub returns-then-here-clause-stands : goal.returns-then-here-clause-stands
returns-then-here-clause-stands g c = λ steady total places budget stands.
    standing_stays _ _ _ _ _ _ _ _ stands c.if-here.true

pub returns-in-Interior-clause-stands : goal.returns-in-Interior-clause-stands
returns-in-Interior-clause-stands g c = λ steady total places budget stands.
    c.next_child.ensures.stands steady total (drop 1 places) budget (standing_behind _ _ _ _ _ _ _ _ stands c.in-Interior.is c.if-here.false)

pub returns-in-Interior-clause-way : goal.returns-in-Interior-clause-way
returns-in-Interior-clause-way g c = λ steady reached. c.next_child.ensures.way steady reached.way (reached.met c.in-Interior.is)

pub returns-in-Interior-clause-left : goal.returns-in-Interior-clause-left
returns-in-Interior-clause-left g c =
    let here = cell_is_left c.args.here.level c.args.frames.now.items c.args.here c.in-Interior.is in
    IfOk-weaker_both c.next_child.result (λ next leaf less within.
    let next_is = leaf_is_left next.level c.next_child.new.frames.items next leaf in
    omega (arith, here, next_is, less)) c.next_child.ensures.leaf c.next_child.ensures.left

pub returns-in-Interior-clause-end : goal.returns-in-Interior-clause-end
returns-in-Interior-clause-end g c = IfOk-weaker c.next_child.result (λ next filled within end. let some = filled.1 in absurd (omega (arith, some, filled.0, end))) c.next_child.ensures.filled

pub returns-then-next-clause-stands : goal.returns-then-next-clause-stands
returns-then-next-clause-stands g c = λ steady total places budget stands.
    standing_step _ _ _ _ _ _ _ _ stands c.in-Leaf.is c.if-next.true

pub returns-then-next-clause-left : goal.returns-then-next-clause-left
returns-then-next-clause-left g c = λ within.
    let here = leaf_is_left c.args.here.level c.args.frames.now.items c.args.here c.in-Leaf.is in
    let next = leaf_is_left c.args.here.level c.args.frames.now.items (record c.args.here { at = c.args.here.at + 1 }) c.in-Leaf.is in
    omega (arith, here, next)

pub returns-in_err-found-in-Leaf-clause-stands : goal.returns-in_err-found-in-Leaf-clause-stands
returns-in_err-found-in-Leaf-clause-stands g c = λ steady total places budget stands.
    let p = err_from_is_err_and c.from_residual.result c.from_residual.ensures.1 in
    rw (p.1, p.2)
    (c.in_err-found-in-Leaf.ensures.goes steady total (drop 1 places) budget (standing_left _ _ _ _ _ _ _ _ stands c.in-Leaf.is c.if-here.false c.if-next.false))

pub returns-in-Some-clause-stands : goal.returns-in-Some-clause-stands
returns-in-Some-clause-stands g c = λ steady total places budget stands.
    let left = standing_left _ _ _ _ _ _ _ _ stands c.in-Leaf.is c.if-here.false c.if-next.false in
    let next = c.go_on.new in
    subst (λ (x : Option Frame). GoesOn (pages_seen c.args.pager.now.state) c.args.kind total next.frames.items (drop 1 places) next.pager.state.asked budget x) c.in-Some.is
    (c.in_ok-found-in-Leaf.ensures.goes steady total (drop 1 places) budget left)

pub returns-in-Some-clause-left : goal.returns-in-Some-clause-left
returns-in-Some-clause-left g c = λ within.
    let here = leaf_is_left c.args.here.level c.args.frames.now.items c.args.here c.in-Leaf.is in
    let less = subst (λ (x : Option Frame). IsLess c.args.frames.now.items c.go_on.new.frames.items x) c.in-Some.is c.in_ok-found-in-Leaf.ensures.left in
    omega (arith, here, less)

pub returns-in-None-clause-stands : goal.returns-in-None-clause-stands
returns-in-None-clause-stands g c = λ steady total places budget stands.
    let left = standing_left _ _ _ _ _ _ _ _ stands c.in-Leaf.is c.if-here.false c.if-next.false in
    let next = c.go_on.new in
    let end = subst (λ (x : Option Frame). GoesOn (pages_seen c.args.pager.now.state) c.args.kind total next.frames.items (drop 1 places) next.pager.state.asked budget x) c.in-None.is
    (c.in_ok-found-in-Leaf.ensures.goes steady total (drop 1 places) budget left) in
    standing_end _ _ _ _ _ _ _ _ end.0 end.1.0 end.1.1 c.if-next.false

pub returns-in-None-clause-left : goal.returns-in-None-clause-left
returns-in-None-clause-left g c = λ within.
    let here = leaf_is_left c.args.here.level c.args.frames.now.items c.args.here c.in-Leaf.is in
    let next = leaf_is_left c.args.here.level c.go_on.new.frames.items (record c.args.here { at = c.args.here.at + 1 }) c.in-Leaf.is in
    let less = subst (λ (x : Option Frame). IsLess c.args.frames.now.items c.go_on.new.frames.items x) c.in-None.is c.in_ok-found-in-Leaf.ensures.left in
    omega (arith, here, next, less)

pub returns-then-next-clause-way : goal.returns-then-next-clause-way
returns-then-next-clause-way g c = λ steady reached. reached_leaf _ _ _ _ _ c.in-Leaf.is reached.way (stands_at _ _ _ _ _ reached.stands)

pub returns-in_err-found-in-Leaf-clause-way : goal.returns-in_err-found-in-Leaf-clause-way
returns-in_err-found-in-Leaf-clause-way g c = λ steady reached.
    let p = err_from_is_err_and c.from_residual.result c.from_residual.ensures.1 in
    rw (p.1, p.2) (c.in_err-found-in-Leaf.ensures.way steady reached.way)

pub returns-in-Some-clause-way : goal.returns-in-Some-clause-way
returns-in-Some-clause-way g c = λ steady reached.
    let seen = pages_seen c.args.pager.now.state in
    let found = c.in_ok-found-in-Leaf.ensures.way steady reached.way in
    subst (λ (x : Option Frame). IfSome x (HasReached seen c.args.kind c.args.root c.go_on.new.frames.items)) c.in-Some.is found.1

pub returns-in-None-clause-way : goal.returns-in-None-clause-way
returns-in-None-clause-way g c = λ steady reached.
    reached_leaf _ _ _ _ _ c.in-Leaf.is (c.in_ok-found-in-Leaf.ensures.way steady reached.way).0 (stands_at _ _ _ _ _ reached.stands)
