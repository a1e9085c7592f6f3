use Rattle.std.proofs.Common.{IfSome, Option, subst}
use Rattle.std.proofs.lemmas.Result.{err_from_is_err_and}
use Rattle.btree.specs.image.Pages.{pages_seen}
use Rattle.btree_cursor.specs.declared.cursor.cursor.Frame.{Frame}
use Rattle.btree_cursor.specs.cursor.Way.{HasReached}
use Rattle.btree_cursor.proofs.lemmas.cursor.WayLemmas.{reached_leaf}
use Rattle.btree_cursor.specs.cursor.Rest.{GoesOn}
use Rattle.btree_cursor.proofs.lemmas.cursor.RestLemmas.{standing_end}
use Rattle.btree_cursor.proofs.lemmas.cursor.RowSeekLemmas.{leaf_passed, leaf_settles}
use Rattle.btree_cursor.proofs.cursor.cursor.settle.Goals as goal

pub returns-then-here-clause-stands : goal.returns-then-here-clause-stands
returns-then-here-clause-stands g c = λ steady total places budget is_in.
    leaf_settles _ _ _ _ _ _ _ _ is_in c.requires.leaf c.if-here.true

pub returns-in_err-found-clause-stands : goal.returns-in_err-found-clause-stands
returns-in_err-found-clause-stands g c = λ steady total places budget is_in.
    let p = err_from_is_err_and c.from_residual.result c.from_residual.ensures.1 in
    rw (p.1, p.2)
    (c.in_err-found.ensures.goes steady total places budget (leaf_passed _ _ _ _ _ _ _ _ is_in c.if-here.false))

pub returns-in-Some-clause-stands : goal.returns-in-Some-clause-stands
returns-in-Some-clause-stands g c = λ steady total places budget is_in.
    let next = c.go_on.new in
    subst (λ (x : Option Frame). GoesOn (pages_seen c.args.pager.now.state) c.args.kind total next.frames.items places next.pager.state.asked budget x) c.in-Some.is
    (c.in_ok-found.ensures.goes steady total places budget (leaf_passed _ _ _ _ _ _ _ _ is_in c.if-here.false))

pub returns-in-None-clause-stands : goal.returns-in-None-clause-stands
returns-in-None-clause-stands g c = λ steady total places budget is_in.
    let next = c.go_on.new in
    let end = subst (λ (x : Option Frame). GoesOn (pages_seen c.args.pager.now.state) c.args.kind total next.frames.items places next.pager.state.asked budget x) c.in-None.is
    (c.in_ok-found.ensures.goes steady total places budget (leaf_passed _ _ _ _ _ _ _ _ is_in c.if-here.false)) in
    standing_end _ _ _ _ _ _ _ _ end.0 end.1.0 end.1.1 c.if-here.false

pub returns-then-here-clause-way : goal.returns-then-here-clause-way
returns-then-here-clause-way g c = λ steady reached. reached

pub returns-in_err-found-clause-way : goal.returns-in_err-found-clause-way
returns-in_err-found-clause-way g c = λ steady reached.
    let p = err_from_is_err_and c.from_residual.result c.from_residual.ensures.1 in
    rw (p.1, p.2) (c.in_err-found.ensures.way steady reached.way)

pub returns-in-Some-clause-way : goal.returns-in-Some-clause-way
returns-in-Some-clause-way g c = λ steady reached.
    let found = c.in_ok-found.ensures.way steady reached.way in
    subst (λ (x : Option Frame). IfSome x (HasReached (pages_seen c.args.pager.now.state) c.args.kind c.args.root c.go_on.new.frames.items)) c.in-Some.is found.1

pub returns-in-None-clause-way : goal.returns-in-None-clause-way
returns-in-None-clause-way g c = λ steady reached.
    reached_leaf _ _ _ _ _ c.requires.leaf (c.in_ok-found.ensures.way steady reached.way).0 reached.stands
