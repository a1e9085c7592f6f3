use Rattle.std.proofs.Common.{◌≡◌, ◌≤◌, ◌+◌, ◌++◌, List, [], suc, arith, sym, ◌∙◌, ap, subst, append-nil, vec_len, length}
use Rattle.std.proofs.lemmas.Bool.Decides.{nat_tests}
use Rattle.std.proofs.lemmas.List.{nil_from_length, length_push}
use Rattle.std.proofs.lemmas.Result.{err_from_is_err_and}
use Rattle.btree.specs.declared.image.kind.TreeKind.{TreeKind}
use Rattle.btree.specs.declared.image.kind.TreeKind.TheVariants.{Table, Index}
use Rattle.btree.specs.declared.image.kind.Level.TheVariants.{Interior}
use Rattle.btree.specs.image.Pages.{pages_seen}
use Rattle.btree.specs.image.Tree.{HasEntries}
use Rattle.btree_cursor.proofs.lemmas.cursor.HeldLemmas.{up_end, up_more}
use Rattle.btree_cursor.proofs.lemmas.cursor.LeftLemmas.{left_up, left_stands, leaf_is_left}
use Rattle.btree_cursor.proofs.lemmas.cursor.RestLemmas.{left_end, left_within, left_length, left_split, split_table, split_index}
use Rattle.btree_cursor.proofs.lemmas.cursor.SeenLemmas.{last_end}
use Rattle.btree_cursor.specs.declared.cursor.cursor.Frame.{Frame}
use Rattle.btree_cursor.specs.cursor.Way.{IsWay}
use Rattle.btree_cursor.proofs.lemmas.cursor.WayLemmas.{last_of, reached_interior}
use Rattle.btree_cursor.proofs.cursor.cursor.go_on.Goals as goal

table_index : Table ≡ Index → ⊥
table_index e = cc

pub returns-in-Index-clause-goes : goal.returns-in-Index-clause-goes
returns-in-Index-clause-goes g c = rw (sym c.loop-frame.invariant.same) (λ steady total rest budget h.
    let seen = pages_seen c.loop-frame.pager.state in
    let left = c.loop-frame.invariant.left steady total rest budget h in
    let all = c.loop-frame.frames.items in
    let split = left_split seen c.args.kind total left.0 all c.pop.new.self.items c.in-Some.frame _ _ _ left.1 c.in-Some.ensures.items in
    let long : length all ≤ total = left_length seen c.args.kind total left.0 all _ _ _ left.1 in
    let pushed : length all ≡ length c.pop.new.self.items + 1 = ap length c.in-Some.ensures.items ∙ length_push c.pop.new.self.items c.in-Some.frame in
    split_index seen c.args.kind total c.pop.new.self.items c.in-Some.frame _ _ _ c.in-Index.is c.if-frame.true (omega (arith, long, pushed)) split)

pub returns-in-Index-clause-left : goal.returns-in-Index-clause-left
returns-in-Index-clause-left g c =
    let stands = left_stands c.in-Some.frame.level c.pop.new.self.items c.loop-frame.frames.items c.in-Some.frame c.in-Some.ensures.items in
    omega (arith, stands, c.loop-frame.invariant.less)

pub returns-in_err-leaf-in-Table-clause-goes : goal.returns-in_err-leaf-in-Table-clause-goes
returns-in_err-leaf-in-Table-clause-goes g c = rw (sym c.loop-frame.invariant.same) (λ steady total rest budget h.
    let p = err_from_is_err_and c.from_residual.result c.from_residual.ensures.1 in
    let seen = pages_seen c.loop-frame.pager.state in
    let left = c.loop-frame.invariant.left steady total rest budget h in
    let all = c.loop-frame.frames.items in
    let split = left_split seen c.args.kind total left.0 all c.pop.new.self.items c.in-Some.frame _ _ _ left.1 c.in-Some.ensures.items in
    let other : c.args.kind ≡ Index → ⊥ = λ e. table_index (sym c.in-Table.is ∙ e) in
    rw (p.1, p.2)
    (c.in_err-leaf-in-Table.ensures.stands steady total rest budget (split_table seen c.args.kind total c.pop.new.self.items c.in-Some.frame _ _ _ other split)))

pub returns-in-Table-clause-goes : goal.returns-in-Table-clause-goes
returns-in-Table-clause-goes g c = rw (sym c.loop-frame.invariant.same) (λ steady total rest budget h.
    let seen = pages_seen c.loop-frame.pager.state in
    let left = c.loop-frame.invariant.left steady total rest budget h in
    let all = c.loop-frame.frames.items in
    let split = left_split seen c.args.kind total left.0 all c.pop.new.self.items c.in-Some.frame _ _ _ left.1 c.in-Some.ensures.items in
    let other : c.args.kind ≡ Index → ⊥ = λ e. table_index (sym c.in-Table.is ∙ e) in
    c.in_ok-leaf-in-Table.ensures.stands steady total rest budget (split_table seen c.args.kind total c.pop.new.self.items c.in-Some.frame _ _ _ other split))

pub returns-in-Table-clause-left : goal.returns-in-Table-clause-left
returns-in-Table-clause-left g c =
    let stands = left_stands Interior c.pop.new.self.items c.loop-frame.frames.items c.in-Some.frame c.in-Some.ensures.items in
    let leaf = leaf_is_left c.in_ok-leaf-in-Table.leaf.level c.next_child.new.frames.items c.in_ok-leaf-in-Table.leaf c.in_ok-leaf-in-Table.ensures.leaf in
    omega (arith, stands, leaf, c.in_ok-leaf-in-Table.ensures.left, c.loop-frame.invariant.less)

pub loop-frame-preserved : goal.loop-frame-preserved
loop-frame-preserved g c = record {
  same = c.loop-frame.invariant.same;
  left = λ steady total rest budget h.
      let left = c.loop-frame.invariant.left steady total rest budget h in
      (suc left.0, last_end (pages_seen c.loop-frame.pager.state) c.args.kind total left.0 c.loop-frame.frames.items c.pop.new.self.items c.in-Some.frame _ _ _ left.1 c.in-Some.ensures.items c.if-frame.false);
  way = λ steady way.
      (last_of _ _ _ c.pop.new.self.items c.in-Some.frame (c.loop-frame.invariant.way steady way) c.in-Some.ensures.items).way;
  less =
      let up = left_up c.pop.new.self.items c.loop-frame.frames.items c.in-Some.frame c.in-Some.ensures.items in
      omega (arith, up, c.loop-frame.invariant.less);
  up = up_more c.args.frames.now.items c.loop-frame.frames.items c.pop.new.self.items c.in-Some.frame c.loop-frame.invariant.up c.in-Some.ensures.items c.if-frame.false;
}

pub returns-clause-goes : goal.returns-clause-goes
returns-clause-goes g c = rw (sym c.loop-frame.invariant.same) (λ steady total rest budget h.
    let left = c.loop-frame.invariant.left steady total rest budget h in
    let e : vec_len c.loop-frame.frames ≡ 0 = grind (arith, nat_tests, c.in_default.ensures.variant) in
    let none : c.loop-frame.frames.items ≡ [] = nil_from_length c.loop-frame.frames.items (omega (arith, c.loop-frame.frames.ok.0)) in
    let kept : c.loop-frame.frames.items ≡ c.pop.new.self.items ++ [] = c.in_default.ensures.items in
    (left_end _ _ _ left.0 c.loop-frame.frames.items _ _ _ left.1 none, (sym (append-nil c.pop.new.self.items) ∙ sym kept ∙ none, left_within _ _ _ left.0 c.loop-frame.frames.items _ _ _ left.1)))

pub returns-clause-passed : goal.returns-clause-passed
returns-clause-passed g c =
    let e : vec_len c.loop-frame.frames ≡ 0 = grind (arith, nat_tests, c.in_default.ensures.variant) in
    let none : c.loop-frame.frames.items ≡ [] = nil_from_length c.loop-frame.frames.items (omega (arith, c.loop-frame.frames.ok.0)) in
    let kept : c.loop-frame.frames.items ≡ c.pop.new.self.items ++ [] = c.in_default.ensures.items in
    (up_end c.args.frames.now.items c.loop-frame.frames.items c.loop-frame.invariant.up none, sym (append-nil c.pop.new.self.items) ∙ sym kept ∙ none)

pub returns-in-Index-clause-way : goal.returns-in-Index-clause-way
returns-in-Index-clause-way g c = rw (sym c.loop-frame.invariant.same) (λ steady way.
    let last = last_of (pages_seen c.loop-frame.pager.state) c.args.kind c.args.root c.pop.new.self.items c.in-Some.frame (c.loop-frame.invariant.way steady way) c.in-Some.ensures.items in
    (last.way, reached_interior _ _ _ _ _ (subst (λ (k : TreeKind). HasEntries k Interior) (sym c.in-Index.is) tt) last))

pub returns-in_err-leaf-in-Table-clause-way : goal.returns-in_err-leaf-in-Table-clause-way
returns-in_err-leaf-in-Table-clause-way g c = rw (sym c.loop-frame.invariant.same) (λ steady way.
    let p = err_from_is_err_and c.from_residual.result c.from_residual.ensures.1 in
    let last = last_of (pages_seen c.loop-frame.pager.state) c.args.kind c.args.root c.pop.new.self.items c.in-Some.frame (c.loop-frame.invariant.way steady way) c.in-Some.ensures.items in
    rw (p.1, p.2) (c.in_err-leaf-in-Table.ensures.way steady last.way last.met))

pub returns-in-Table-clause-way : goal.returns-in-Table-clause-way
returns-in-Table-clause-way g c = rw (sym c.loop-frame.invariant.same) (λ steady way.
    let last = last_of (pages_seen c.loop-frame.pager.state) c.args.kind c.args.root c.pop.new.self.items c.in-Some.frame (c.loop-frame.invariant.way steady way) c.in-Some.ensures.items in
    let next = c.in_ok-leaf-in-Table.ensures.way steady last.way last.met in
    (next.way, next))

pub returns-clause-way : goal.returns-clause-way
returns-clause-way g c = rw (sym c.loop-frame.invariant.same) (λ steady way.
    let kept : c.loop-frame.frames.items ≡ c.pop.new.self.items ++ [] = c.in_default.ensures.items in
    (subst (λ (x : List Frame). IsWay (pages_seen c.loop-frame.pager.state) c.args.kind c.args.root x) (kept ∙ append-nil c.pop.new.self.items) (c.loop-frame.invariant.way steady way), tt))
