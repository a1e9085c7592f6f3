use Rattle.std.proofs.lemmas.Result.{err_from_is_err_and}
use Rattle.schema.proofs.lemmas.indexes.ConditionLemmas.{all_so_far, none_so_far, one_fails, one_more}
use Rattle.schema.proofs.indexes.conditions.+part.Goals as goal

pub parts-loop-tree-init : goal.parts-loop-tree-init
parts-loop-tree-init t c = none_so_far c.args.table.now c.args.trees.now c.new-terms.result.items c.new-terms.ensures.items

pub parts-returns-in_err-next : goal.parts-returns-in_err-next
parts-returns-in_err-next t c =
    let p = err_from_is_err_and c.from_residual.result c.from_residual.ensures.1 in
    rw (p.1, p.2)
    (one_fails c.args.table.now c.args.trees.now c.loop-tree.tree-index c.tree-item.result c.loop-tree-test.true c.tree-item.is
    c.loop-tree.terms.items c.loop-tree.invariant c.in_err-next.field-0.0 c.in_err-next.ensures)

pub parts-loop-tree-preserved : goal.parts-loop-tree-preserved
parts-loop-tree-preserved t c =
    one_more c.args.table.now c.args.trees.now c.loop-tree.tree-index c.tree-item.result c.loop-tree-test.true c.tree-item.is
    c.loop-tree.terms.items c.loop-tree.invariant c.in_ok-next.next c.push.new.self.items c.in_ok-push.ensures.items c.in_ok-next.ensures

pub parts-returns : goal.parts-returns
parts-returns t c =
    all_so_far c.args.table.now c.args.trees.now c.loop-tree.tree-index c.loop-tree.terms.items c.loop-tree-test.false c.loop-tree.invariant
