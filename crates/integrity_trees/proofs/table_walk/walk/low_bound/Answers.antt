use Rattle.std.proofs.Common.{◌≡◌, ◌-◌, ◌<◌, ℕ, ℤ, Some, arith, subst}
use Rattle.btree.specs.Bytes.{IsDividerCell}
use Rattle.btree.specs.image.Layout.{cell_count}
use Rattle.integrity_trees.proofs.lemmas.table_walk.BoundLemmas.{divider_is}
use Rattle.integrity_trees.proofs.table_walk.walk.low_bound.Goals as goal

pub returns-else-i-eq0-clause-inner : goal.returns-else-i-eq0-clause-inner
returns-else-i-eq0-clause-inner c = λ most n cells is.
    let before : c.args.i - 1 ≡ n = omega arith in
    let within : c.args.i - 1 < cell_count c.args.view.now.at c.args.view.now.page = omega (arith, c.requires.within) in
    subst (λ (m : ℕ). (x : ℤ) × (c.divider.result ≡ Some x) × IsDividerCell c.args.view.now.at c.args.view.now.page m x) before
    (divider_is _ most _ cells (c.args.i - 1) c.divider.result within c.divider.ensures.found c.divider.ensures.none)
