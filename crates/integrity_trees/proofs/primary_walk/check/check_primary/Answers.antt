use Rattle.std.proofs.Common.{All, subst, sym, inl, inr, ⊎_elim}
use Rattle.std.proofs.lemmas.Result.{err_from_is_err_and}
use Rattle.btree.specs.declared.image.kind.TreeKind.TheVariants.{Index}
use Rattle.btree.specs.image.Pages.{IsNumber, Pages, pages_seen}
use Rattle.btree.specs.image.Shape.{places_under}
use Rattle.btree.proofs.SeenLemmas.{same_pages, still_steady}
use Rattle.integrity_trees.specs.primary_walk.Checked.{HasBrokenRow, HoldsPrimaryRow, IsKeyTree}
use Rattle.integrity_trees.proofs.lemmas.primary_walk.CheckLemmas.{tree_failed, tree_is, widths_are}
use Rattle.integrity_trees.proofs.primary_walk.check.check_primary.Goals as goal

pub returns-in_err-counts-clause-outcome : goal.returns-in_err-counts-clause-outcome
returns-in_err-counts-clause-outcome g c =
    let p = err_from_is_err_and c.from_residual-in_err-counts.result c.from_residual-in_err-counts.ensures.1 in
    rw (p.1, p.2)
    (tree_failed c.args.pager.now.state c.args.table.now _ c.root.result (widths_are c.args.table.now c.in_ok-order.order c.in_ok-order.ensures) c.root.ensures
    c.args.used.now c.in_err-counts.field-0.0 c.in_err-counts.ensures.outcome)

pub returns-in_err-check_rows-clause-outcome : goal.returns-in_err-check_rows-clause-outcome
returns-in_err-check_rows-clause-outcome g c =
    let p = err_from_is_err_and c.from_residual-in_err-check_rows.result c.from_residual-in_err-check_rows.ensures.1 in
    let stays = c.in_ok-counts.ensures.reads.image in
    rw (p.1, p.2)
    (record {
      only = c.in_err-check_rows.ensures.only;
      cause = λ steady.
          let same = same_pages _ _ stays in
          let tree = tree_is c.args.pager.now.state c.args.table.now _ c.root.result (widths_are c.args.table.now c.in_ok-order.order c.in_ok-order.ensures) c.root.ensures
          c.in_ok-counts.counts c.in_ok-counts.ensures.outcome steady in
          ⊎_elim inl
          (λ (broken : HasBrokenRow (pages_seen c.check_index.new.pager.state) c.args.table.now c.in_err-check_rows.field-0.0).
          inr (inl (inr (subst (λ (q : Pages). HasBrokenRow q c.args.table.now c.in_err-check_rows.field-0.0) same broken))))
          (c.in_err-check_rows.ensures.rows (still_steady _ _ stays steady) c.in_ok-counts.counts
          (subst (λ (q : Pages). IsNumber q c.args.table.now.root) (sym same) c.requires.number)
          (subst (λ (q : Pages). IsKeyTree q c.args.table.now c.in_ok-counts.counts) (sym same) tree));
    })

pub returns-clause-outcome : goal.returns-clause-outcome
returns-clause-outcome g c =
    let stays = c.in_ok-counts.ensures.reads.image in
    record {
      few = c.in_ok-counts.ensures.outcome.few;
      tree = λ steady.
          let same = same_pages _ _ stays in
          let tree = tree_is c.args.pager.now.state c.args.table.now _ c.root.result (widths_are c.args.table.now c.in_ok-order.order c.in_ok-order.ensures) c.root.ensures
          c.in_ok-counts.counts c.in_ok-counts.ensures.outcome steady in
          record {
            tree = tree;
            rows = subst (λ (q : Pages). All (HoldsPrimaryRow q c.args.table.now) (places_under q Index c.in_ok-counts.counts.levels c.args.table.now.root)) same
                (c.in_ok-check_rows.ensures.rows (still_steady _ _ stays steady) c.in_ok-counts.counts
                (subst (λ (q : Pages). IsNumber q c.args.table.now.root) (sym same) c.requires.number)
                (subst (λ (q : Pages). IsKeyTree q c.args.table.now c.in_ok-counts.counts) (sym same) tree));
          };
    }
