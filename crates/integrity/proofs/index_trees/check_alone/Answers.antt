use Rattle.std.proofs.Common.{inl, inr, ⊎_elim}
use Rattle.std.proofs.lemmas.Result.{err_from_is_err_and}
use Rattle.btree.specs.image.Pages.{pages_seen}
use Rattle.schema.specs.indexes.IndexView.{index_data}
use Rattle.integrity.specs.Indexes.{IsBrokenIndexTree}
use Rattle.integrity.proofs.DistinctLemmas.{walk_alone}
use Rattle.integrity.proofs.index_trees.check_alone.Goals as goal

pub returns-in_err-tree-clause-only : goal.returns-in_err-tree-clause-only
returns-in_err-tree-clause-only g c =
    let p = err_from_is_err_and c.from_residual.result c.from_residual.ensures.1 in
    rw (p.1, p.2) (walk_alone c.in_err-tree.field-0.0 c.in_err-tree.ensures.only)

pub returns-in_err-distinct-clause-fault : goal.returns-in_err-distinct-clause-fault
returns-in_err-distinct-clause-fault g c = λ steady.
    let pages = pages_seen c.args.pager.now.state in
    let p = err_from_is_err_and c.from_residual-in_err-distinct.result c.from_residual-in_err-distinct.ensures.1 in
    rw (p.1, p.2)
    (⊎_elim inl
    (λ (broken : IsBrokenIndexTree pages c.args.table.now (index_data c.args.index.now) c.in_err-distinct.field-0.0). inr (inl broken))
    (c.in_err-distinct.ensures.counts pages (c.in_ok-tree.ensures.prefixes steady) c.args.table.now))

pub returns-clause-checked : goal.returns-clause-checked
returns-clause-checked g c = λ steady.
    let told = c.in_ok-distinct.ensures.counts (pages_seen c.args.pager.now.state) (c.in_ok-tree.ensures.prefixes steady) c.args.table.now in
    record { tree = c.in_ok-tree.ensures.checked steady; distinct = told.0; unique = told.1 }

pub returns-in_err-distinct-clause-reads : goal.returns-in_err-distinct-clause-reads
returns-in_err-distinct-clause-reads g c =
    let p = err_from_is_err_and c.from_residual-in_err-distinct.result c.from_residual-in_err-distinct.ensures.1 in
    rw (p.1, p.2)
    (record {
      image = c.check_tree.ensures.reads.image;
      failures = (λ is. absurd (c.in_err-distinct.ensures.read is), λ other. absurd (other c.in_ok-tree.ensures.reads.failures));
    })
