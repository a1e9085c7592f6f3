use Rattle.std.proofs.Common.{subst, inl, inr, ⊎_elim}
use Rattle.std.proofs.lemmas.Result.{err_from_is_err_and}
use Rattle.btree.specs.image.Pages.{pages_seen}
use Rattle.btree.proofs.SeenLemmas.{still_steady}
use Rattle.schema_tables.specs.TableData.{TableData, schema_table}
use Rattle.integrity_trees.specs.table_walk.Checked.{IsCheckedTree, tree_of}
use Rattle.integrity.specs.Checked.{schema}
use Rattle.integrity_trees.specs.tree_walk.Used.{IsTreeTwice, MarksTree}
use Rattle.records_tables.specs.stored_rows.RowFaults.{IsBrokenTable}
use Rattle.records_tables.specs.stored_rows.Stored.{HoldsRows}
use Rattle.integrity_trees.proofs.lemmas.table_walk.GatherLemmas.{rows_held, still_stored}
use Rattle.integrity.proofs.trees.read_schema.Goals as goal

pub returns-in_err-tree-clause-fault : goal.returns-in_err-tree-clause-fault
returns-in_err-tree-clause-fault g c = λ steady.
    let p = err_from_is_err_and c.from_residual.result c.from_residual.ensures.1 in
    rw (p.1, p.2)
    (⊎_elim (λ read. inl (inl read))
    (λ cause. ⊎_elim
    (λ (broken : IsBrokenTable (pages_seen c.args.pager.now.state) c.args.schema.now c.in_err-tree.field-0.0).
    inl (inr (inl (schema_table, schema, subst (λ (t : TableData). IsBrokenTable (pages_seen c.args.pager.now.state) t c.in_err-tree.field-0.0) c.requires.is broken))))
    (λ (twice : IsTreeTwice (pages_seen c.args.pager.now.state) (tree_of c.args.schema.now) c.args.used.now c.in_err-tree.field-0.0).
    inr (subst (λ (t : TableData). IsTreeTwice (pages_seen c.args.pager.now.state) (tree_of t) c.args.used.now c.in_err-tree.field-0.0) c.requires.is twice))
    cause)
    (c.in_err-tree.ensures.outcome.cause steady))

pub returns-in_err-rows-clause-fault : goal.returns-in_err-rows-clause-fault
returns-in_err-rows-clause-fault g c = λ steady.
    let stays = c.check_table.ensures.reads.image in
    let tree = c.in_ok-tree.ensures.outcome.tree steady in
    let p = err_from_is_err_and c.from_residual-in_err-rows.result c.from_residual-in_err-rows.ensures.1 in
    rw (p.1, p.2)
    (inl (inl (c.in_err-rows.ensures.rows (still_steady _ _ stays steady) (still_stored _ _ stays c.args.schema.now _ tree))))

pub returns-clause-rows : goal.returns-clause-rows
returns-clause-rows g c = λ steady.
    let stays = c.check_table.ensures.reads.image in
    let tree = c.in_ok-tree.ensures.outcome.tree steady in
    subst (λ (t : TableData). HoldsRows (pages_seen c.args.pager.now.state) t c.in_ok-rows.rows.items) c.requires.is
    (rows_held _ _ stays c.args.schema.now _ tree c.in_ok-rows.rows.items
    (c.in_ok-rows.ensures.rows (still_steady _ _ stays steady) (still_stored _ _ stays c.args.schema.now _ tree)))

pub returns-clause-checked : goal.returns-clause-checked
returns-clause-checked g c = λ steady.
    subst (λ (t : TableData). IsCheckedTree (pages_seen c.args.pager.now.state) t c.in_ok-tree.tree) c.requires.is
    (c.in_ok-tree.ensures.outcome.tree steady)

pub returns-clause-marks : goal.returns-clause-marks
returns-clause-marks g c = λ steady.
    subst (λ (t : TableData). MarksTree (pages_seen c.args.pager.now.state) (tree_of t) c.args.used.now c.check_table.new.used) c.requires.is
    (c.in_ok-tree.ensures.marks steady)
