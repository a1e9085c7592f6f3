use Rattle.std.proofs.Common.{◌≡◌, None, Some, ap, false, subst, sym, true, ℕ}
use Rattle.std.proofs.lemmas.Result.{err_from_is_err_and}
use Rattle.pager.proofs.CallLemmas.{SameImage-trans}
use Rattle.btree.specs.declared.image.kind.TreeKind.{TreeKind}
use Rattle.btree.specs.declared.image.kind.TreeKind.TheVariants as kind
use Rattle.btree.specs.image.Pages.{pages_seen}
use Rattle.btree.specs.image.Shape.{IsTreeAt}
use Rattle.btree.specs.Views.{cell_data}
use Rattle.btree.proofs.SeenLemmas.{still_steady}
use Rattle.btree_cursor.specs.cursor.Calls.{IsOpenedAt}
use Rattle.records_tables.specs.Tables.{kind_of}
use Rattle.integrity_indexes.proofs.lemmas.index_rows.CompareLemmas.{TellsCell, counted_are, its_tree}
use Rattle.integrity_indexes.proofs.lemmas.row_batches.BatchLemmas.{Batching, comes_behind, end_differs, end_other, end_same, first, kept_counted, never_ends, number_read, opened, places_read, row_now, rowid_is, stepped, stopped, told_now, tree_now, turn_differs, turn_now, turned_on, values_now}
use Rattle.integrity_indexes.proofs.row_batches.comparison.is_index_by_batches.Goals as goal

pub returns-in_err-cursor-clause-same : goal.returns-in_err-cursor-clause-same
returns-in_err-cursor-clause-same g c = λ steady place key one other.
    let p = err_from_is_err_and c.from_residual-in_err-cursor.result c.from_residual-in_err-cursor.ensures.1 in
    let pages = pages_seen c.args.pager.now.state in
    let tree = subst (λ (k : TreeKind). IsTreeAt pages k one.counts.levels c.args.table.now.root) (ap kind_of key) (its_tree pages c.args.table.now one) in
    rw (p.1, p.2)
    (c.in_err-cursor.ensures.outcome.sound steady one.counts.levels
    (subst (λ (root : ℕ). IsTreeAt pages kind.Table one.counts.levels root) (sym c.root-root.ensures) tree))

pub loop-entry-init : goal.loop-entry-init
loop-entry-init g c =
    let fresh = c.in_ok-run.ensures in
    opened c.args.pager.now.state c.first.new.pager.state c.args.table.now c.args.index.now c.args.entries c.in_ok-cursor.cursor c.in_ok-run.run'
    c.in_ok-cursor.ensures.reads.image c.in_ok-cursor.ensures.reads.failures c.requires
    (subst (λ (root : ℕ). IsOpenedAt c.args.pager.now.state c.first.new.pager.state kind.Table root c.in_ok-cursor.cursor) c.root-root.ensures c.in_ok-cursor.ensures.outcome)
    fresh.0 fresh.1 fresh.2

pub returns-in_default-clause-same : goal.returns-in_default-clause-same
returns-in_default-clause-same g c = λ steady place key one other.
    absurd (never_ends _ _ _ _ _ _ _ _ c.loop-entry.invariant steady place key one other (λ pages. c.in_default.ensures.entry pages (kind_of c.args.table.now.key)))

pub returns-in_err-are_placed-clause-same : goal.returns-in_err-are_placed-clause-same
returns-in_err-are_placed-clause-same g c = λ steady place key one other.
    let s = c.loop-entry.invariant in
    let p = err_from_is_err_and c.from_residual-in_err-are_placed.result c.from_residual-in_err-are_placed.ensures.1 in
    rw (p.1, p.2)
    (c.in_err-are_placed.ensures.placed (still_steady _ _ s.stays steady) _ _ (tree_now _ _ _ _ _ _ _ _ s steady other) (values_now _ _ _ _ _ _ _ _ s steady other))

pub returns-then-not-branch-clause-same : goal.returns-then-not-branch-clause-same
returns-then-not-branch-clause-same g c = λ steady place key one other.
    let s = c.loop-entry.invariant in
    let told : TellsCell c.args.table.now.key c.loop-entry.cursor None = λ pages. (rw c.in_default-entry.is at c.in-Ok.ensures.entry) pages (kind_of c.args.table.now.key) in
    let out = told_now _ _ _ _ _ _ _ _ s steady other _ _ _ _
    (c.in_ok-are_placed.ensures.placed (still_steady _ _ s.stays steady) _ _ (tree_now _ _ _ _ _ _ _ _ s steady other) (values_now _ _ _ _ _ _ _ _ s steady other)) in (
      λ t. absurd (let e : false ≡ true = t in cc),
      λ not. end_differs _ _ _ _ _ _ _ _ s steady place key one other told (rw c.if-not-branch.true at out),
    )

pub returns-in_default-entry-clause-same : goal.returns-in_default-entry-clause-same
returns-in_default-entry-clause-same g c = λ steady place key one other.
    let s = c.loop-entry.invariant in
    let told : TellsCell c.args.table.now.key c.loop-entry.cursor None = λ pages. (rw c.in_default-entry.is at c.in-Ok.ensures.entry) pages (kind_of c.args.table.now.key) in
    let all = rw c.if-not-branch.false at (told_now _ _ _ _ _ _ _ _ s steady other _ _ _ _
    (c.in_ok-are_placed.ensures.placed (still_steady _ _ s.stays steady) _ _ (tree_now _ _ _ _ _ _ _ _ s steady other) (values_now _ _ _ _ _ _ _ _ s steady other))) in
    let read = c.in_ok-are_placed.ensures.reads.image in
    let tell = c.are_as_many.ensures c.args.index.now.root _ _
    (number_read _ _ _ _ _ _ _ _ s steady place key one other _ read) (places_read _ _ _ _ _ _ _ _ s steady place key one other _ read)
    (kept_counted _ _ _ _ _ _ _ _ s steady place key one other told)
    (counted_are (pages_seen c.args.pager.now.state) c.args.table.now c.args.index.now c.args.entries other) in (
      λ t. end_same _ _ _ _ _ _ _ _ s steady place key one other told all (tell.0 t),
      λ not. end_other _ _ _ _ _ _ _ _ s steady place key one other told (λ e. not (tell.1 e)),
    )

pub returns-in_err-added-clause-same : goal.returns-in_err-added-clause-same
returns-in_err-added-clause-same g c = λ steady place key one other.
    let s = c.loop-entry.invariant in
    let told : TellsCell c.args.table.now.key c.loop-entry.cursor (Some (cell_data c.in-Some.cell)) = λ pages. (rw c.in-Some.is at c.in-Ok.ensures.entry) pages (kind_of c.args.table.now.key) in
    let p = err_from_is_err_and c.from_residual-in_err-added.result c.from_residual-in_err-added.ensures.1 in
    rw (p.1, p.2)
    (c.in_err-added.ensures.added (still_steady _ _ s.stays steady) _ _ (row_now _ _ _ _ _ _ _ _ s steady place key one other _ told)
    (rowid_is _ _ _ _ _ _ _ _ s steady place key one other _ told) (comes_behind _ _ _ _ _ _ _ _ s steady place key one other _ told))

pub returns-in_err-next-clause-same : goal.returns-in_err-next-clause-same
returns-in_err-next-clause-same g c = λ steady place key one other.
    let s = c.loop-entry.invariant in
    let told : TellsCell c.args.table.now.key c.loop-entry.cursor (Some (cell_data c.in-Some.cell)) = λ pages. (rw c.in-Some.is at c.in-Ok.ensures.entry) pages (kind_of c.args.table.now.key) in
    let p = err_from_is_err_and c.from_residual-in_err-next.result c.from_residual-in_err-next.ensures.1 in
    rw (p.1, p.2)
    (stopped _ _ _ _ _ _ _ _ s steady place key one other _ told _ c.in_ok-added.ensures.reads.image _ _ c.in_err-next.ensures.outcome)

pub returns-in_err-turn-clause-same : goal.returns-in_err-turn-clause-same
returns-in_err-turn-clause-same g c = λ steady place key one other.
    let told : TellsCell c.args.table.now.key c.loop-entry.cursor (Some (cell_data c.in-Some.cell)) = λ pages. (rw c.in-Some.is at c.in-Ok.ensures.entry) pages (kind_of c.args.table.now.key) in
    let s : Batching c.args.pager.now.state c.next.new.pager.state c.args.table.now c.args.index.now c.args.entries c.next.new.self c.saturating_add-kept.result c.add_row.new.run =
    stepped _ _ _ _ _ _ _ _ c.loop-entry.invariant _ told _ c.in_ok-added.ensures.reads.image c.in_ok-added.ensures.reads.failures _ _ c.in_ok-next.ensures.outcome
    c.in_ok-next.ensures.reads.image c.in_ok-next.ensures.reads.failures _ _ _ c.in_ok-added.ensures.added c.saturating_add-kept.ensures in
    let p = err_from_is_err_and c.from_residual-in_err-turn.result c.from_residual-in_err-turn.ensures.1 in
    rw (p.1, p.2)
    (c.in_err-turn.ensures.placed (still_steady _ _ s.stays steady) _ _ (tree_now _ _ _ _ _ _ _ _ s steady other) (values_now _ _ _ _ _ _ _ _ s steady other))

pub returns-then-not-branch-2-clause-same : goal.returns-then-not-branch-2-clause-same
returns-then-not-branch-2-clause-same g c = λ steady place key one other.
    let told : TellsCell c.args.table.now.key c.loop-entry.cursor (Some (cell_data c.in-Some.cell)) = λ pages. (rw c.in-Some.is at c.in-Ok.ensures.entry) pages (kind_of c.args.table.now.key) in
    let s : Batching c.args.pager.now.state c.next.new.pager.state c.args.table.now c.args.index.now c.args.entries c.next.new.self c.saturating_add-kept.result c.add_row.new.run =
    stepped _ _ _ _ _ _ _ _ c.loop-entry.invariant _ told _ c.in_ok-added.ensures.reads.image c.in_ok-added.ensures.reads.failures _ _ c.in_ok-next.ensures.outcome
    c.in_ok-next.ensures.reads.image c.in_ok-next.ensures.reads.failures _ _ _ c.in_ok-added.ensures.added c.saturating_add-kept.ensures in
    let out = turn_now _ _ _ _ _ _ _ _ s steady other _ _
    (c.in_ok-turn.ensures.placed (still_steady _ _ s.stays steady) _ _ (tree_now _ _ _ _ _ _ _ _ s steady other) (values_now _ _ _ _ _ _ _ _ s steady other)) in (
      λ t. absurd (let e : false ≡ true = t in cc),
      λ not. turn_differs _ _ _ _ _ _ _ _ s steady other place key one (rw c.if-not-branch-2.true at out),
    )

pub loop-entry-preserved : goal.loop-entry-preserved
loop-entry-preserved g c =
    let told : TellsCell c.args.table.now.key c.loop-entry.cursor (Some (cell_data c.in-Some.cell)) = λ pages. (rw c.in-Some.is at c.in-Ok.ensures.entry) pages (kind_of c.args.table.now.key) in
    let s : Batching c.args.pager.now.state c.next.new.pager.state c.args.table.now c.args.index.now c.args.entries c.next.new.self c.saturating_add-kept.result c.add_row.new.run =
    stepped _ _ _ _ _ _ _ _ c.loop-entry.invariant _ told _ c.in_ok-added.ensures.reads.image c.in_ok-added.ensures.reads.failures _ _ c.in_ok-next.ensures.outcome
    c.in_ok-next.ensures.reads.image c.in_ok-next.ensures.reads.failures _ _ _ c.in_ok-added.ensures.added c.saturating_add-kept.ensures in
    turned_on _ _ _ _ _ _ _ _ s _ c.in_ok-turn.ensures.reads.image c.in_ok-turn.ensures.reads.failures _
    (λ steady other. rw c.if-not-branch-2.false at (turn_now _ _ _ _ _ _ _ _ s steady other _ _
    (c.in_ok-turn.ensures.placed (still_steady _ _ s.stays steady) _ _ (tree_now _ _ _ _ _ _ _ _ s steady other) (values_now _ _ _ _ _ _ _ _ s steady other))))
