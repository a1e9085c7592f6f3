use Rattle.std.proofs.Common.{◌≡◌, ◌∙◌, ℕ, ap, false, true, length, None, Some, subst, sym}
use Rattle.std.proofs.lemmas.Result.{err_from_is_err_and}
use Rattle.pager.proofs.CallLemmas.{SameImage-trans}
use Rattle.btree.specs.declared.image.kind.TreeKind.{TreeKind}
use Rattle.btree.specs.image.Pages.{pages_seen}
use Rattle.btree.specs.image.Shape.{IsTreeAt}
use Rattle.btree.specs.Views.{cell_data}
use Rattle.btree.proofs.SeenLemmas.{still_steady}
use Rattle.btree_cursor.specs.cursor.Calls.{IsOpenedAt}
use Rattle.schema_tables.specs.TableData.{IsKeyWithin, RowKeyData}
use Rattle.records_tables.specs.Tables.{kind_of}
use Rattle.integrity_indexes.proofs.lemmas.index_rows.CompareLemmas.{TellsCell, its_tree, all_counted, all_found, counted_are, its_places, kept_many, never_ends, not_as_many, not_there, number_now, one_further, opened, passed_over, places_now, row_now, search_now, stopped}
use Rattle.integrity_indexes.proofs.index_rows.comparison.is_index_of.Goals.{in-LeftOut, in-Found}
use Rattle.integrity_indexes.proofs.index_rows.comparison.is_index_of.Goals as goal

pub returns-in_err-cursor-clause-same : goal.returns-in_err-cursor-clause-same
returns-in_err-cursor-clause-same g c = λ steady one other.
    let p = err_from_is_err_and c.from_residual-in_err-cursor.result c.from_residual-in_err-cursor.ensures.1 in
    let pages = pages_seen c.args.pager.now.state in
    let kind : c.tree_kind-kind.result ≡ kind_of c.args.table.now.key = c.tree_kind-kind.ensures ∙ ap kind_of c.key.ensures.same in
    rw (p.1, p.2)
    (c.in_err-cursor.ensures.outcome.sound steady one.counts.levels
    (subst (λ (kind : TreeKind). IsTreeAt pages kind one.counts.levels c.root-root.result) (sym kind)
    (subst (λ (root : ℕ). IsTreeAt pages (kind_of c.args.table.now.key) one.counts.levels root) (sym c.root-root.ensures) (its_tree pages c.args.table.now one))))

pub loop-entry-init : goal.loop-entry-init
loop-entry-init g c =
    opened c.args.pager.now.state c.first.new.pager.state c.args.table.now c.args.index.now c.args.entries c.in_ok-cursor.cursor
    c.in_ok-cursor.ensures.reads.image c.in_ok-cursor.ensures.reads.failures
    (subst (λ (key : RowKeyData). IsKeyWithin key (length c.args.table.now.columns)) c.key.ensures.same c.key.ensures.within)
    (subst (λ (kind : TreeKind). IsOpenedAt c.args.pager.now.state c.first.new.pager.state kind c.args.table.now.root c.in_ok-cursor.cursor)
    (c.tree_kind-kind.ensures ∙ ap kind_of c.key.ensures.same)
    (subst (λ (root : ℕ). IsOpenedAt c.args.pager.now.state c.first.new.pager.state c.tree_kind-kind.result root c.in_ok-cursor.cursor) c.root-root.ensures c.in_ok-cursor.ensures.outcome))

pub returns-in_default-clause-same : goal.returns-in_default-clause-same
returns-in_default-clause-same g c = λ steady one other.
    absurd (never_ends _ _ _ _ _ _ _ c.loop-entry.invariant steady one other (λ pages. c.in_default.ensures.entry pages (kind_of c.args.table.now.key)))

pub returns-in_default-entry-clause-same : goal.returns-in_default-entry-clause-same
returns-in_default-entry-clause-same g c = λ steady one other.
    let s = c.loop-entry.invariant in
    let told : TellsCell c.args.table.now.key c.loop-entry.cursor None = λ pages. (rw c.in_default-entry.is at c.in-Ok.ensures.entry) pages (kind_of c.args.table.now.key) in
    let tell = c.are_as_many.ensures c.args.index.now.root (kept_many _ _ _ _ _ _ _ s steady one other) (its_places _ _ _ _ _ _ _ s steady one other)
    (number_now _ _ _ _ _ _ _ s steady one other) (places_now _ _ _ _ _ _ _ s steady one other) (all_counted _ _ _ _ _ _ _ s steady one other told)
    (counted_are (pages_seen c.args.pager.now.state) c.args.table.now c.args.index.now c.args.entries other) in (
      λ t. all_found _ _ _ _ _ _ _ s steady one other told (tell.0 t),
      λ not. not_as_many _ _ _ _ _ _ _ s steady one other told (λ e. not (tell.1 e)),
    )

pub returns-in_err-look_up-clause-same : goal.returns-in_err-look_up-clause-same
returns-in_err-look_up-clause-same g c = λ steady one other.
    let s = c.loop-entry.invariant in
    let told : TellsCell c.args.table.now.key c.loop-entry.cursor (Some (cell_data c.in-Some.cell)) = λ pages. (rw c.in-Some.is at c.in-Ok.ensures.entry) pages (kind_of c.args.table.now.key) in
    let p = err_from_is_err_and c.from_residual-in_err-look_up.result c.from_residual-in_err-look_up.ensures.1 in
    rw (p.1, p.2)
    (c.in_err-look_up.ensures.found (still_steady _ _ s.stays steady) _ _ _ (row_now _ _ _ _ _ _ _ s steady one other _ told) (search_now _ _ _ _ _ _ _ s steady one other))

pub returns-in-Missing-clause-same : goal.returns-in-Missing-clause-same
returns-in-Missing-clause-same g c = λ steady one other.
    let s = c.loop-entry.invariant in
    let told : TellsCell c.args.table.now.key c.loop-entry.cursor (Some (cell_data c.in-Some.cell)) = λ pages. (rw c.in-Some.is at c.in-Ok.ensures.entry) pages (kind_of c.args.table.now.key) in
    let looked = rw c.in-Missing.is at (c.in_ok-look_up.ensures.found (still_steady _ _ s.stays steady) _ _ _ (row_now _ _ _ _ _ _ _ s steady one other _ told) (search_now _ _ _ _ _ _ _ s steady one other)) in (
      λ t. absurd (let e : false ≡ true = t in cc),
      λ not. not_there _ _ _ _ _ _ _ s steady one other _ told looked.0 looked.1,
    )

pub loop-entry-preserved : goal.loop-entry-preserved
loop-entry-preserved g c =
    let s = c.loop-entry.invariant in
    let told : TellsCell c.args.table.now.key c.loop-entry.cursor (Some (cell_data c.in-Some.cell)) = λ pages. (rw c.in-Some.is at c.in-Ok.ensures.entry) pages (kind_of c.args.table.now.key) in
    let reads = c.in_ok-look_up.ensures.reads in
    record {
      stays = SameImage-trans _ _ _ (SameImage-trans _ _ _ s.stays reads.image) c.in_ok-next.ensures.reads.image;
      failures = c.in_ok-next.ensures.reads.failures ∙ reads.failures ∙ s.failures;
      within = s.within;
      compares = λ steady one other.
          let looked = c.in_ok-look_up.ensures.found (still_steady _ _ s.stays steady) _ _ _ (row_now _ _ _ _ _ _ _ s steady one other _ told) (search_now _ _ _ _ _ _ _ s steady one other) in
          elim c.match-branch-4.branch [
            | in-LeftOut w ↦
                passed_over _ _ _ _ _ _ _ s steady one other _ told _ reads.image _ _ c.in_ok-next.ensures.outcome (rw w.in-LeftOut.is at looked) c.match-branch-4.kept w.kept-is
            | in-Found w ↦
                let found = rw w.in-Found.is at looked in
                one_further _ _ _ _ _ _ _ s steady one other _ told _ reads.image _ _ c.in_ok-next.ensures.outcome found.0 found.1 c.match-branch-4.kept
                (w.kept-is ∙ w.saturating_add-kept.ensures)
          ];
    }

pub returns-in_err-next-clause-same : goal.returns-in_err-next-clause-same
returns-in_err-next-clause-same g c = λ steady one other.
    let s = c.loop-entry.invariant in
    let told : TellsCell c.args.table.now.key c.loop-entry.cursor (Some (cell_data c.in-Some.cell)) = λ pages. (rw c.in-Some.is at c.in-Ok.ensures.entry) pages (kind_of c.args.table.now.key) in
    let p = err_from_is_err_and c.from_residual-in_err-next.result c.from_residual-in_err-next.ensures.1 in
    rw (p.1, p.2)
    (stopped _ _ _ _ _ _ _ s steady one other _ told _ c.in_ok-look_up.ensures.reads.image _ _ c.in_err-next.ensures.outcome)
