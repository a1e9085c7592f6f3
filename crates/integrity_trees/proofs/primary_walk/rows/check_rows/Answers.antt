use Rattle.std.proofs.Common.{◌∙◌, ℕ, [], ◌∷◌, ◌++◌, Some, inl, refl, subst}
use Rattle.std.proofs.lemmas.List.Elements.{All-nil}
use Rattle.std.proofs.lemmas.Result.{err_from_is_err_and}
use Rattle.pager.proofs.CallLemmas.{SameImage-trans}
use Rattle.btree.specs.declared.image.kind.TreeKind.TheVariants.{Index}
use Rattle.btree.specs.Views.{cell_data}
use Rattle.btree.proofs.SeenLemmas.{still_steady}
use Rattle.btree_cursor.specs.cursor.Calls.{IsOpenedAt}
use Rattle.integrity_trees.proofs.lemmas.entry_rows.ListedLemmas.{Tells, has_record, never, one_more, opened, still_at}
use Rattle.records_tables.specs.primary_rows.Rows.{IsStoredRow}
use Rattle.integrity_trees.proofs.lemmas.primary_walk.RowLemmas.{all_push, broken_here, has_rows, one_values, seen_search}
use Rattle.integrity_trees.proofs.primary_walk.rows.check_rows.Goals as goal

pub loop-entry-init : goal.loop-entry-init
loop-entry-init g c =
    let reads = c.in_ok-cursor.ensures.reads in
    let at = subst (λ (root : ℕ). IsOpenedAt c.args.pager.now.state c.first.new.pager.state Index root c.in_ok-cursor.cursor) c.root-root.ensures c.in_ok-cursor.ensures.outcome in
    record {
      rows = [];
      listing = opened c.args.pager.now.state c.first.new.pager.state c.args.table.now.root c.in_ok-cursor.cursor [] reads.image reads.failures at refl;
      root_is = at.root_is;
      stored = All-nil (IsStoredRow c.args.table.now);
    }

pub returns-in_default-clause-rows : goal.returns-in_default-clause-rows
returns-in_default-clause-rows g c = λ steady counts number tree.
    absurd (never _ _ _ _ _ c.loop-entry.invariant.listing steady _ _ _ (seen_search _ _ _ _ c.loop-entry.invariant steady counts number tree)
    (λ pages. c.in_default.ensures.entry pages Index))

pub returns-in_default-entry-clause-rows : goal.returns-in_default-entry-clause-rows
returns-in_default-entry-clause-rows g c = λ steady counts number tree.
    has_rows _ _ _ _ c.loop-entry.invariant steady counts number tree (λ pages. (rw c.in_default-entry.is at c.in-Ok.ensures.entry) pages Index)

pub returns-in_err-check_row-clause-rows : goal.returns-in_err-check_row-clause-rows
returns-in_err-check_row-clause-rows g c = λ steady counts number tree.
    let f = c.loop-entry.invariant in
    let told : Tells c.loop-entry.cursor (Some (cell_data c.in-Some.cell)) = λ pages. (rw c.in-Some.is at c.in-Ok.ensures.entry) pages Index in
    let p = err_from_is_err_and c.from_residual-in_err-check_row.result c.from_residual-in_err-check_row.ensures.1 in
    rw (p.1, p.2)
    (broken_here _ _ _ _ f steady counts number tree (cell_data c.in-Some.cell) told c.page_at-page.result c.page_at-page.ensures c.in_err-check_row.field-0.0
    (c.in_err-check_row.ensures.fault (still_steady _ _ f.listing.stays steady) _
    (has_record _ _ _ _ _ f.listing steady _ _ _ (seen_search _ _ _ _ f steady counts number tree) (cell_data c.in-Some.cell) told)))

pub loop-entry-preserved : goal.loop-entry-preserved
loop-entry-preserved g c =
    let f = c.loop-entry.invariant in
    let told : Tells c.loop-entry.cursor (Some (cell_data c.in-Some.cell)) = λ pages. (rw c.in-Some.is at c.in-Ok.ensures.entry) pages Index in
    let row = c.in_ok-check_row.ensures.row in
    let chains = c.in_ok-check_row.ensures.reads.chains in
    record {
      rows = f.rows ++ row.0 ∷ [];
      listing = record {
        stays = SameImage-trans _ _ _ (SameImage-trans _ _ _ f.listing.stays chains.image) c.in_ok-next.ensures.reads.image;
        failures = c.in_ok-next.ensures.reads.failures ∙ c.in_ok-check_row.ensures.reads.failures ∙ f.listing.failures;
        lists = λ steady descends values levels index.
            let now = still_steady _ _ f.listing.stays steady in
            let same = one_values _ _ _ _ (row.2 now) (has_record _ _ _ _ _ f.listing steady descends values levels index _ told) in
            one_more _ _ _ _ _ f.listing steady descends values levels index _ told _ chains _ _ _ same c.in_ok-next.ensures.outcome;
      };
      root_is = c.in_ok-next.ensures.outcome.root_is ∙ f.root_is;
      stored = all_push (IsStoredRow c.args.table.now) f.rows row.0 f.stored row.1;
    }

pub returns-in_err-next-clause-rows : goal.returns-in_err-next-clause-rows
returns-in_err-next-clause-rows g c = λ steady counts number tree.
    let f = c.loop-entry.invariant in
    let chains = c.in_ok-check_row.ensures.reads.chains in
    let p = err_from_is_err_and c.from_residual-in_err-next.result c.from_residual-in_err-next.ensures.1 in
    rw (p.1, p.2)
    (inl (c.in_err-next.ensures.outcome.sound (still_steady _ _ (SameImage-trans _ _ _ f.listing.stays chains.image) steady) Index _ _ _
    (still_at _ _ _ _ _ f.listing steady _ _ _ (seen_search _ _ _ _ f steady counts number tree) _
    (λ pages. (rw c.in-Some.is at c.in-Ok.ensures.entry) pages Index) _ chains)))
