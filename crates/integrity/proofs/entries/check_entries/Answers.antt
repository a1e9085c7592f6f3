use Rattle.std.proofs.Common.{rules, ◌∙◌, All, Contains, map, refl, sym, subst, inl, inr, ⊎_elim}
use Rattle.std.proofs.lemmas.Result.{err_from_is_err_and}
use Rattle.pager.proofs.CallLemmas.{SameImage-trans}
use Rattle.pager.specs.PagerState.{IsPageNumber}
use Rattle.btree.specs.image.Pages.{pages_seen, Pages}
use Rattle.btree.proofs.SeenLemmas.{still_steady, same_pages}
use Rattle.schema.specs.indexes.IndexData.{IndexData}
use Rattle.schema.specs.indexes.IndexView.{index_data}
use Rattle.schema_keys.specs.Names.{IsSameName}
use Rattle.schema_tables.specs.TableData.{TableData}
use Rattle.integrity_indexes.specs.index_rows.Checked.{IsCheckedTable}
use Rattle.integrity.specs.Indexes.{AreBrokenEntries, AreItsEntries, IsCheckedIndexOf}
use Rattle.integrity.proofs.EntryLemmas.{all_in, index_with}
use Rattle.integrity.proofs.ZipLemmas.{all_viewed, beside_among, beside_end, beside_here, beside_next, beside_start, each_viewed, viewed}
use Rattle.integrity.proofs.entries.check_entries.Goals as goal

pub loop-index-init : goal.loop-index-init
loop-index-init g c = record {
  stays = search rules;
  failures = search rules;
  beside = λ steady checked indexes. beside_start _ _ _ _ _ _ (search rules) (search rules)
      (all_viewed (IsCheckedIndexOf (pages_seen c.args.pager.now.state) c.args.tables.now) index_data c.args.indexes.now c.args.counted.now indexes);
}

pub loop-index-preserved : goal.loop-index-preserved
loop-index-preserved g c =
    let inv = c.loop-index.invariant in
    let steps = c.in-Some.ensures.steps in
    record {
      stays = SameImage-trans _ _ _ inv.stays c.compare_with_table.ensures.reads.image;
      failures = c.in_ok-compare_with_table.ensures.reads.failures ∙ inv.failures;
      beside = λ steady checked indexes.
          let beside = inv.beside steady checked indexes in
          let among = beside_among _ _ _ _ _ _ _ _ _ beside steps.0 steps.1 in
          let number : IsPageNumber c.args.pager.now.state c.in-Some.index.now.root =
          all_in (λ (index : IndexData). IsPageNumber c.args.pager.now.state index.root) (map index_data c.args.indexes.now) (index_data c.in-Some.index.now) c.requires
          (viewed index_data c.args.indexes.now c.in-Some.index.now among) in
          beside_next _ _ _ _ _ _ _ _ _ beside steps.0 steps.1
          (λ table among_tables owner.
          subst (λ (q : Pages). AreItsEntries q table (index_data c.in-Some.index.now)) (same_pages _ _ inv.stays)
          (c.in_ok-compare_with_table.ensures.entries (still_steady _ _ inv.stays steady)
          (subst (λ (q : Pages). All (IsCheckedTable q) c.args.tables.now) (sym (same_pages _ _ inv.stays)) checked)
          (index_with (pages_seen c.args.pager.now.state) _ c.args.tables.now (index_data c.in-Some.index.now) c.in-Some.counts.now _ (sym (same_pages _ _ inv.stays)) refl number
          (beside_here _ _ _ _ _ _ _ _ _ beside steps.0 steps.1))
          table among_tables owner));
    }

pub returns-in_err-compare_with_table-clause-fault : goal.returns-in_err-compare_with_table-clause-fault
returns-in_err-compare_with_table-clause-fault g c = λ steady checked indexes.
    let inv = c.loop-index.invariant in
    let steps = c.in-Some.ensures.steps in
    let beside = inv.beside steady checked indexes in
    let among = beside_among _ _ _ _ _ _ _ _ _ beside steps.0 steps.1 in
    let fault = c.in_err-compare_with_table.field-0.0 in
    let one = index_data c.in-Some.index.now in
    let there = viewed index_data c.args.indexes.now c.in-Some.index.now among in
    let number : IsPageNumber c.args.pager.now.state c.in-Some.index.now.root =
    all_in (λ (index : IndexData). IsPageNumber c.args.pager.now.state index.root) (map index_data c.args.indexes.now) one c.requires there in
    let p = err_from_is_err_and c.from_residual.result c.from_residual.ensures.1 in
    rw (p.1, p.2)
    (⊎_elim inl
    (λ (found : (table : TableData) × Contains c.args.tables.now table × IsSameName one.table table.name
    × AreBrokenEntries (pages_seen c.loop-index.pager.state) table one fault).
    inr (
      found.0,
      one,
      found.1,
      there,
      found.2,
      subst (λ (q : Pages). AreBrokenEntries q found.0 one fault) (same_pages _ _ inv.stays) found.3,
    ))
    (c.in_err-compare_with_table.ensures.fault (still_steady _ _ inv.stays steady)
    (subst (λ (q : Pages). All (IsCheckedTable q) c.args.tables.now) (sym (same_pages _ _ inv.stays)) checked)
    (index_with (pages_seen c.args.pager.now.state) _ c.args.tables.now one c.in-Some.counts.now _ (sym (same_pages _ _ inv.stays)) refl number
    (beside_here _ _ _ _ _ _ _ _ _ beside steps.0 steps.1))))

pub returns-clause-entries : goal.returns-clause-entries
returns-clause-entries g c = λ steady checked indexes table index among_tables among owner.
    each_viewed (λ (i : IndexData). IsSameName i.table table.name → AreItsEntries (pages_seen c.args.pager.now.state) table i) index_data c.args.indexes.now
    (λ i h same. beside_end _ _ _ _ _ (c.loop-index.invariant.beside steady checked indexes) (⊎_elim (λ e. inl e.1.0) (λ e. inr e.1.0) c.in-None.ensures.steps)
    i h table among_tables same) index among owner
