use Rattle.std.proofs.Common.{rules, ◌≡◌, ◌<◌, ◌∙◌, true, ℕ, All, Contains, List, get_or, length, ap, sym, subst, inl, inr, ⊎_elim, arith}
use Rattle.std.proofs.lemmas.List.{take_all}
use Rattle.std.proofs.lemmas.List.Elements.{All-more}
use Rattle.std.proofs.lemmas.Result.{err_from_is_err_and}
use Rattle.pager.proofs.CallLemmas.{SameImage-trans}
use Rattle.pager.specs.Calls.{SameImage}
use Rattle.pager.specs.PagerState.{PagerState}
use Rattle.btree.specs.image.Pages.{pages_seen, Pages}
use Rattle.btree.proofs.SeenLemmas.{still_steady, same_pages}
use Rattle.schema.specs.indexes.IndexView.{index_data}
use Rattle.schema_tables.specs.TableData.{TableData}
use Rattle.schema_keys.specs.Names.{IsSameName}
use Rattle.integrity_indexes.specs.index_rows.Checked.{IsCheckedTable}
use Rattle.integrity.specs.Indexes.{AreBrokenEntries, AreItsEntries}
use Rattle.integrity.proofs.EntryLemmas.{all_in, checked_with}
use Rattle.integrity.proofs.entries.compare_with_table.Goals.{else-is_same_name, then-is_same_name+in_ok-compare}
use Rattle.integrity.proofs.entries.compare_with_table.Goals as goal

pub returns-in_err-compare-clause-fault : goal.returns-in_err-compare-clause-fault
returns-in_err-compare-clause-fault g c = λ steady tables index.
    let inv = c.loop-table.invariant in
    let among : Contains c.args.tables.now c.table-item.result = search rules in
    let fault = c.in_err-compare.field-0.0 in
    let owner = subst (λ (n : List ℕ). IsSameName (index_data c.args.index.now).table n) c.name.ensures
    (subst (λ (n : List ℕ). IsSameName n c.name.result.now) c.table.ensures (c.is_same_name.ensures.0 c.if-is_same_name.true)) in
    let p = err_from_is_err_and c.from_residual.result c.from_residual.ensures.1 in
    rw (p.1, p.2)
    (⊎_elim inl
    (λ (broken : AreBrokenEntries (pages_seen c.loop-table.pager.state) c.table-item.result (index_data c.args.index.now) fault).
    inr (
      c.table-item.result,
      among,
      owner,
      subst (λ (q : Pages). AreBrokenEntries q c.table-item.result (index_data c.args.index.now) fault) (same_pages _ _ inv.stays) broken,
    ))
    (c.in_err-compare.ensures.fault (still_steady _ _ inv.stays steady)
    (checked_with (pages_seen c.args.pager.now.state) _ c.args.tables.now c.table-item.result (index_data c.args.index.now) c.args.entries (sym (same_pages _ _ inv.stays))
    (all_in (IsCheckedTable (pages_seen c.args.pager.now.state)) c.args.tables.now c.table-item.result tables among) index among owner)))

pub loop-table-preserved : goal.loop-table-preserved
loop-table-preserved g c =
    let inv = c.loop-table.invariant in
    let pages = pages_seen c.args.pager.now.state in
    let item = c.table-item.result in
    let within : c.loop-table.table-index < length c.args.tables.now = search rules in
    let among : Contains c.args.tables.now item = search rules in
    let same : get_or c.args.tables.now c.loop-table.table-index item ≡ item = search rules in
    let its : TableData → Type 0 = λ table. IsSameName (index_data c.args.index.now).table table.name → AreItsEntries pages table (index_data c.args.index.now) in
    elim c.if-is_same_name.branch [
      | then-is_same_name+in_ok-compare w ↦
          let now : c.if-is_same_name.pager.state ≡ w.compare.new.pager.state = λ i. (w.pager-is i).state in
          record {
            stays = subst (λ (s : PagerState). SameImage c.args.pager.now.state s) (sym now) (SameImage-trans _ _ _ inv.stays w.compare.ensures.reads.image);
            failures = ap (λ (s : PagerState). s.source.failures) now ∙ w.in_ok-compare.ensures.reads.failures ∙ inv.failures;
            each = λ steady tables index. All-more its c.args.tables.now c.loop-table.table-index item within (inv.each steady tables index)
                (subst its (sym same) (λ owner.
                subst (λ (q : Pages). AreItsEntries q item (index_data c.args.index.now)) (same_pages _ _ inv.stays)
                (w.in_ok-compare.ensures.entries (still_steady _ _ inv.stays steady)
                (checked_with pages _ c.args.tables.now item (index_data c.args.index.now) c.args.entries (sym (same_pages _ _ inv.stays))
                (all_in (IsCheckedTable pages) c.args.tables.now item tables among) index among owner))));
          }
      | else-is_same_name w ↦
          let now : c.if-is_same_name.pager.state ≡ c.loop-table.pager.state = λ i. (w.pager-is i).state in
          record {
            stays = subst (λ (s : PagerState). SameImage c.args.pager.now.state s) (sym now) inv.stays;
            failures = ap (λ (s : PagerState). s.source.failures) now ∙ inv.failures;
            each = λ steady tables index. All-more its c.args.tables.now c.loop-table.table-index item within (inv.each steady tables index)
                (subst its (sym same) (λ owner.
                let told : c.is_same_name.result ≡ true = c.is_same_name.ensures.1
                (subst (λ (n : List ℕ). IsSameName c.table.result.now n) (sym c.name.ensures)
                (subst (λ (n : List ℕ). IsSameName n item.name) (sym c.table.ensures) owner)) in
                let other = w.if-is_same_name.false in
                cc));
          }
    ]

pub returns-clause-entries : goal.returns-clause-entries
returns-clause-entries g c = λ steady tables index table among owner.
    let its : TableData → Type 0 = λ table. IsSameName (index_data c.args.index.now).table table.name
    → AreItsEntries (pages_seen c.args.pager.now.state) table (index_data c.args.index.now) in
    let end : c.loop-table.table-index ≡ length c.args.tables.now = search rules in
    all_in its c.args.tables.now table
    (subst (λ (l : List TableData). All its l) (take_all c.loop-table.table-index c.args.tables.now (omega (arith, end)))
    (c.loop-table.invariant.each steady tables index)) among owner
