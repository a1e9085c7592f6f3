use Rattle.std.proofs.Common.{◌<◌, Contains, length, rules, ◌∙◌, subst, sym}
use Rattle.std.proofs.lemmas.Result.{err_from_is_err_and}
use Rattle.pager.proofs.CallLemmas.{SameImage-trans}
use Rattle.btree.specs.image.Pages.{pages_seen, Pages}
use Rattle.btree.proofs.SeenLemmas.{still_steady, same_pages}
use Rattle.integrity_indexes.specs.index_rows.Checked.{IsCheckedTable}
use Rattle.records_tables.proofs.lemmas.stored_rows.RowLemmas.{all_next, get_at}
use Rattle.integrity.specs.Keys.{HasKeyCounts}
use Rattle.integrity.proofs.EntryLemmas.{all_in}
use Rattle.integrity.proofs.keys.count_keys.Goals as goal

pub returns-in_err-counts-clause-counts : goal.returns-in_err-counts-clause-counts
returns-in_err-counts-clause-counts g c = λ steady checked.
    let inv = c.loop-table.invariant in
    let among : Contains c.args.tables.now c.table-item.result = search rules in
    let p = err_from_is_err_and c.from_residual-in_err-counts.result c.from_residual-in_err-counts.ensures.1 in
    rw (p.1, p.2)
    (c.in_err-counts.ensures.counts (still_steady _ _ inv.stays steady)
    (subst (λ (q : Pages). IsCheckedTable q c.table-item.result) (sym (same_pages _ _ inv.stays))
    (all_in (IsCheckedTable (pages_seen c.args.pager.now.state)) c.args.tables.now c.table-item.result checked among)))

pub loop-table-preserved : goal.loop-table-preserved
loop-table-preserved g c =
    let inv = c.loop-table.invariant in
    let within : c.loop-table.table-index < length c.args.tables.now = search rules in
    let here = get_at c.args.tables.now c.loop-table.table-index c.table-item.result within (search rules) in
    let among : Contains c.args.tables.now c.table-item.result = search rules in
    record {
      stays = SameImage-trans _ _ _ inv.stays c.count_key.ensures.reads.image;
      failures = c.in_ok-counts.ensures.reads.failures ∙ inv.failures;
      counts = λ steady checked.
          let one = subst (λ (q : Pages). HasKeyCounts q c.table-item.result c.in_ok-counts.counts) (same_pages _ _ inv.stays)
          (c.in_ok-counts.ensures.counts (still_steady _ _ inv.stays steady)
          (subst (λ (q : Pages). IsCheckedTable q c.table-item.result) (sym (same_pages _ _ inv.stays))
          (all_in (IsCheckedTable (pages_seen c.args.pager.now.state)) c.args.tables.now c.table-item.result checked among))) in
          all_next (HasKeyCounts (pages_seen c.args.pager.now.state)) c.args.tables.now c.loop-table.counted.items c.push.new.self.items c.loop-table.table-index
          c.table-item.result c.in_ok-counts.counts here c.in_ok-push.ensures.items (inv.counts steady checked) one;
    }
