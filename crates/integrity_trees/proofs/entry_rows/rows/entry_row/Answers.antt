use Rattle.std.proofs.Common.{◌≡◌, inr, subst, List, ℕ}
use Rattle.std.proofs.lemmas.Result.{IfOk-weaker, MatchResult-weaker}
use Rattle.std.specs.Cow.{cow_slice_items}
use Rattle.pager.proofs.CallLemmas.{IfErr-weaker}
use Rattle.records.specs.Record.{IsRecord}
use Rattle.btree.specs.image.Pages.{pages_seen}
use Rattle.btree.proofs.lemmas.image.ChainLemmas.{one_payload}
use Rattle.btree.specs.Views.{cell_data}
use Rattle.btree_cursor.specs.index_entries.Entries.{BreaksRecord, HasRecord}
use Rattle.integrity_trees.proofs.lemmas.entry_rows.MetLemmas.{breaks_record}
use Rattle.integrity_trees.proofs.entry_rows.rows.entry_row.Goals as goal

pub returns-in_default-clause-row : goal.returns-in_default-clause-row
returns-in_default-clause-row g c = λ steady values has.
    absurd ((rw c.in_default.is at (c.in_ok-bytes.ensures.outcome steady)) has.bytes has.whole)

pub returns-clause-row : goal.returns-clause-row
returns-clause-row g c = λ steady values has.
    let same : has.bytes ≡ cow_slice_items c.in-Some.bytes =
    one_payload (pages_seen c.args.pager.now.state) _ _ _ has.whole (rw c.in-Some.is at (c.in_ok-bytes.ensures.outcome steady)) in
    let found : has.bytes ≡ c.as_slice.result.now = cc in
    MatchResult-weaker c.record_row.result
    (c.record_row.ensures.row values (subst (λ (b : List ℕ). IsRecord b values) found has.record_is)) (λ row is. is) (λ e is. inr is)

pub returns-clause-is : goal.returns-clause-is
returns-clause-is g c = λ steady.
    let found : c.as_slice.result.now ≡ cow_slice_items c.in-Some.bytes = cc in
    IfOk-weaker c.record_row.result (IsRecord c.as_slice.result.now) (HasRecord (pages_seen c.args.pager.now.state) (cell_data c.args.cell.now))
    (λ row is. record {
      bytes = cow_slice_items c.in-Some.bytes;
      whole = rw c.in-Some.is at (c.in_ok-bytes.ensures.outcome steady);
      record_is = subst (λ (b : List ℕ). IsRecord b row) found is;
    }) c.record_row.ensures.is

pub returns-clause-broken : goal.returns-clause-broken
returns-clause-broken g c = λ steady level i within on.
    let found : c.as_slice.result.now ≡ cow_slice_items c.in-Some.bytes = cc in
    IfErr-weaker c.record_row.result
    (λ e broken. breaks_record (pages_seen c.args.pager.now.state) level c.args.n i (cell_data c.args.cell.now) within on (cow_slice_items c.in-Some.bytes)
    (rw c.in-Some.is at (c.in_ok-bytes.ensures.outcome steady)) e (subst (λ (b : List ℕ). BreaksRecord b c.args.n e) found broken))
    c.record_row.ensures.broken
