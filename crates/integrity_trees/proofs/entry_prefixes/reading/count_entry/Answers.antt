use Rattle.std.proofs.Common.{◌≡◌, List, ℕ, ap, subst, sym}
use Rattle.std.specs.Cow.{cow_slice_items}
use Rattle.records.specs.Record.{IsRecord}
use Rattle.btree.specs.image.Pages.{pages_seen}
use Rattle.btree.proofs.lemmas.image.ChainLemmas.{one_payload}
use Rattle.integrity_trees.specs.entry_prefixes.Last.{LastData}
use Rattle.integrity_trees.proofs.entry_prefixes.reading.count_entry.Goals as goal

pub returns-in_default-clause-counted : goal.returns-in_default-clause-counted
returns-in_default-clause-counted g c = λ steady row has.
    absurd ((rw c.in_default.is at (c.in_ok-bytes.ensures.outcome steady)) has.bytes has.whole)

pub returns-clause-counted : goal.returns-clause-counted
returns-clause-counted g c = λ steady row has.
    let same : has.bytes ≡ cow_slice_items c.in-Some.bytes =
    one_payload (pages_seen c.args.pager.now.state) _ _ _ has.whole (rw c.in-Some.is at (c.in_ok-bytes.ensures.outcome steady)) in
    let found : has.bytes ≡ c.as_slice-held.result.now = cc in
    let held = subst (λ (b : List ℕ). IsRecord b row) found has.record_is in
    let put = c.in_ok-put.ensures in
    record {
      last_is = (
        ap (λ (l : LastData). l.is_some) put,
        subst (λ (b : List ℕ). IsRecord b row) (sym (ap (λ (l : LastData). l.bytes) put)) held,
      );
      counted = λ rows before ends last_is wide long are. c.add.ensures.counted rows before row ends last_is held wide long are;
    }
