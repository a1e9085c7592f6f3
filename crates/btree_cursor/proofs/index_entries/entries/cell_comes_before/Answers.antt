use Rattle.std.proofs.Common.{inr, refl, rules}
use Rattle.std.specs.Cow.{cow_slice_items}
use Rattle.pager.proofs.CallLemmas.{IfErr-weaker}
use Rattle.btree.specs.image.Pages.{pages_seen}
use Rattle.btree.specs.Views.{cell_data}
use Rattle.btree_cursor.proofs.lemmas.index_entries.EntryLemmas.{has_chain, record_broken, record_read}
use Rattle.btree_cursor.proofs.index_entries.entries.cell_comes_before.Goals as goal

pub returns-in_default-clause-found : goal.returns-in_default-clause-found
returns-in_default-clause-found g c = λ steady values has.
    absurd (has_chain (pages_seen c.args.pager.now.state) (cell_data c.args.cell.now) values has (rw c.in_default.is at (c.in_ok-bytes.ensures.outcome steady)))

pub returns-in_default-clause-broken : goal.returns-in_default-clause-broken
returns-in_default-clause-broken g c = λ steady. inr (refl, rw c.in_default.is at (c.in_ok-bytes.ensures.outcome steady))

pub returns-clause-found : goal.returns-clause-found
returns-clause-found g c = λ steady values has.
    let is = record_read (pages_seen c.args.pager.now.state) (cell_data c.args.cell.now) values (cow_slice_items c.in-Some.bytes) c.as_slice.result.now has
    (rw c.in-Some.is at (c.in_ok-bytes.ensures.outcome steady)) (search rules) in
    rw (c.record_comes_before.ensures.found _ is) refl

pub returns-clause-broken : goal.returns-clause-broken
returns-clause-broken g c = λ steady.
    IfErr-weaker c.record_comes_before.result
    (λ e broken. record_broken (pages_seen c.args.pager.now.state) (cell_data c.args.cell.now) c.args.n (cow_slice_items c.in-Some.bytes) c.as_slice.result.now
    (rw c.in-Some.is at (c.in_ok-bytes.ensures.outcome steady)) (search rules) e broken)
    c.record_comes_before.ensures.broken
