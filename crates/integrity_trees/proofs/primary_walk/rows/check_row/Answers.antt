use Rattle.std.proofs.Common.{◌≡◌, ℕ, List, subst}
use Rattle.std.proofs.lemmas.Result.{err_from_is_err_and}
use Rattle.std.specs.Cow.{cow_slice_items}
use Rattle.records.specs.Record.{IsRecord}
use Rattle.btree.specs.image.Pages.{pages_seen}
use Rattle.btree.proofs.lemmas.image.ChainLemmas.{one_payload}
use Rattle.integrity_trees.proofs.lemmas.primary_walk.RowLemmas.{of_values}
use Rattle.integrity_trees.proofs.primary_walk.rows.check_row.Goals as goal

pub returns-in_default-clause-fault : goal.returns-in_default-clause-fault
returns-in_default-clause-fault g c = λ steady values has.
    absurd ((rw c.in_default.is at (c.in_ok-bytes.ensures.outcome steady)) has.bytes has.whole)

pub returns-in_err-check_primary_row-clause-fault : goal.returns-in_err-check_primary_row-clause-fault
returns-in_err-check_primary_row-clause-fault g c = λ steady values has.
    let same : has.bytes ≡ cow_slice_items c.in-Some.bytes =
    one_payload (pages_seen c.args.pager.now.state) _ _ _ has.whole (rw c.in-Some.is at (c.in_ok-bytes.ensures.outcome steady)) in
    let found : has.bytes ≡ c.as_slice.result.now = cc in
    let p = err_from_is_err_and c.from_residual-in_err-check_primary_row.result c.from_residual-in_err-check_primary_row.ensures.1 in
    rw (p.1, p.2)
    (of_values c.args.table.now c.as_slice.result.now values c.args.n (subst (λ (b : List ℕ). IsRecord b values) found has.record_is)
    c.in_err-check_primary_row.field-0.0 c.in_err-check_primary_row.ensures.fault)

pub returns-clause-row : goal.returns-clause-row
returns-clause-row g c =
    let told = c.in_ok-check_primary_row.ensures.row in
    let found : c.as_slice.result.now ≡ cow_slice_items c.in-Some.bytes = cc in (
      told.0,
      told.2,
      λ steady. record {
        bytes = cow_slice_items c.in-Some.bytes;
        whole = rw c.in-Some.is at (c.in_ok-bytes.ensures.outcome steady);
        record_is = subst (λ (b : List ℕ). IsRecord b told.0) found told.1;
      },
    )
