use Rattle.std.proofs.Common.{◌≡◌, ◌∙◌, ◌++◌, ◌∷◌, [], SFits, Some, ⊎_elim, ap, false, inl, inr, refl, rules, subst, sym, true, w64, ℤ}
use Rattle.std.specs.Cow.{cow_slice_items}
use Rattle.std.proofs.lemmas.Int.{to_z-of_z}
use Rattle.std.proofs.lemmas.Result.{err_from_is_err_and}
use Rattle.btree.specs.image.Pages.{pages_seen}
use Rattle.btree.specs.Views.{cell_data}
use Rattle.integrity_indexes.specs.entry_batches.Batches.{ComeBefore}
use Rattle.integrity_indexes.proofs.lemmas.row_batches.CodeLemmas.{record_here}
use Rattle.integrity_indexes.proofs.lemmas.row_batches.KeptLemmas.{one_some}
use Rattle.integrity_indexes.proofs.row_batches.runs.add_row.Goals as goal

pub returns-in_err-bytes-clause-added : goal.returns-in_err-bytes-clause-added
returns-in_err-bytes-clause-added g c = λ steady row rowid is here before.
    let p = err_from_is_err_and c.from_residual.result c.from_residual.ensures.1 in
    rw (p.1, p.2)
    (⊎_elim (λ read. read) (λ broken. absurd (broken.1 is.bytes is.whole)) (c.in_err-bytes.ensures.fault steady))

pub returns-in_err-is_row_kept-clause-added : goal.returns-in_err-is_row_kept-clause-added
returns-in_err-is_row_kept-clause-added g c = λ steady row rowid is here before.
    let p = err_from_is_err_and c.from_residual-in_err-is_row_kept.result c.from_residual-in_err-is_row_kept.ensures.1 in
    let rec = record_here (pages_seen c.args.pager.now.state) c.args.table.now (cell_data c.args.cell.now) row is (cow_slice_items c.in_ok-bytes.bytes)
    c.as_slice.result.now (c.in_ok-bytes.ensures.bytes steady) c.as_slice.ensures.value in
    rw (p.1, p.2) (c.in_err-is_row_kept.ensures.kept row rec)

pub returns-then-not-branch-clause-added : goal.returns-then-not-branch-clause-added
returns-then-not-branch-clause-added g c = λ steady row rowid is here before.
    let rec = record_here (pages_seen c.args.pager.now.state) c.args.table.now (cell_data c.args.cell.now) row is (cow_slice_items c.in_ok-bytes.bytes)
    c.as_slice.result.now (c.in_ok-bytes.ensures.bytes steady) c.as_slice.ensures.value in
    let kept = c.in_ok-is_row_kept.ensures.kept row rec in
    let fits : SFits w64 c.in-Some.rowid = search rules in
    let key = one_some rowid c.in-Some.rowid (sym here ∙ c.in-Some.is) in
    record { above = refl; last = ap Some (to_z-of_z w64 c.in-Some.rowid fits ∙ sym key); entry = inr (sym kept ∙ c.if-not-branch.true, refl, refl) }

pub returns-then-not-branch-2-clause-added : goal.returns-then-not-branch-2-clause-added
returns-then-not-branch-2-clause-added g c = λ steady row rowid is here before.
    let rec = record_here (pages_seen c.args.pager.now.state) c.args.table.now (cell_data c.args.cell.now) row is (cow_slice_items c.in_ok-bytes.bytes)
    c.as_slice-2.result.now (c.in_ok-bytes.ensures.bytes steady) c.as_slice-2.ensures.value in
    absurd (c.in_ok-write_code.ensures.none c.if-not-branch-2.true row rec)

pub returns-then-not-branch-3-clause-added : goal.returns-then-not-branch-3-clause-added
returns-then-not-branch-3-clause-added g c = λ steady row rowid is here before.
    let fits : SFits w64 c.in-Some.rowid = search rules in
    let key = one_some rowid c.in-Some.rowid (sym here ∙ c.in-Some.is) in
    let tells = rw (to_z-of_z w64 c.in-Some.rowid fits) at c.in_ok-add.ensures.above in
    absurd (let t = tells.1 (subst (λ (k : ℤ). ComeBefore k c.args.run.now.batch) key before) in
    let e : false ≡ true = sym c.if-not-branch-3.true ∙ t in cc)

pub returns-clause-added : goal.returns-clause-added
returns-clause-added g c = λ steady row rowid is here before.
    let rec = record_here (pages_seen c.args.pager.now.state) c.args.table.now (cell_data c.args.cell.now) row is (cow_slice_items c.in_ok-bytes.bytes)
    c.as_slice.result.now (c.in_ok-bytes.ensures.bytes steady) c.as_slice.ensures.value in
    let kept = c.in_ok-is_row_kept.ensures.kept row rec in
    let again = record_here (pages_seen c.args.pager.now.state) c.args.table.now (cell_data c.args.cell.now) row is (cow_slice_items c.in_ok-bytes.bytes)
    c.as_slice-2.result.now (c.in_ok-bytes.ensures.bytes steady) c.as_slice-2.ensures.value in
    let code = c.in_ok-write_code.ensures.code c.if-not-branch-2.false row again in
    let fits : SFits w64 c.in-Some.rowid = search rules in
    let key = one_some rowid c.in-Some.rowid (sym here ∙ c.in-Some.is) in
    let put = (rw (to_z-of_z w64 c.in-Some.rowid fits) at c.in_ok-add.ensures.added).0 c.if-not-branch-3.false in
    record {
      above = refl;
      last = ap Some (to_z-of_z w64 c.in-Some.rowid fits ∙ sym key);
      entry = inl (
        sym kept ∙ c.if-not-branch.false,
        refl,
        record {
          batch = put ∙ (λ k. c.args.run.now.batch ++ record { key = sym key k; code = (c.as_slice-3.ensures.value ∙ code.is) k } ∷ []);
          held = code.held;
        },
      );
    }

pub returns-in_err-is_row_kept-clause-reads : goal.returns-in_err-is_row_kept-clause-reads
returns-in_err-is_row_kept-clause-reads g c =
    let p = err_from_is_err_and c.from_residual-in_err-is_row_kept.result c.from_residual-in_err-is_row_kept.ensures.1 in
    rw (p.1, p.2)
    (record {
      image = c.in_ok-bytes.ensures.reads.chains.image;
      failures = (λ is. absurd (c.in_err-is_row_kept.ensures.unread is), λ other. absurd (other c.in_ok-bytes.ensures.reads.failures));
    })
