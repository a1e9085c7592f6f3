use Rattle.std.proofs.Common.{◌<◌, ◌∙◌, rules, arith, below_more, subst, inl, inr, ⊎_elim}
use Rattle.std.proofs.lemmas.Result.{err_from_is_err_and}
use Rattle.pager.proofs.CallLemmas.{SameImage-trans}
use Rattle.btree.specs.image.Layout.{cell_count}
use Rattle.btree.specs.image.Pages.{pages_seen, Pages}
use Rattle.btree.specs.Views.{cell_data, payload_data}
use Rattle.btree.proofs.SeenLemmas.{same_pages, still_steady}
use Rattle.btree.specs.page_use.Links.{IsPayloadTwice, MarksPayload}
use Rattle.records_tables.specs.stored_rows.RowFaults.{IsCellFault, IsRowIn}
use Rattle.records_tables.specs.stored_rows.Stored.{IsRowOf}
use Rattle.records_tables.proofs.lemmas.stored_rows.LinkLemmas.{before_all, before_more, before_none, payload_then}
use Rattle.records_tables.proofs.stored_rows.rows.check_rows.Goals as goal

pub returns-in_default-clause-fault : goal.returns-in_default-clause-fault
returns-in_default-clause-fault g c = λ steady.
    let within : c.loop-i.i < cell_count c.args.view.now.at c.args.view.now.page = search rules in
    let here = c.requires.cells c.loop-i.i within in
    absurd (c.in_default.ensures.none here.1.0 here.1.1)

pub loop-i-preserved : goal.loop-i-preserved
loop-i-preserved g c =
    let inv = c.loop-i.invariant in
    let told = c.in_ok-check_row.ensures in
    record {
      stays = SameImage-trans _ _ _ inv.stays told.reads.image;
      failures = told.reads.failures ∙ inv.failures;
      rows = λ steady.
          let row = told.row (still_steady _ _ inv.stays steady) in
          below_more (λ j. IsRowIn (pages_seen c.args.pager.now.state) c.args.table.now c.args.view.now.at c.args.most c.args.view.now.page j) c.loop-i.i (inv.rows steady)
          (record { cell = _; row = row.0; here = c.in-Some.ensures.found; is = subst (λ (p : Pages). IsRowOf p c.args.table.now (cell_data c.in-Some.cell) row.0) (same_pages _ _ inv.stays) row.1; fits = row.2 });
      marks = λ steady.
          before_more _ _ _ _ _ _ c.loop-i.i (cell_data c.in-Some.cell) c.in-Some.ensures.found (search rules) _ _ _ (inv.marks steady)
          (subst (λ (p : Pages). MarksPayload p (payload_data c.in-Some.cell.payload) c.loop-i.used c.check_row.new.used) (same_pages _ _ inv.stays)
          (told.marks (still_steady _ _ inv.stays steady)));
    }

pub loop-i-init : goal.loop-i-init
loop-i-init g c = record {
  stays = search rules;
  failures = search rules;
  rows = λ steady j less. absurd (omega (arith, less));
  marks = λ steady. before_none _ _ _ _ _ _ _;
}

pub returns-clause-marks : goal.returns-clause-marks
returns-clause-marks g c = λ steady.
    before_all _ _ _ _ _ _ c.loop-i.i _ _ (search rules) (c.loop-i.invariant.marks steady)

pub returns-in_err-check_row-clause-fault : goal.returns-in_err-check_row-clause-fault
returns-in_err-check_row-clause-fault g c = λ steady.
    let inv = c.loop-i.invariant in
    let inside : c.loop-i.i < cell_count c.args.view.now.at c.args.view.now.page = search rules in
    let pages = pages_seen c.args.pager.now.state in
    let p = err_from_is_err_and c.from_residual.result c.from_residual.ensures.1 in
    rw (p.1, p.2)
    (⊎_elim inl
    (λ cause. inr (⊎_elim
    (λ (broken : IsCellFault (pages_seen c.loop-i.pager.state) c.args.table.now c.args.n (cell_data c.in-Some.cell) c.in_err-check_row.field-0.0). inl (record {
      i = c.loop-i.i;
      cell = cell_data c.in-Some.cell;
      within = inside;
      here = c.in-Some.ensures.found;
      broken = subst (λ (p : Pages). IsCellFault p c.args.table.now c.args.n (cell_data c.in-Some.cell) c.in_err-check_row.field-0.0) (same_pages _ _ inv.stays) broken;
    }))
    (λ (twice : IsPayloadTwice (pages_seen c.loop-i.pager.state) (payload_data c.in-Some.cell.payload) c.loop-i.used c.in_err-check_row.field-0.0).
    inr (payload_then pages c.args.table.now.root c.args.n c.args.view.now.at c.args.most c.args.view.now.page c.loop-i.i (cell_data c.in-Some.cell) c.in-Some.ensures.found inside
    c.args.used.now c.loop-i.used (inv.marks steady) c.in_err-check_row.field-0.0
    (subst (λ (p : Pages). IsPayloadTwice p (payload_data c.in-Some.cell.payload) c.loop-i.used c.in_err-check_row.field-0.0) (same_pages _ _ inv.stays) twice)))
    cause))
    (c.in_err-check_row.ensures.fault (still_steady _ _ inv.stays steady)))
