use Rattle.std.proofs.Common.{◌<◌, inl, inr, refl, sym, ◌∙◌, ap, arith, rules, ⊎_elim}
use Rattle.std.proofs.lemmas.Result.{err_from_is_err_and}
use Rattle.std.specs.Cow.{cow_slice_items}
use Rattle.pager.specs.PagerState.{image_size}
use Rattle.btree.specs.image.Pages.{pages_seen}
use Rattle.btree.specs.image.Tree.{count_at}
use Rattle.btree.specs.Views.{cell_data}
use Rattle.btree_cursor.proofs.lemmas.index_entries.EntryLemmas.{count_is, entry_on, no_page}
use Rattle.integrity_trees.proofs.lemmas.index_walk.EntryLemmas.{entry_broken, entry_read}
use Rattle.integrity_trees.proofs.index_walk.entries.entry_record.Goals as goal

pub returns-in_default-clause-fault : goal.returns-in_default-clause-fault
returns-in_default-clause-fault g c = λ steady of.
    let seen = pages_seen c.args.pager.now.state in
    let size = ap image_size (sym c.header.ensures.is) ∙ sym c.image_size-most.ensures in
    let within : c.args.i < count_at seen c.args.n = omega (arith, c.requires.cell.within, count_is seen c.args.n c.args.view.now of) in
    inr (inl (inl (refl, no_page seen c.args.n c.args.view.now of c.image_size-most.result c.args.i size within c.in_default.ensures.none)))

pub returns-in_err-bytes-clause-fault : goal.returns-in_err-bytes-clause-fault
returns-in_err-bytes-clause-fault g c = λ steady of.
    let seen = pages_seen c.args.pager.now.state in
    let size = ap image_size (sym c.header.ensures.is) ∙ sym c.image_size-most.ensures in
    let p = err_from_is_err_and c.from_residual.result c.from_residual.ensures.1 in
    rw (p.1, p.2)
    (⊎_elim inl
    (λ twice. inr (inr (record {
      cell = cell_data c.in-Some.cell;
      is = entry_on seen c.args.n c.args.view.now of c.image_size-most.result c.args.i size (cell_data c.in-Some.cell) c.in-Some.ensures.found;
      twice = twice;
    })))
    (c.in_err-bytes.ensures.fault steady))

pub returns-in_default-2-clause-fault : goal.returns-in_default-2-clause-fault
returns-in_default-2-clause-fault g c = λ steady of.
    let seen = pages_seen c.args.pager.now.state in
    let size = ap image_size (sym c.header.ensures.is) ∙ sym c.image_size-most.ensures in
    let within : c.args.i < count_at seen c.args.n = omega (arith, c.requires.cell.within, count_is seen c.args.n c.args.view.now of) in
    inr (inl (inl (
      refl,
      record {
        i = c.args.i;
        cell = cell_data c.in-Some.cell;
        within = within;
        is = entry_on seen c.args.n c.args.view.now of c.image_size-most.result c.args.i size (cell_data c.in-Some.cell) c.in-Some.ensures.found;
        such = rw c.in_default-2.is at (c.in_ok-bytes.ensures.bytes steady);
      },
    )))

pub returns-in_err-check_record-clause-fault : goal.returns-in_err-check_record-clause-fault
returns-in_err-check_record-clause-fault g c = λ steady of.
    let seen = pages_seen c.args.pager.now.state in
    let size = ap image_size (sym c.header.ensures.is) ∙ sym c.image_size-most.ensures in
    let within : c.args.i < count_at seen c.args.n = omega (arith, c.requires.cell.within, count_is seen c.args.n c.args.view.now of) in
    let p = err_from_is_err_and c.from_residual-in_err-check_record.result c.from_residual-in_err-check_record.ensures.1 in
    rw (p.1, p.2)
    (entry_broken seen c.args.n c.args.view.now of c.image_size-most.result c.args.i size (cell_data c.in-Some.cell) c.in-Some.ensures.found c.args.widths
    within (cow_slice_items c.in-Some-2.bytes) c.as_slice.result.now (rw c.in-Some-2.is at (c.in_ok-bytes.ensures.bytes steady)) (search rules)
    c.in_err-check_record.field-0.0 c.in_err-check_record.ensures.fault c.args.used.now)

pub returns-clause-entry : goal.returns-clause-entry
returns-clause-entry g c = λ steady of.
    let seen = pages_seen c.args.pager.now.state in
    let size = ap image_size (sym c.header.ensures.is) ∙ sym c.image_size-most.ensures in
    entry_read seen c.args.n c.args.view.now of c.image_size-most.result c.args.i size (cell_data c.in-Some.cell) c.in-Some.ensures.found c.args.widths
    (cow_slice_items c.in-Some-2.bytes) c.as_slice.result.now (rw c.in-Some-2.is at (c.in_ok-bytes.ensures.bytes steady)) (search rules) c.in_ok-check_record.ensures.found
    c.args.used.now c.payload.new.used (rw c.in-Some-2.is at (c.in_ok-bytes.ensures.marks steady))
