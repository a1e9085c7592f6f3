use Rattle.std.proofs.Common.{◌<◌, ◌∙◌, ap, arith, rules, sym}
use Rattle.std.specs.Cow.{cow_slice_items}
use Rattle.pager.specs.PagerState.{image_size}
use Rattle.btree.specs.image.Pages.{pages_seen}
use Rattle.btree.specs.image.Shape.{place_at}
use Rattle.btree.specs.image.Tree.{count_at}
use Rattle.btree.specs.Views.{cell_data}
use Rattle.btree_cursor.proofs.lemmas.index_entries.EntryLemmas.{count_is, has_chain, has_record, no_page, record_read}
use Rattle.integrity_indexes.proofs.index_batches.entries.is_entry_placed.Goals as goal

pub returns-in_default-clause-placed : goal.returns-in_default-clause-placed
returns-in_default-clause-placed g c = λ steady values of are.
    let seen = pages_seen c.args.pager.now.state in
    let size = ap image_size (sym c.header.ensures.is) ∙ sym c.image_size-most.ensures in
    let within : c.args.i < count_at seen c.args.n = omega (arith, c.requires.within, count_is seen c.args.n c.args.view.now of) in
    absurd (no_page seen c.args.n c.args.view.now of c.image_size-most.result c.args.i size within c.in_default.ensures.none are.page)

pub returns-in_default-2-clause-placed : goal.returns-in_default-2-clause-placed
returns-in_default-2-clause-placed g c = λ steady values of are.
    let seen = pages_seen c.args.pager.now.state in
    let size = ap image_size (sym c.header.ensures.is) ∙ sym c.image_size-most.ensures in
    let within : c.args.i < count_at seen c.args.n = omega (arith, c.requires.within, count_is seen c.args.n c.args.view.now of) in
    let has = has_record seen c.args.n c.args.view.now of c.image_size-most.result c.args.i size (cell_data c.in-Some.cell) c.in-Some.ensures.found
    (values (place_at c.args.n c.args.i)) (are.each c.args.i within) in
    absurd (has_chain seen (cell_data c.in-Some.cell) (values (place_at c.args.n c.args.i)) has (rw c.in_default-2.is at (c.in_ok-bytes.ensures.outcome steady)))

pub returns-clause-placed : goal.returns-clause-placed
returns-clause-placed g c = λ steady values of are.
    let seen = pages_seen c.args.pager.now.state in
    let size = ap image_size (sym c.header.ensures.is) ∙ sym c.image_size-most.ensures in
    let within : c.args.i < count_at seen c.args.n = omega (arith, c.requires.within, count_is seen c.args.n c.args.view.now of) in
    let has = has_record seen c.args.n c.args.view.now of c.image_size-most.result c.args.i size (cell_data c.in-Some.cell) c.in-Some.ensures.found
    (values (place_at c.args.n c.args.i)) (are.each c.args.i within) in
    let is = record_read seen (cell_data c.in-Some.cell) (values (place_at c.args.n c.args.i)) (cow_slice_items c.in-Some-2.bytes) c.as_slice.result.now has
    (rw c.in-Some-2.is at (c.in_ok-bytes.ensures.outcome steady)) (search rules) in
    c.in_ok-is_placed.ensures _ is
