use Rattle.std.proofs.Common.{◌<◌, inl, inr, refl, sym, ◌∙◌, ap, arith, ⊎_elim}
use Rattle.pager.specs.PagerState.{image_size}
use Rattle.pager.specs.Calls.{IsReadFault}
use Rattle.pager.proofs.CallLemmas.{IfErr-weaker}
use Rattle.btree.specs.image.Pages.{pages_seen}
use Rattle.btree.specs.image.Shape.{place_at}
use Rattle.btree.specs.image.Tree.{count_at}
use Rattle.btree.specs.Views.{cell_data}
use Rattle.btree_cursor.specs.index_entries.Entries.{BreaksCell}
use Rattle.btree_cursor.proofs.lemmas.index_entries.EntryLemmas.{count_is, cell_breaks, entry_on, has_record, no_page}
use Rattle.btree_cursor.proofs.index_entries.entries.entry_comes_before.Goals as goal

pub returns-in_default-clause-found : goal.returns-in_default-clause-found
returns-in_default-clause-found g c = λ steady values of are.
    let seen = pages_seen c.args.pager.now.state in
    let size = ap image_size (sym c.header.ensures.is) ∙ sym c.image_size-most.ensures in
    let within : c.args.i < count_at seen c.args.n = omega (arith, c.requires.within, count_is seen c.args.n c.args.view.now of) in
    absurd (no_page seen c.args.n c.args.view.now of c.image_size-most.result c.args.i size within c.in_default.ensures.none are.page)

pub returns-in_default-clause-broken : goal.returns-in_default-clause-broken
returns-in_default-clause-broken g c = λ steady of.
    let seen = pages_seen c.args.pager.now.state in
    let size = ap image_size (sym c.header.ensures.is) ∙ sym c.image_size-most.ensures in
    let within : c.args.i < count_at seen c.args.n = omega (arith, c.requires.within, count_is seen c.args.n c.args.view.now of) in
    inr (refl, no_page seen c.args.n c.args.view.now of c.image_size-most.result c.args.i size within c.in_default.ensures.none)

pub returns-clause-found : goal.returns-clause-found
returns-clause-found g c = λ steady values of are.
    let seen = pages_seen c.args.pager.now.state in
    let size = ap image_size (sym c.header.ensures.is) ∙ sym c.image_size-most.ensures in
    let within : c.args.i < count_at seen c.args.n = omega (arith, c.requires.within, count_is seen c.args.n c.args.view.now of) in
    c.cell_comes_before.ensures.found steady _
    (has_record seen c.args.n c.args.view.now of c.image_size-most.result c.args.i size (cell_data c.in-Some.cell) c.in-Some.ensures.found
    (values (place_at c.args.n c.args.i)) (are.each c.args.i within))

pub returns-clause-broken : goal.returns-clause-broken
returns-clause-broken g c = λ steady of.
    let seen = pages_seen c.args.pager.now.state in
    let size = ap image_size (sym c.header.ensures.is) ∙ sym c.image_size-most.ensures in
    let within : c.args.i < count_at seen c.args.n = omega (arith, c.requires.within, count_is seen c.args.n c.args.view.now of) in
    let on = entry_on seen c.args.n c.args.view.now of c.image_size-most.result c.args.i size (cell_data c.in-Some.cell) c.in-Some.ensures.found in
    IfErr-weaker c.cell_comes_before.result
    (λ e broken. ⊎_elim (λ (read : IsReadFault e). inl read)
    (λ (cell : BreaksCell seen c.args.n (cell_data c.in-Some.cell) e).
    inr (cell_breaks seen c.args.view.now.level c.args.n c.args.i (cell_data c.in-Some.cell) within on e cell))
    broken) (c.cell_comes_before.ensures.broken steady)
