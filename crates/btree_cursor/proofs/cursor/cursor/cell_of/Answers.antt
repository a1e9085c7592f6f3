use Rattle.std.proofs.Common.{◌≡◌, ◌≤◌, ℕ, length, ap, sym, ◌∙◌, subst, take, arith}
use Rattle.btree.specs.declared.image.kind.TreeKind.{TreeKind}
use Rattle.btree.specs.declared.image.kind.TreeKind.TheVariants.{Table, Index}
use Rattle.btree.specs.declared.image.kind.Level.{Level}
use Rattle.btree.specs.declared.image.kind.Level.TheVariants.{Leaf, Interior}
use Rattle.btree.specs.image.Layout.{HasHeaderAt, header_at}
use Rattle.btree.specs.image.Cell.{CellData}
use Rattle.btree.specs.image.Pages.{Pages}
use Rattle.btree_cursor.specs.declared.cursor.cursor.Frame.{Frame}
use Rattle.btree_cursor.specs.cursor.Held.{HasEntryHere, HasIndexEntryHere, HasRowHere}
use Rattle.btree.specs.image.Shape.{place_at}
use Rattle.btree.specs.Views.{cell_data}
use Rattle.btree.specs.image.Tree.{HasEntries, IsEntryAt, IsPageOf, count_at}
use Rattle.btree.proofs.CellLemmas.{IfNone-always, IfNone-weaker}
use Rattle.btree_cursor.proofs.lemmas.cursor.FrameLemmas.{no_view, has_row, has_entry, entry_found, frame_level, IfSome-weaker, IsSome-unless}
use Rattle.btree.specs.Bytes.{IsEntryCell}
use Rattle.btree.proofs.PageLemmas.{flag_of-same}
use Rattle.btree_cursor.proofs.cursor.cursor.cell_of.Goals as goal

only_leaves : (kind : TreeKind) (level : Level) → kind ≡ Table → level ≡ Interior → HasEntries kind level → ⊥
only_leaves Table Interior k l entries = entries
only_leaves Table Leaf k l entries = cc
only_leaves Index level k l entries = cc

pub returns-in_err-view-clause-sure : goal.returns-in_err-view-clause-sure
returns-in_err-view-clause-sure c = λ image level holds readable usable size page entries within.
    absurd (no_view image c.args.kind c.args.frame.now c.args.usable holds usable readable level page.header c.in_err-view.ensures.none)

no_entry_here : (kind : TreeKind) (usable most : ℕ) (frame : Frame)
    → (480 ≤ usable → usable ≤ 65536 → usable ≤ length frame.page → (level : Level) → ¬ HasHeaderAt (header_at frame.number) kind level (take usable frame.page))
    → (cell : CellData) → ¬ HasEntryHere kind usable most frame cell
no_entry_here Table usable most frame none cell h = none h.least h.greatest h.long Leaf h.header
no_entry_here Index usable most frame none cell h = none h.least h.greatest h.long h.level h.header

pub returns-in_err-view-clause-none : goal.returns-in_err-view-clause-none
returns-in_err-view-clause-none c = IfNone-always c.from_residual.result
    (no_entry_here c.args.kind c.args.usable c.args.most c.args.frame.now c.in_err-view.ensures.none)

table_leaf : (image : Pages) (kind : TreeKind) (level : Level) (n : ℕ) → kind ≡ Table → HasEntries kind level → IsPageOf image kind level n → IsPageOf image Table Leaf n
table_leaf image Table Leaf n k entries page = page
table_leaf image Table Interior n k entries page = absurd entries
table_leaf image Index level n k entries page = absurd cc

pub returns-in-Leaf-clause-sure : goal.returns-in-Leaf-clause-sure
returns-in-Leaf-clause-sure c = λ image level holds readable usable size page entries within.
    let view = c.in_ok-view.ensures.found.0.is in
    let at : c.in_ok-view.view.at ≡ header_at c.args.frame.now.number = ap (λ v. v.at) view in
    let bytes : c.in_ok-view.view.page ≡ take c.args.usable c.args.frame.now.page = ap (λ v. v.page) view in
    let count : c.args.frame.now.count ≡ count_at image c.args.frame.now.number = holds.count in
    IsSome-unless c.row.result (rw (at, bytes) at c.row.ensures.none)
    (has_row image c.args.frame.now c.args.usable holds usable c.args.most c.args.frame.now.at size (table_leaf image c.args.kind level c.args.frame.now.number c.in-Table.is entries page) (omega arith))

pub returns-in-Leaf-clause-none : goal.returns-in-Leaf-clause-none
returns-in-Leaf-clause-none c =
    let view = c.in_ok-view.ensures.found.0.is in
    let at : c.in_ok-view.view.at ≡ header_at c.args.frame.now.number = ap (λ v. v.at) view in
    let bytes : c.in_ok-view.view.page ≡ take c.args.usable c.args.frame.now.page = ap (λ v. v.page) view in
    IfNone-weaker c.row.result (λ none cell h.
    let here : HasRowHere c.args.usable c.args.most c.args.frame.now cell = subst (λ (k : TreeKind). HasEntryHere k c.args.usable c.args.most c.args.frame.now cell) c.in-Table.is h in
    none cell here.row) (rw (at, bytes) at c.row.ensures.none)

pub returns-in-Index-clause-found : goal.returns-in-Index-clause-found
returns-in-Index-clause-found c = λ image holds usable size.
    let view = c.in_ok-view.ensures.found.0.is in
    let at : c.in_ok-view.view.at ≡ header_at c.args.frame.now.number = ap (λ v. v.at) view in
    let bytes : c.in_ok-view.view.page ≡ take c.args.usable c.args.frame.now.page = ap (λ v. v.page) view in
    let header = subst (λ (k : TreeKind). HasHeaderAt (header_at c.args.frame.now.number) k c.in_ok-view.view.level (take c.args.usable c.args.frame.now.page)) c.in-Index.is c.in_ok-view.ensures.found.0.header in
    IfSome-weaker c.entry.result (λ cell entry.
    subst (λ (k : TreeKind). IsEntryAt image k (place_at c.args.frame.now.number c.args.frame.now.at) (cell_data cell)) (sym c.in-Index.is)
    (entry_found image c.args.frame.now c.args.usable holds usable c.args.most size c.in_ok-view.view.level c.args.frame.now.at (cell_data cell) header entry))
    (rw (at, bytes) at c.entry.ensures.found)

pub returns-in-Index-clause-sure : goal.returns-in-Index-clause-sure
returns-in-Index-clause-sure c = λ image level holds readable usable size page entries within.
    let view = c.in_ok-view.ensures.found.0.is in
    let at : c.in_ok-view.view.at ≡ header_at c.args.frame.now.number = ap (λ v. v.at) view in
    let bytes : c.in_ok-view.view.page ≡ take c.args.usable c.args.frame.now.page = ap (λ v. v.page) view in
    let count : c.args.frame.now.count ≡ count_at image c.args.frame.now.number = holds.count in
    let same : c.in_ok-view.view.level ≡ level = frame_level image c.args.kind c.args.frame.now c.args.usable holds usable level c.in_ok-view.view.level page.header c.in_ok-view.ensures.found.0.header in
    let own : IsPageOf image c.args.kind c.in_ok-view.view.level c.args.frame.now.number = subst (λ (l : Level). IsPageOf image c.args.kind l c.args.frame.now.number) (sym same) page in
    let here : IsPageOf image Index c.in_ok-view.view.level c.args.frame.now.number = subst (λ (k : TreeKind). IsPageOf image k c.in_ok-view.view.level c.args.frame.now.number) c.in-Index.is own in
    IsSome-unless c.entry.result (rw (at, bytes) at c.entry.ensures.none)
    (has_entry image c.args.frame.now c.args.usable holds usable c.args.most size c.in_ok-view.view.level c.args.frame.now.at here (omega arith))

pub returns-in-Index-clause-none : goal.returns-in-Index-clause-none
returns-in-Index-clause-none c =
    let view = c.in_ok-view.ensures.found.0.is in
    let header = c.in_ok-view.ensures.found.0.header in
    let at : c.in_ok-view.view.at ≡ header_at c.args.frame.now.number = ap (λ v. v.at) view in
    let bytes : c.in_ok-view.view.page ≡ take c.args.usable c.args.frame.now.page = ap (λ v. v.page) view in
    let own : HasHeaderAt (header_at c.args.frame.now.number) Index c.in_ok-view.view.level (take c.args.usable c.args.frame.now.page) =
    subst (λ (k : TreeKind). HasHeaderAt (header_at c.args.frame.now.number) k c.in_ok-view.view.level (take c.args.usable c.args.frame.now.page)) c.in-Index.is header in
    IfNone-weaker c.entry.result (λ none cell h.
    let here : HasIndexEntryHere c.args.usable c.args.most c.args.frame.now cell = subst (λ (k : TreeKind). HasEntryHere k c.args.usable c.args.most c.args.frame.now cell) c.in-Index.is h in
    let level : here.level ≡ c.in_ok-view.view.level = flag_of-same Index here.level c.in_ok-view.view.level (sym here.header.flag_is ∙ own.flag_is) in
    none cell (subst (λ (l : Level). IsEntryCell (header_at c.args.frame.now.number) c.args.most l (take c.args.usable c.args.frame.now.page) c.args.frame.now.at cell) level here.entry))
    (rw (at, bytes) at c.entry.ensures.none)
