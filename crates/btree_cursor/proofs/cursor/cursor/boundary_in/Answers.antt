use Rattle.std.proofs.Common.{◌≡◌, take, ap, arith, w64, SFits, rules}
use Rattle.std.proofs.lemmas.Int.{to_z-of_z}
use Rattle.btree.specs.declared.image.kind.TreeKind.TheVariants.{Table}
use Rattle.btree.specs.image.Layout.{cell_count, header_at}
use Rattle.btree.specs.image.Tree.{count_at}
use Rattle.btree.specs.image.Search.{row_before}
use Rattle.btree_cursor.proofs.lemmas.cursor.FrameLemmas.{frame_level, IfSome-weaker, no_view, used}
use Rattle.btree_cursor.proofs.lemmas.cursor.RowSeekLemmas.{boundary_there, has_key}
use Rattle.btree_cursor.proofs.cursor.cursor.boundary_in.Goals as goal

pub returns-clause-found : goal.returns-clause-found
returns-clause-found c = λ image level holds usable page.
    let view = c.in_ok-view.ensures.found.0.is in
    let at : c.in_ok-view.view.at ≡ header_at c.args.frame.now.number = ap (λ v. v.at) view in
    let bytes : c.in_ok-view.view.page ≡ take c.args.usable c.args.frame.now.page = ap (λ v. v.page) view in
    let same : c.in_ok-view.view.level ≡ level = frame_level image Table c.args.frame.now c.args.usable holds usable level c.in_ok-view.view.level page.header c.in_ok-view.ensures.found.0.header in
    let fits : SFits w64 c.args.key = search rules in
    IfSome-weaker c.boundary_of.result (λ p b. boundary_there image c.args.frame.now c.args.usable c.args.most holds usable level (row_before c.args.behind c.args.key) p b)
    (rw (at, bytes, same, to_z-of_z w64 c.args.key fits) at c.boundary_of.ensures.found)

pub returns-clause-within : goal.returns-clause-within
returns-clause-within c = λ image holds usable.
    let view = c.in_ok-view.ensures.found.0.is in
    let at : c.in_ok-view.view.at ≡ header_at c.args.frame.now.number = ap (λ v. v.at) view in
    let bytes : c.in_ok-view.view.page ≡ take c.args.usable c.args.frame.now.page = ap (λ v. v.page) view in
    let count : cell_count (header_at c.args.frame.now.number) (take c.args.usable c.args.frame.now.page) ≡ count_at image c.args.frame.now.number =
    ap (cell_count (header_at c.args.frame.now.number)) (used image Table c.args.frame.now c.args.usable holds usable) in
    IfSome-weaker c.boundary_of.result (λ p b. let within = b.within in omega (arith, within, count))
    (rw (at, bytes) at c.boundary_of.ensures.found)

pub returns-in_err-view-clause-sure : goal.returns-in_err-view-clause-sure
returns-in_err-view-clause-sure c = λ image level holds readable usable size page.
    absurd (no_view image Table c.args.frame.now c.args.usable holds usable readable level page.header c.in_err-view.ensures.none)

pub returns-clause-sure : goal.returns-clause-sure
returns-clause-sure c = λ image level holds readable usable size page.
    let view = c.in_ok-view.ensures.found.0.is in
    let at : c.in_ok-view.view.at ≡ header_at c.args.frame.now.number = ap (λ v. v.at) view in
    let bytes : c.in_ok-view.view.page ≡ take c.args.usable c.args.frame.now.page = ap (λ v. v.page) view in
    let same : c.in_ok-view.view.level ≡ level = frame_level image Table c.args.frame.now c.args.usable holds usable level c.in_ok-view.view.level page.header c.in_ok-view.ensures.found.0.header in
    (rw (at, bytes, same) at c.boundary_of.ensures.sure) (has_key image c.args.frame.now c.args.usable c.args.most holds usable level size page)
