use Rattle.btree.specs.declared.image.kind.Level.TheVariants.{Interior}
use Rattle.std.proofs.Common.{◌≡◌, ap, take}
use Rattle.btree.specs.image.Layout.{header_at}
use Rattle.btree_cursor.proofs.lemmas.cursor.FrameLemmas.{no_view, has_child}
use Rattle.btree_cursor.proofs.cursor.cursor.child_of.Goals as goal

pub returns-in_err-view-clause-found : goal.returns-in_err-view-clause-found
returns-in_err-view-clause-found c = λ image holds readable usable count page within number.
    absurd (no_view image c.args.kind c.args.frame.now c.args.usable holds usable readable Interior page.header c.in_err-view.ensures.none)

pub returns-in_err-child-clause-found : goal.returns-in_err-child-clause-found
returns-in_err-child-clause-found c = λ image holds readable usable count page within number.
    let view = c.in_ok-view.ensures.found.0.is in
    let at : c.in_ok-view.view.at ≡ header_at c.args.frame.now.number = ap (λ v. v.at) view in
    let bytes : c.in_ok-view.view.page ≡ take c.args.usable c.args.frame.now.page = ap (λ v. v.page) view in
    absurd (has_child image c.args.kind c.args.frame.now c.args.usable holds usable c.args.i page (rw (at, bytes) at c.in_err-child.ensures.none.0) (rw (at, bytes) at c.in_err-child.ensures.none.1))
