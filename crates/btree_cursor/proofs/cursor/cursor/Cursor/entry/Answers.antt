use Rattle.std.proofs.Common.{◌≡◌, ◌<◌, Option, Some, inr, sym, subst}
use Rattle.btree.specs.declared.image.kind.TreeKind.{TreeKind}
use Rattle.btree.specs.image.Shape.{place_at}
use Rattle.btree.specs.image.Tree.{IsEntryAt}
use Rattle.btree_cursor.specs.declared.cursor.cursor.Frame.{Frame}
use Rattle.btree_cursor.specs.cursor.Held.{HasEntryHere}
use Rattle.btree_cursor.specs.cursor.Rest.{IsStanding}
use Rattle.btree.specs.Views.{cell_data}
use Rattle.btree_cursor.specs.cursor.Left.{all_left}
use Rattle.btree_cursor.proofs.lemmas.cursor.LeftLemmas.{some_left}
use Rattle.btree_cursor.proofs.lemmas.cursor.ListingLemmas.{entry_is, no_entry}
use Rattle.btree_cursor.proofs.lemmas.cursor.RestLemmas.{standing_known}
use Rattle.btree_cursor.proofs.lemmas.cursor.StandLemmas.{stands_entries}
use Rattle.btree_cursor.proofs.cursor.cursor.Cursor.entry.Goals as goal

pub returns-then-here-clause-entry : goal.returns-then-here-clause-entry
returns-then-here-clause-entry c = λ image kind levels places asked budget at.
    let l = at.here_is in
    let same : at.here ≡ c.in-Some.here = cc in
    no_entry image kind levels c.args.self.now.frames.items c.in-Some.here places asked budget
    (subst (λ (x : Frame). IsStanding image kind levels c.args.self.now.frames.items x places asked budget) same at.stands) c.if-here.true

pub returns-in_default-cell_of-clause-entry : goal.returns-in_default-cell_of-clause-entry
returns-in_default-cell_of-clause-entry c = λ image kind levels places asked budget at.
    let l = at.here_is in
    let same : at.here ≡ c.in-Some.here = cc in
    let frames = c.args.self.now.frames.items in
    let stands = subst (λ (x : Frame). IsStanding image kind levels frames x places asked budget) same at.stands in
    let own = subst (λ (k : TreeKind). IsStanding image k levels frames c.in-Some.here places asked budget) (sym at.kind_is) stands in
    let known = standing_known image c.args.self.now.kind levels frames c.in-Some.here places asked budget own c.if-here.false in
    let some = c.in_default-cell_of.ensures.sure image c.in-Some.here.level known.holds at.readable at.usable at.most known.page known.entries c.if-here.false in
    absurd (cc)

pub returns-clause-entry : goal.returns-clause-entry
returns-clause-entry c = λ image kind levels places asked budget at.
    let l = at.here_is in
    let same : at.here ≡ c.in-Some.here = cc in
    let frames = c.args.self.now.frames.items in
    let stands = subst (λ (x : Frame). IsStanding image kind levels frames x places asked budget) same at.stands in
    let known = standing_known image kind levels frames c.in-Some.here places asked budget stands c.if-here.false in
    entry_is image kind levels frames c.in-Some.here places asked budget stands (cell_data c.in-Some-cell_of.cell) c.if-here.false
    (subst (λ (k : TreeKind). IsEntryAt image k (place_at c.in-Some.here.number c.in-Some.here.at) (cell_data c.in-Some-cell_of.cell)) at.kind_is
    (c.in-Some-cell_of.ensures.found image known.holds at.usable at.most))

pub returns-clause-outcome : goal.returns-clause-outcome
returns-clause-outcome c =
    let is : c.args.self.now.here ≡ Some c.in-Some.here = cc in (
      subst (λ (x : Option Frame). 0 < all_left c.args.self.now.frames.items x) (sym is) (some_left c.args.self.now.frames.items c.in-Some.here c.if-here.false),
      λ here here_is.
          let same : c.in-Some.here ≡ here = cc in
          subst (λ (x : Frame). HasEntryHere c.args.self.now.kind c.args.self.now.usable c.args.self.now.most x (cell_data c.in-Some-cell_of.cell)) same
          c.in-Some-cell_of.ensures.held,
    )

pub returns-in_default-cell_of-clause-cause : goal.returns-in_default-cell_of-clause-cause
returns-in_default-cell_of-clause-cause c = λ image come over.
    let here : c.args.self.now.here ≡ Some c.in-Some.here = cc in
    let s = (come c.in-Some.here here).stands in
    inr (
      s.depth,
      s.met,
      λ sound.
          let level = sound.1.level in
          let some = c.in_default-cell_of.ensures.sure image level s.holds over.readable over.usable over.most sound.1.page
          (stands_entries image c.args.self.now.kind c.args.self.now.root c.in-Some.here s level sound.1.page) c.if-here.false in
          absurd (cc),
    )
