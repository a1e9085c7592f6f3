use Rattle.std.proofs.Common.{◌≡◌, ◌<◌, ◌∙◌, sym, ap, rules}
use Rattle.pager.specs.Header.{field}
use Rattle.btree.specs.image.Layout.{cell_count, cell_place}
use Rattle.btree.specs.declared.image.kind.Level.TheVariants.{Interior}
use Rattle.btree.proofs.PageLemmas.{child-right, child-left}
use Rattle.btree.proofs.page.PageView.child.Goals as goal

pub returns-then-i-count-clause-found : goal.returns-then-i-count-clause-found
returns-then-i-count-clause-found c =
    let is : c.args.i ≡ cell_count c.self.inside.at c.self.inside.bytes.now = rw (← c.self.view_is) at (c.if-i-count.true ∙ c.count.ensures) in
    rw (← c.self.view_is) (c.word.ensures ∙ sym (child-right c.self.inside.at c.self.inside.bytes.now c.args.i is))

pub returns-clause-found : goal.returns-clause-found
returns-clause-found c =
    let within : c.args.i < cell_count c.self.inside.at c.self.inside.bytes.now = search rules in
    let place : c.place_of-place.result ≡ cell_place c.self.inside.at Interior c.self.inside.bytes.now c.args.i = search rules in
    rw (← c.self.view_is) (c.word-2.ensures ∙ ap (λ p. field c.self.inside.bytes.now p 4) place ∙ sym (child-left c.self.inside.at c.self.inside.bytes.now c.args.i within))
