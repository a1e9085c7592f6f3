use Rattle.std.proofs.Common.{◌≡◌, ◌∙◌, List, ap, map, sym, take}
use Rattle.std.proofs.lemmas.List.{take_all}
use Rattle.expr.specs.Filled.{literal_value, literals}
use Rattle.expr.specs.View.{term, terms}
use Rattle.expr.specs.declared.tree.Expr.{Expr}
use Rattle.expr.proofs.MemberLemmas.{literal_terms}
use Rattle.expr.proofs.tree.are_literals.Goals as goal

pub returns : goal.returns
returns c = λ all.
    let taken = take c.loop-item.item-index c.args.items.now in
    let whole : taken ≡ c.args.items.now = take_all c.loop-item.item-index c.args.items.now c.loop-item-test.false in
    ap (λ (es : List Expr). terms (map term es)) (sym whole) ∙ ap terms c.loop-item.invariant ∙ literal_terms taken
    ∙ ap (λ (es : List Expr). literals (map (λ e. literal_value (term e)) es)) whole
