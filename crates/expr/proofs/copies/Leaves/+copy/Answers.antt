use Rattle.std.proofs.Common.{◌≡◌, ◌∙◌, List, map, ap, sym, arith, rules}
use Rattle.std.proofs.lemmas.List.{take_all}
use Rattle.values.specs.Datum.{Datum}
use Rattle.expr.specs.CopyView.{copied}
use Rattle.expr.specs.Filled.{literals}
use Rattle.expr.specs.Term.{among}
use Rattle.expr.specs.View.{arms, arm_terms, term, terms}
use Rattle.expr.specs.declared.tree.Expr.TheFolds.{fold-roll-Expr, fold_out-Expr}
use Rattle.expr.specs.declared.tree.Expr.TheViews.{Member, the_lemmas}
use Rattle.expr.proofs.CopyLemmas.{all_are_copied, arms_are_copied, copied_arm, firsts_are_copied, literals_are_copied}
use Rattle.expr.proofs.copies.Leaves.+copy.Goals as goal

pub copy-returns-in_ok-set_copy-in-Member : goal.copy-returns-in_ok-set_copy-in-Member
copy-returns-in_ok-set_copy-in-Member t c =
    let x = term c.in-Member.x.value in
    let vs : List Datum = c.in-Member.set.value in
    let member : term c.args.e.now ≡ among x (literals vs) = search (rules, the_lemmas, fold-roll-Expr, fold_out-Expr) in
    let made : term (Member c.in_ok-boxed-in-Member.field-0 c.in_ok-set_copy-in-Member.field-0) ≡ among (copied c.args.self x) (literals vs) =
    search (rules, the_lemmas, fold-roll-Expr, fold_out-Expr) in
    made ∙ ap (among (copied c.args.self x)) (sym (literals_are_copied c.args.self vs)) ∙ ap (copied c.args.self) (sym member)

pub copy_all-returns-clause-all : goal.copy_all-returns-clause-all
copy_all-returns-clause-all t c =
    let end = c.loop-item-test.false in
    let all = take_all c.loop-item.item-index c.args.items.now (omega (arith, end)) in
    ap terms (c.loop-item.invariant ∙ ap (λ items. map (copied c.args.self) (map term items)) all)
    ∙ all_are_copied c.args.self (map term c.args.items.now)

pub copy_all-returns-clause-firsts : goal.copy_all-returns-clause-firsts
copy_all-returns-clause-firsts t c =
    let end = c.loop-item-test.false in
    let all = take_all c.loop-item.item-index c.args.items.now (omega (arith, end)) in
    ap terms (c.loop-item.invariant ∙ ap (λ items. map (copied c.args.self) (map term items)) all)
    ∙ firsts_are_copied c.args.self (map term c.args.items.now)

pub copy_arms-returns : goal.copy_arms-returns
copy_arms-returns t c =
    let end = c.loop-arm-test.false in
    let all = take_all c.loop-arm.arm-index c.args.arms.now (omega (arith, end)) in
    ap arms (c.loop-arm.invariant ∙ ap (λ rest. map (copied_arm c.args.self) (map arm_terms rest)) all)
    ∙ arms_are_copied c.args.self (map arm_terms c.args.arms.now)
