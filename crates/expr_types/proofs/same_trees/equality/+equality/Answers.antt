use Rattle.std.proofs.Common.{◌≡◌, map, rules, sym, ◌∙◌}
use Rattle.expr.specs.Filled.{literals}
use Rattle.expr.specs.Term.{among, answer}
use Rattle.expr.specs.View.{term, terms}
use Rattle.expr.specs.declared.tree.Expr.TheFolds.{fold-roll-Expr, fold_out-Expr}
use Rattle.expr.specs.declared.tree.Expr.TheViews.{the_lemmas}
use Rattle.expr_types.proofs.lemmas.same_trees.MemberLemmas.{list_for_answer, set_for_answer}
use Rattle.expr_types.proofs.lemmas.same_trees.SameLemmas.{trees_end, arms_end}
use Rattle.expr_types.proofs.same_trees.equality.+equality.Goals as goal

pub same_arms-returns : goal.same_arms-returns
same_arms-returns t c =
    arms_end c.args.a.now c.args.b.now c.loop-x.rest.now c.loop-x.x-index _ (search rules) c.is_empty.ensures c.loop-x.invariant

pub same_trees-returns : goal.same_trees-returns
same_trees-returns t c =
    trees_end c.args.a.now c.args.b.now c.loop-x.rest.now c.loop-x.x-index _ (search rules) c.is_empty.ensures c.loop-x.invariant

pub same_tree-returns-in-InAnswer-b : goal.same_tree-returns-in-InAnswer-b
same_tree-returns-in-InAnswer-b t c =
    let list : term c.args.a.now ≡ among (term c.in-In.x.value) (terms (map term c.in-In.items.items)) = search (rules, the_lemmas, fold-roll-Expr, fold_out-Expr) in
    let from_query : term c.args.b.now ≡ among (term c.in-InAnswer-b.field-0.value) (answer c.in-InAnswer-b.field-1) = search (rules, the_lemmas, fold-roll-Expr, fold_out-Expr) in
    ((λ f. absurd cc), (λ e. absurd (list_for_answer _ _ _ _ (sym list ∙ e ∙ from_query))))

pub same_tree-returns-in-InAnswer-b-2 : goal.same_tree-returns-in-InAnswer-b-2
same_tree-returns-in-InAnswer-b-2 t c =
    let set : term c.args.a.now ≡ among (term c.in-Member.x.value) (literals c.in-Member.set.value) = search (rules, the_lemmas, fold-roll-Expr, fold_out-Expr) in
    let from_query : term c.args.b.now ≡ among (term c.in-InAnswer-b-2.field-0.value) (answer c.in-InAnswer-b-2.field-1) = search (rules, the_lemmas, fold-roll-Expr, fold_out-Expr) in
    ((λ f. absurd cc), (λ e. absurd (set_for_answer _ _ _ _ (sym set ∙ e ∙ from_query))))

pub same_tree-returns-in-In-b-3 : goal.same_tree-returns-in-In-b-3
same_tree-returns-in-In-b-3 t c =
    let from_query : term c.args.a.now ≡ among (term c.in-InAnswer.x.value) (answer c.in-InAnswer.k) = search (rules, the_lemmas, fold-roll-Expr, fold_out-Expr) in
    let list : term c.args.b.now ≡ among (term c.in-In-b-3.field-0.value) (terms (map term c.in-In-b-3.field-1.items)) = search (rules, the_lemmas, fold-roll-Expr, fold_out-Expr) in
    ((λ f. absurd cc), (λ e. absurd (list_for_answer _ _ _ _ (sym list ∙ sym e ∙ from_query))))

pub same_tree-returns-in-Member-b-3 : goal.same_tree-returns-in-Member-b-3
same_tree-returns-in-Member-b-3 t c =
    let from_query : term c.args.a.now ≡ among (term c.in-InAnswer.x.value) (answer c.in-InAnswer.k) = search (rules, the_lemmas, fold-roll-Expr, fold_out-Expr) in
    let set : term c.args.b.now ≡ among (term c.in-Member-b-3.field-0.value) (literals c.in-Member-b-3.field-1.value) = search (rules, the_lemmas, fold-roll-Expr, fold_out-Expr) in
    ((λ f. absurd cc), (λ e. absurd (set_for_answer _ _ _ _ (sym set ∙ sym e ∙ from_query))))
