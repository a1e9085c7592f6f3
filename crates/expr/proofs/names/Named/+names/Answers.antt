use Rattle.std.proofs.Common.{rules, ◌≡◌, ◌∙◌, ◌++◌, ℕ, List, [], ◌∷◌, OnOk, Result, refl, ap, subst, sym}
use Rattle.expr.specs.NameView.{names_of, names_of_all, names_of_arms}
use Rattle.expr.specs.Contract.{arm_trees}
use Rattle.expr.specs.Filled.{literals}
use Rattle.expr.specs.View.{term}
use Rattle.expr.specs.declared.tree.Expr.TheFolds.{fold-roll-Expr, fold_out-Expr}
use Rattle.expr.specs.declared.tree.Expr.TheViews.{the_lemmas}
use Rattle.expr.proofs.MemberLemmas.{member_names}
use Rattle.expr.proofs.names.Named.+names.Goals as goal

assoc : (xs ys zs : List ℕ) → (xs ++ ys) ++ zs ≡ xs ++ (ys ++ zs)
assoc [] ys zs = refl
assoc (x ∷ xs) ys zs = ap (λ l. x ∷ l) (assoc xs ys zs)

-- what one part names, and then another
both_named : {T E : Type 0} (r : Result T E) (old first last one two whole : List ℕ) → first ≡ old ++ one → OnOk r (last ≡ first ++ two) → whole ≡ one ++ two
    → OnOk r (last ≡ old ++ whole)
both_named r old first last one two whole e h parts =
    subst (λ named. OnOk r (last ≡ named)) (ap (λ named. named ++ two) e ∙ assoc old one two ∙ ap (λ named. old ++ named) (sym parts)) h

pub push-returns-in-Member : goal.push-returns-in-Member
push-returns-in-Member t c =
    let parts : names_of c.args.self (term c.args.expr.now) ≡ names_of c.args.self (term c.deref-in-Member.result.now) ++ names_of_all c.args.self (literals c.in-Member.field-1.value) = search (rules, the_lemmas, fold-roll-Expr, fold_out-Expr) in
    subst (λ named. OnOk c.push-in-Member.result (c.push-in-Member.new.out.items ≡ c.args.out.now.items ++ named))
    (sym (parts ∙ member_names c.args.self (term c.deref-in-Member.result.now) c.in-Member.field-1.value)) c.push-in-Member.ensures

pub push-returns-in_ok-push_arms-in-Case-None-default-default :
    goal.push-returns-in_ok-push_arms-in-Case-None-default-default
push-returns-in_ok-push_arms-in-Case-None-default-default t c =
    let arms = names_of_arms c.args.self (arm_trees c.deref-in-Case-None-default-default.result.now) in
    let last = names_of c.args.self (term c.deref-in-Case-None-default-default-2.result.now) in
    let parts : names_of c.args.self (term c.args.expr.now) ≡ names_of_arms c.args.self (arm_trees c.deref-in-Case-None-default-default.result.now) ++ names_of c.args.self (term c.deref-in-Case-None-default-default-2.result.now) = search (rules, the_lemmas, fold-roll-Expr, fold_out-Expr) in
    both_named c.push-in-Case-None-default-default.result c.args.out.now.items c.push_arms.new.out.items c.push-in-Case-None-default-default.new.out.items
    arms last (names_of c.args.self (term c.args.expr.now)) c.in_ok-push_arms-in-Case-None-default-default.ensures c.push-in-Case-None-default-default.ensures parts

pub push-returns-in_ok-push_arms-in-Case-Some-default-default :
    goal.push-returns-in_ok-push_arms-in-Case-Some-default-default
push-returns-in_ok-push_arms-in-Case-Some-default-default t c =
    let first = names_of c.args.self (term c.deref-in-Case-Some-default-default.result.now) in
    let arms = names_of_arms c.args.self (arm_trees c.deref-in-Case-Some-default-default-2.result.now) in
    let last = names_of c.args.self (term c.deref-in-Case-Some-default-default-3.result.now) in
    let old = c.args.out.now.items in
    let one = c.push-in-Case-Some-default-default.new.out.items in
    let two = c.push_arms-in-Case-Some-default-default.new.out.items in
    let three = c.push-in-Case-Some-default-default-2.new.out.items in
    let r = c.push-in-Case-Some-default-default-2.result in
    let parts : names_of c.args.self (term c.args.expr.now) ≡ names_of c.args.self (term c.deref-in-Case-Some-default-default.result.now) ++ (names_of_arms c.args.self (arm_trees c.deref-in-Case-Some-default-default-2.result.now) ++ names_of c.args.self (term c.deref-in-Case-Some-default-default-3.result.now)) = search (rules, the_lemmas, fold-roll-Expr, fold_out-Expr) in
    both_named r old one three first (arms ++ last) (names_of c.args.self (term c.args.expr.now)) c.in_ok-push-in-Case-Some-default-default.ensures
    (both_named r one two three arms last (arms ++ last) c.in_ok-push_arms-in-Case-Some-default-default.ensures c.push-in-Case-Some-default-default-2.ensures refl) parts

pub push-returns-in_ok-push-in-Arithmetic : goal.push-returns-in_ok-push-in-Arithmetic
push-returns-in_ok-push-in-Arithmetic t c =
    let parts : names_of c.args.self (term c.args.expr.now) ≡ names_of c.args.self (term c.deref-in-Arithmetic.result.now) ++ names_of c.args.self (term c.deref-in-Arithmetic-2.result.now) = search (rules, the_lemmas, fold-roll-Expr, fold_out-Expr) in
    both_named c.push-in-Arithmetic-2.result c.args.out.now.items c.push-in-Arithmetic.new.out.items c.push-in-Arithmetic-2.new.out.items
    (names_of c.args.self (term c.deref-in-Arithmetic.result.now)) (names_of c.args.self (term c.deref-in-Arithmetic-2.result.now)) (names_of c.args.self (term c.args.expr.now))
    c.in_ok-push-in-Arithmetic.ensures c.push-in-Arithmetic-2.ensures parts
