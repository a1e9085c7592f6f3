-- Expressions that are written alike are one term.
use Rattle.std.proofs.Common.{◌≡◌, ◌∷◌, ℕ, List, Some, Result, Ok, Err, ap, ap₂, refl, sym, ◌∙◌}
use Rattle.values.specs.declared.fault.Fault.{Fault}
use Rattle.values.specs.declared.fault.Fault.TheVariants.{WrongPlace}
use Rattle.expr.specs.Term.{Term}
use Rattle.sql_reader_syntax.specs.ExprTree.{ArmTrees, ExprTree, ExprTrees, MaybeExpr}
use Rattle.sql_reader_syntax.specs.declared.expr.PrefixOperator.TheVariants as prefixes
use Rattle.semantics_names.specs.Expression.{Answers, InnerTree, among_answer, among_items, arms_of, between_bounds, binary, called, case, operand_of, otherwise_of, postfix, prefix, term_of, terms_of}
use Rattle.semantics_names.specs.Laws.{NameIsColumn}
use Rattle.semantics_names.specs.Outcome.{also, both, chosen, followed}
use Rattle.semantics_names.specs.Places.{columns_say}
use Rattle.semantics_names.specs.Scope.{Scope, bare_term, column_of, shown_places}
use Rattle.semantics_refusals.specs.Alike.{AlikeIsOfGroupBy, AreAlike, ArmsAlike, IsAlike, MaybeAlike}

-- the term of the column at these places
abbrev the_column : List ℕ → Result Term Fault
the_column places = Ok (bare_term places)

abbrev known : Result Term Fault → Result Term Fault
known r = chosen (also Some r) (Err WrongPlace)

plus_same : (r : Result Term Fault) → also (prefix prefixes.Plus) r ≡ r
plus_same (Ok t) = refl
plus_same (Err fault) = refl

module _ (names : NameIsColumn) (answers : Answers) (scope : Scope) where
  abbrev term : ExprTree → Result Term Fault
  term e = term_of answers (columns_say scope) e

  abbrev terms : ExprTrees → Result (List Term) Fault
  terms es = terms_of answers (columns_say scope) es

  mutual
    alike_same : {e other : ExprTree} → IsAlike scope e other → term e ≡ term other
    alike_same IsAlike.itself = refl
    alike_same (IsAlike.column {table = table} {other_table = other_table} {name = name} {other_name = other_name} are) =
        let one : column_of scope table name ≡ the_column (shown_places table are.at are.shown) =
        (names scope table name (bare_term (shown_places table are.at are.shown))).1 (are.at, are.shown, are.one, refl) in
        let other : column_of scope other_table other_name ≡ the_column (shown_places other_table are.other_at are.other_shown) =
        (names scope other_table other_name (bare_term (shown_places other_table are.other_at are.other_shown))).1
        (are.other_at, are.other_shown, are.other, refl) in
        ap known (one ∙ ap the_column are.same ∙ sym other)
    alike_same (IsAlike.signed {x = x} is) = plus_same (term x) ∙ alike_same is
    alike_same (IsAlike.unsigned {y = y} is) = alike_same is ∙ sym (plus_same (term y))
    alike_same (IsAlike.prefix {op = op} is) = ap (also (prefix op)) (alike_same is)
    alike_same (IsAlike.binary {op = op} left right) = ap₂ (both (binary op)) (alike_same left) (alike_same right)
    alike_same (IsAlike.postfix {op = op} is) = ap (also (postfix op)) (alike_same is)
    alike_same (IsAlike.between {not = not} {x = x} {low = low} {high = high} {y = y} {lower = lower} {upper = upper} is below above) =
        ap (λ r. followed r (λ t. both (between_bounds not t) (term low) (term high))) (alike_same is)
        ∙ ap₂ (λ l h. followed (term y) (λ t. both (between_bounds not t) l h)) (alike_same below) (alike_same above)
    alike_same (IsAlike.among {not = not} is are) = ap₂ (both (among_items not)) (alike_same is) (all_same are)
    alike_same (IsAlike.among_query {not = not} {query = query} is) =
        ap (λ r. both (among_answer not) r (answers (InnerTree.values_in query))) (alike_same is)
    alike_same (IsAlike.call {function = function} {after = after} are) = ap (λ r. followed r (called after function)) (all_same are)
    alike_same (IsAlike.case {operand = operand} {other = other} {arms = arms} {others = others} {otherwise = otherwise} {last = last} is are ends) =
        ap (λ r. followed r (λ x. both (case x) (arms_of answers (columns_say scope) arms) (otherwise_of answers (columns_say scope) otherwise)))
        (operand_same is)
        ∙ ap₂ (λ a o. followed (operand_of answers (columns_say scope) other) (λ x. both (case x) a o)) (arms_same are) (otherwise_same ends)

    all_same : {es others : ExprTrees} → AreAlike scope es others → terms es ≡ terms others
    all_same AreAlike.none = refl
    all_same (AreAlike.more is are) = ap₂ (both ◌∷◌) (alike_same is) (all_same are)

    operand_same : {m other : MaybeExpr} → MaybeAlike scope m other
        → operand_of answers (columns_say scope) m ≡ operand_of answers (columns_say scope) other
    operand_same MaybeAlike.absent = refl
    operand_same (MaybeAlike.present is) = ap (also Some) (alike_same is)

    otherwise_same : {m other : MaybeExpr} → MaybeAlike scope m other
        → otherwise_of answers (columns_say scope) m ≡ otherwise_of answers (columns_say scope) other
    otherwise_same MaybeAlike.absent = refl
    otherwise_same (MaybeAlike.present is) = alike_same is

    arms_same : {arms others : ArmTrees} → ArmsAlike scope arms others → arms_of answers (columns_say scope) arms ≡ arms_of answers (columns_say scope) others
    arms_same ArmsAlike.no_arm = refl
    arms_same (ArmsAlike.arm test value are) =
        ap₂ (both ◌∷◌) (ap₂ (both (λ c e. (c, e))) (alike_same test) (alike_same value)) (arms_same are)

pub alike_is_of_group_by : NameIsColumn → AlikeIsOfGroupBy
alike_is_of_group_by names answers scope core e key t there is alike =
    record { t = t; is = alike_same names answers scope alike ∙ is; group = record { key = key; written = there; is = is } }
