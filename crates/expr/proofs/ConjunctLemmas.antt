-- A condition and its conjuncts.
use Rattle.std.proofs.Common.{◌≡◌, ◌&&◌, ◌||◌, Bool, true, false, not, List, Option, Some, None, option_map, refl, sym, ap, ◌∙◌}
use Rattle.std.specs.List.{list_all, list_any}
use Rattle.std.proofs.lemmas.List.Folds.{list_all-append, list_any-append}
use Rattle.std.proofs.Math.Bool.{and-true}
use Rattle.expr.specs.declared.operations.kinds.Comparison.TheVariants.{Ge, Le}
use Rattle.values.specs.Datum.{Datum}
use Rattle.expr.specs.operations.Operations.{truth, condition, and3}
use Rattle.expr.specs.Term.{Term, compare, and, between}
use Rattle.expr.specs.Meaning.{and_then, compared, run, exact}
use Rattle.expr.specs.Conjuncts.{conjuncts, keeps, is_conjunction, is_true}
use Rattle.expr.specs.Laws.{KeepsConjuncts, AddsNoOverflow, ConjunctsAreLeaves, is_none}

truth_condition : (b : Option Bool) → truth (condition b) ≡ b
unfolding truth condition
truth_condition None = refl
truth_condition (Some true) = refl
truth_condition (Some false) = refl

abbrev keeps_of : Option (Option Bool) → Bool
keeps_of None = false
keeps_of (Some b) = keeps b

is_true_of : (m : Option Datum) → keeps_of (option_map truth m) ≡ is_true m
is_true_of None = refl
is_true_of (Some v) = refl

is_true_condition : (m : Option (Option Bool)) → is_true (option_map condition m) ≡ keeps_of m
is_true_condition None = refl
is_true_condition (Some b) = ap keeps (truth_condition b)

keeps_and : (a b : Option Bool) → keeps (and3 a b) ≡ (keeps a && keeps b)
keeps_and None None = refl
keeps_and None (Some true) = refl
keeps_and None (Some false) = refl
keeps_and (Some true) None = refl
keeps_and (Some true) (Some true) = refl
keeps_and (Some true) (Some false) = refl
keeps_and (Some false) b = refl

and_keeps_false : (a : Bool) → (a && false) ≡ false
and_keeps_false true = refl
and_keeps_false false = refl

-- AND is true where both sides are
and_is_true : (a b : Option (Option Bool)) → is_true (and_then a b) ≡ (keeps_of a && keeps_of b)
and_is_true None b = refl
and_is_true (Some (Some false)) b = ap keeps (truth_condition (Some false))
and_is_true (Some (Some true)) None = refl
and_is_true (Some (Some true)) (Some t) = ap keeps (truth_condition t)
and_is_true (Some None) None = refl
and_is_true (Some None) (Some t) = ap keeps (truth_condition (and3 None t)) ∙ keeps_and None t

module _ (o : Option Datum) (row : List Datum) where
  abbrev Kept : Term → Bool
  Kept c = is_true (run o row c)

  pub split : (t : Term) → is_true (run o row t) ≡ list_all (λ c. is_true (run o row c)) (conjuncts t)
  split (and a b) =
      and_is_true (option_map truth (run o row a)) (option_map truth (run o row b))
      ∙ ap (λ x. x && keeps_of (option_map truth (run o row b))) (is_true_of (run o row a) ∙ split a)
      ∙ ap (λ y. list_all Kept (conjuncts a) && y) (is_true_of (run o row b) ∙ split b)
      ∙ sym (list_all-append Kept (conjuncts a) (conjuncts b))
  split (between x a b) =
      and_is_true (compared Ge (run o row x) (run o row a)) (compared Le (run o row x) (run o row b))
      ∙ ap (λ v. v && keeps_of (compared Le (run o row x) (run o row b))) (sym (is_true_condition (compared Ge (run o row x) (run o row a))))
      ∙ ap (λ v. Kept (compare Ge x a) && v) (sym (is_true_condition (compared Le (run o row x) (run o row b))) ∙ sym (and-true (Kept (compare Le x b))))
  split t = sym (and-true (Kept t))

pub keeps_conjuncts : KeepsConjuncts
keeps_conjuncts o row t = split o row t

leaves : (t : Term) → list_all (λ c. not (is_conjunction c)) (conjuncts t) ≡ true
leaves (and a b) = list_all-append (λ c. not (is_conjunction c)) (conjuncts a) (conjuncts b) ∙ rw (leaves a, leaves b) refl
leaves (between x a b) = refl
leaves t = refl

pub conjuncts_are_leaves : ConjunctsAreLeaves
conjuncts_are_leaves = leaves

is_none_map : {A B : Type 0} (f : A → B) (m : Option A) → is_none (option_map f m) ≡ is_none m
is_none_map f None = refl
is_none_map f (Some v) = refl

or_true : (a : Bool) → (a || true) ≡ true
or_true true = refl
or_true false = refl

-- AND has no value only where one side has none
and_is_none : (a b : Option (Option Bool)) → and_then a b ≡ None → (is_none a || is_none b) ≡ true
and_is_none None b e = refl
and_is_none (Some (Some false)) b e = cc
and_is_none (Some (Some true)) None e = refl
and_is_none (Some (Some true)) (Some t) e = cc
and_is_none (Some None) None e = refl
and_is_none (Some None) (Some t) e = cc

either : (p q r s : Bool) → (p ≡ true → r ≡ true) → (q ≡ true → s ≡ true) → (p || q) ≡ true → (r || s) ≡ true
either true q r s f g e = ap (λ x. x || s) (f refl)
either false q r s f g e = ap (λ x. r || x) (g e) ∙ or_true r

module _ (row : List Datum) where
  abbrev Lost : Term → Bool
  Lost c = is_none (exact c row)

  none_of : (m : Option Datum) → is_none m ≡ true → m ≡ None
  none_of None e = refl
  none_of (Some v) e = cc

  pub lost : (t : Term) → exact t row ≡ None → list_any (λ c. is_none (exact c row)) (conjuncts t) ≡ true
  lost (and a b) e =
      list_any-append Lost (conjuncts a) (conjuncts b)
      ∙ either (is_none (option_map truth (exact a row))) (is_none (option_map truth (exact b row))) (list_any Lost (conjuncts a)) (list_any Lost (conjuncts b))
      (λ h. lost a (none_of _ (sym (is_none_map truth (exact a row)) ∙ h)))
      (λ h. lost b (none_of _ (sym (is_none_map truth (exact b row)) ∙ h)))
      (and_is_none (option_map truth (exact a row)) (option_map truth (exact b row)) e)
  lost (between x a b) e =
      let ge = compared Ge (exact x row) (exact a row) in
      let le = compared Le (exact x row) (exact b row) in
      either (is_none ge) (is_none le) (Lost (compare Ge x a)) (Lost (compare Le x b) || false)
      (λ h. is_none_map condition ge ∙ h)
      (λ h. ap (λ v. v || false) (is_none_map condition le ∙ h))
      (and_is_none ge le e)
  lost t e = ap (λ m. is_none m || false) e

pub adds_no_overflow : AddsNoOverflow
adds_no_overflow row t e = lost row t e
