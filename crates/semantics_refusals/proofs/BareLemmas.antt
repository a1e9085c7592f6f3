-- Expressions of GROUP BY, by the terms that they are over the columns of FROM.
use Rattle.std.proofs.Common.{◌≡◌, ◌⊎◌, inl, inr, Bool, true, false, true≢false, if◌then◌else◌, option_map, ℕ, suc, List, [], ◌∷◌, Option, Some, None, Result, Ok, Err, Contains, refl, sym, subst, ◌∙◌, arith}
use Rattle.std.proofs.lemmas.List.Elements.{Contains-append_cases, Contains-append_left, Contains-append_right, Contains-push, Contains-push_cases}
use Rattle.values.specs.declared.fault.Fault.{Fault}
use Rattle.expr.specs.Term.{Term}
use Rattle.sql_reader_syntax.specs.ExprTree.{CoreTree, ExprTree, ExprTrees}
use Rattle.semantics_names.specs.Expression.{Answers, term_of}
use Rattle.semantics_names.specs.Laws.{SameIsEqual}
use Rattle.semantics_names.specs.Places.{column_from, columns_say, key_column, place_of}
use Rattle.semantics_names.specs.Same.{is_same_term}
use Rattle.semantics_names.specs.Scope.{Scope}
use Rattle.semantics_names.specs.Statement.{by_of, group_term}
use Rattle.semantics_names.proofs.OneLemmas.{one_ok}
use Rattle.semantics_names.proofs.OutcomeLemmas.{both-ok}
use Rattle.semantics_refusals.specs.BareColumns.{IsGroupExpression, IsGroupTerm}
use Rattle.semantics_refusals.specs.WrongPlaces.{expressions, groups_in}
use Rattle.semantics_refusals.proofs.CoreToldLemmas.{group_told}
use Rattle.semantics_refusals.proofs.PlacedLemmas.{IsPlace, mapped_place}

-- ---- lists

pub head : {X : Type 0} (x : X) (xs : List X) → Contains (x ∷ xs) x
head x xs = Contains-append_left (x ∷ []) xs x (Contains-push [] x)

pub next : {X : Type 0} (x : X) (xs : List X) (y : X) → Contains xs y → Contains (x ∷ xs) y
next x xs y there = Contains-append_right (x ∷ []) xs y there

pub no_element : {X G : Type 0} (x : X) → Contains [] x → G
no_element x (at, short, is) = absurd (omega (arith, short))

pub head_or : {X : Type 0} (x : X) (xs : List X) (y : X) → Contains (x ∷ xs) y → (x ≡ y) ⊎ Contains xs y
head_or {X = X} x xs y there = by (Contains-append_cases (x ∷ []) xs y there)
  where
    own : Contains [] y ⊎ (x ≡ y) → (x ≡ y) ⊎ Contains xs y
    own (inl none) = no_element y none
    own (inr same) = inl same

    by : Contains (x ∷ []) y ⊎ Contains xs y → (x ≡ y) ⊎ Contains xs y
    by (inl here) = own (Contains-push_cases [] x y here)
    by (inr later) = inr later

pub cases : {A B G : Type 0} → A ⊎ B → (A → G) → (B → G) → G
cases (inl a) f g = f a
cases (inr b) f g = g b

-- ---- places of terms

-- a place has a column
pub column_place : (first : ℕ) (at : Option ℕ) → IsPlace at → column_from first at ≡ None → ⊥
column_place first None p e = p
column_place first (Some at) p e = absurd cc

pub place_column : (first : ℕ) (at : Option ℕ) (t : Term) → column_from first at ≡ Some t → IsPlace at
place_column first None t e = absurd cc
place_column first (Some at) t e = tt

module _ (equal : SameIsEqual) (answers : Answers) (scope : Scope) where
  -- an expression of GROUP BY is among its terms
  group_found : (by : ExprTrees) (keys : List Term) → by_of answers scope by ≡ Ok keys → (key : ExprTree) → Contains (expressions by) key → (t : Term)
      → term_of answers (columns_say scope) key ≡ Ok t → IsPlace (place_of is_same_term t keys)
  group_found ExprTrees.No_more keys e key there t of = no_element key there
  group_found (ExprTrees.More x others) keys e key there t of =
      let (u, us, first, last, same) = both-ok ◌∷◌ (group_term answers scope x) (by_of answers scope others) keys e in
      subst (λ keys. IsPlace (place_of is_same_term t keys)) same
      (by u us first (head_or x (expressions others) key there) (λ rest. group_found others us last key rest t of))
    where
      head_place : (u : Term) (us : List Term) → t ≡ u → (b : Bool) → is_same_term t u ≡ b
          → IsPlace (if b then Some 0 else option_map suc (place_of is_same_term t us))
      head_place u us alike true is = tt
      head_place u us alike false is =
          absurd (true≢false (sym (subst (λ u. is_same_term t u ≡ true) alike ((equal.terms t t).1 refl)) ∙ is))

      tail_place : (u : Term) (us : List Term) → IsPlace (place_of is_same_term t us) → (b : Bool)
          → IsPlace (if b then Some 0 else option_map suc (place_of is_same_term t us))
      tail_place u us p true = tt
      tail_place u us p false = mapped_place (place_of is_same_term t us) p

      by : (u : Term) (us : List Term) → group_term answers scope x ≡ Ok u → (x ≡ key) ⊎ Contains (expressions others) key
          → (Contains (expressions others) key → IsPlace (place_of is_same_term t us)) → IsPlace (place_of is_same_term t (u ∷ us))
      by u us first (inl alike) rest =
          let is : term_of answers (columns_say scope) x ≡ Ok u = group_told answers scope x u first in
          let so : term_of answers (columns_say scope) x ≡ Ok t = subst (λ x. term_of answers (columns_say scope) x ≡ Ok t) (sym alike) of in
          head_place u us (one_ok t u (term_of answers (columns_say scope) x) so is) (is_same_term t u) refl
      by u us first (inr later) rest = tail_place u us (rest later) (is_same_term t u)

  -- and what is among its terms is one of it
  group_written : (by : ExprTrees) (keys : List Term) → by_of answers scope by ≡ Ok keys → (t : Term) → IsPlace (place_of is_same_term t keys)
      → (key : ExprTree) × Contains (expressions by) key × (term_of answers (columns_say scope) key ≡ Ok t)
  group_written ExprTrees.No_more keys e t p =
      let same : [] ≡ keys = cc in absurd (subst (λ keys. IsPlace (place_of is_same_term t keys)) (sym same) p)
  group_written (ExprTrees.More x others) keys e t p =
      let (u, us, first, last, same) = both-ok ◌∷◌ (group_term answers scope x) (by_of answers scope others) keys e in
      by u us first (is_same_term t u) refl (subst (λ keys. IsPlace (place_of is_same_term t keys)) (sym same) p)
      (λ there. group_written others us last t there)
    where
      place_back : (o : Option ℕ) → IsPlace (option_map suc o) → IsPlace o
      place_back None q = q
      place_back (Some at) q = tt

      by : (u : Term) (us : List Term) → group_term answers scope x ≡ Ok u → (b : Bool) → is_same_term t u ≡ b
          → IsPlace (if b then Some 0 else option_map suc (place_of is_same_term t us))
          → (IsPlace (place_of is_same_term t us)
          → (key : ExprTree) × Contains (expressions others) key × (term_of answers (columns_say scope) key ≡ Ok t))
          → (key : ExprTree) × Contains (x ∷ expressions others) key × (term_of answers (columns_say scope) key ≡ Ok t)
      by u us first true so q rest = (
        x,
        head x (expressions others),
        subst (λ u. term_of answers (columns_say scope) x ≡ Ok u) (sym ((equal.terms t u).0 so)) (group_told answers scope x u first),
      )
      by u us first false so q rest =
          let (key, there, is) = rest (place_back (place_of is_same_term t us) q) in (key, next x (expressions others) key there, is)

  module _ (core : CoreTree) (written : ExprTrees) (are : groups_in core ≡ expressions written) (keys : List Term)
      (keyed : by_of answers scope written ≡ Ok keys) where
    pub group_term_place : (t : Term) → IsGroupTerm answers scope core t → IsPlace (place_of is_same_term t keys)
    group_term_place t g = group_found written keys keyed g.key (subst (λ es. Contains es g.key) are g.written) t g.is

    pub place_group_term : (t : Term) → IsPlace (place_of is_same_term t keys) → IsGroupTerm answers scope core t
    place_group_term t p =
        let (key, there, is) = group_written written keys keyed t p in
        record { key = key; written = subst (λ es. Contains es key) (sym are) there; is = is }

    -- an expression has a column of a group exactly where it is one of GROUP BY
    pub keyless : (e : ExprTree) → key_column keys (term_of answers (columns_say scope) e) ≡ None → ¬ IsGroupExpression answers scope core e
    keyless e none g =
        column_place 0 (place_of is_same_term g.t keys) (group_term_place g.t g.group)
        (subst (λ r. key_column keys r ≡ None) g.is none)

    pub keyed_is : (e : ExprTree) (t : Term) → key_column keys (term_of answers (columns_say scope) e) ≡ Some t → IsGroupExpression answers scope core e
    keyed_is e t some = by (term_of answers (columns_say scope) e) refl some
      where
        by : (r : Result Term Fault) → term_of answers (columns_say scope) e ≡ r → key_column keys r ≡ Some t → IsGroupExpression answers scope core e
        by (Ok u) is d = record { t = u; is = is; group = place_group_term u (place_column 0 (place_of is_same_term u keys) t d) }
        by (Err fault) is d = absurd cc
