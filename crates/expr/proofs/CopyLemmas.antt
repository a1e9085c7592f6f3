-- Copies of expressions, one after the other, and a copy with the same leaves.
use Rattle.std.proofs.Common.{◌≡◌, List, [], ◌∷◌, map, refl, ap}
use Rattle.values.specs.Datum.{Datum}
use Rattle.expr.specs.CopyView.{copied, copied_all, copied_arms, copied_firsts}
use Rattle.expr.specs.Filled.{literals}
use Rattle.expr.specs.Leaves.{leaves_of_all, leaves_of_arms, leaves_of_firsts, with_leaves}
use Rattle.expr.specs.Term.{Term, Terms, Arms, literal, column, call, arithmetic, concat, compare, is, and, or, between, among, coalesce, choice, choice_of, null_if, like, none, answer, more, no_arms, arm}
use Rattle.expr.specs.View.{arms, terms}
use Rattle.expr.specs.declared.copies.Leaves.{Leaves}

module _ (leaves : Leaves) where
  -- an arm, whose parts are copied
  abbrev pub copied_arm : Term × Term → Term × Term
  copied_arm a = (copied leaves a.0, copied leaves a.1)

  pub all_are_copied : (ts : List Term) → terms (map (copied leaves) ts) ≡ copied_all leaves (terms ts)
  all_are_copied [] = refl
  all_are_copied (t ∷ ts) = ap (more (copied leaves t)) (all_are_copied ts)

  pub firsts_are_copied : (ts : List Term) → terms (map (copied leaves) ts) ≡ copied_firsts leaves (terms ts)
  firsts_are_copied [] = refl
  firsts_are_copied (t ∷ ts) = ap (more (copied leaves t)) (firsts_are_copied ts)

  pub arms_are_copied : (rest : List (Term × Term)) → arms (map copied_arm rest) ≡ copied_arms leaves (arms rest)
  arms_are_copied [] = refl
  arms_are_copied (a ∷ rest) = ap (arm (copied leaves a.0) (copied leaves a.1)) (arms_are_copied rest)

  -- literals have no leaves
  pub literals_are_copied : (vs : List Datum) → copied_all leaves (literals vs) ≡ literals vs
  literals_are_copied [] = refl
  literals_are_copied (v ∷ vs) = ap (more (literal v)) (literals_are_copied vs)

-- ---- the same leaves

mutual
  pub same_term : (t : Term) → with_leaves (λ i. i) answer answer t ≡ t
  same_term (literal v) = refl
  same_term (column i) = refl
  same_term (call f a) = ap (call f) (same_term a)
  same_term (arithmetic op a b) = rw (same_term a, same_term b) refl
  same_term (concat a b) = rw (same_term a, same_term b) refl
  same_term (compare op a b) = rw (same_term a, same_term b) refl
  same_term (is a b) = rw (same_term a, same_term b) refl
  same_term (and a b) = rw (same_term a, same_term b) refl
  same_term (or a b) = rw (same_term a, same_term b) refl
  same_term (between x a b) = rw (same_term x, same_term a, same_term b) refl
  same_term (among x items) = rw (same_term x, same_all items) refl
  same_term (coalesce items) = ap coalesce (same_firsts items)
  same_term (choice rest e) = rw (same_arms rest, same_term e) refl
  same_term (choice_of x rest e) = rw (same_term x, same_arms rest, same_term e) refl
  same_term (null_if a b) = rw (same_term a, same_term b) refl
  same_term (like a b) = rw (same_term a, same_term b) refl

  same_all : (ts : Terms) → leaves_of_all (λ i. i) answer answer ts ≡ ts
  same_all none = refl
  same_all (answer k) = refl
  same_all (more t ts) = rw (same_term t, same_all ts) refl

  same_firsts : (ts : Terms) → leaves_of_firsts (λ i. i) answer answer ts ≡ ts
  same_firsts none = refl
  same_firsts (answer k) = refl
  same_firsts (more t ts) = rw (same_term t, same_firsts ts) refl

  same_arms : (rest : Arms) → leaves_of_arms (λ i. i) answer answer rest ≡ rest
  same_arms no_arms = refl
  same_arms (arm c e rest) = rw (same_term c, same_term e, same_arms rest) refl

pub same_terms : (ts : List Term) → map (with_leaves (λ i. i) answer answer) ts ≡ ts
same_terms [] = refl
same_terms (t ∷ ts) = rw (same_term t, same_terms ts) refl
