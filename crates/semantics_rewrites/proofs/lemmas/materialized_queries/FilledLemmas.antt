-- An expression in which the values of inner queries stand names no answer any more.
use Rattle.std.proofs.Common.{◌≡◌, List, [], ◌∷◌, slice_index_or, refl, ap}
use Rattle.values.specs.Datum.{Datum}
use Rattle.expr.specs.Filled.{filled, filled_all, filled_arms, filled_firsts, literals}
use Rattle.expr.specs.Term.{Term, Terms, Arms, literal, column, call, arithmetic, concat, compare, is, and, or, between, among, coalesce, choice, choice_of, null_if, like, none, more, answer, no_arms, arm}

module _ (answers others : List (List Datum)) where
  again_literals : (vs : List Datum) → filled_all others (literals vs) ≡ literals vs
  again_literals [] = refl
  again_literals (v ∷ vs) = ap (more (literal v)) (again_literals vs)

  mutual
    pub again : (t : Term) → filled others (filled answers t) ≡ filled answers t
    again (literal v) = refl
    again (column i) = refl
    again (call f a) = ap (call f) (again a)
    again (arithmetic op a b) = rw (again a, again b) refl
    again (concat a b) = rw (again a, again b) refl
    again (compare op a b) = rw (again a, again b) refl
    again (is a b) = rw (again a, again b) refl
    again (and a b) = rw (again a, again b) refl
    again (or a b) = rw (again a, again b) refl
    again (between x a b) = rw (again x, again a, again b) refl
    again (among x items) = rw (again x, again_all items) refl
    again (coalesce items) = ap coalesce (again_firsts items)
    again (choice rest e) = rw (again_arms rest, again e) refl
    again (choice_of x rest e) = rw (again x, again_arms rest, again e) refl
    again (null_if a b) = rw (again a, again b) refl
    again (like a b) = rw (again a, again b) refl

    again_all : (ts : Terms) → filled_all others (filled_all answers ts) ≡ filled_all answers ts
    again_all none = refl
    again_all (more t ts) = rw (again t, again_all ts) refl
    again_all (answer k) = again_literals (slice_index_or answers k [])

    again_firsts : (ts : Terms) → filled_firsts others (filled_firsts answers ts) ≡ filled_firsts answers ts
    again_firsts none = refl
    again_firsts (more t ts) = rw (again t, again_firsts ts) refl
    again_firsts (answer k) = refl

    again_arms : (rest : Arms) → filled_arms others (filled_arms answers rest) ≡ filled_arms answers rest
    again_arms no_arms = refl
    again_arms (arm c e rest) = rw (again c, again e, again_arms rest) refl
