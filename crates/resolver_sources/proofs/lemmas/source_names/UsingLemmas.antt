-- USING, name by name.
use Rattle.std.proofs.Common.{◌≡◌, ◌⊎◌, ℕ, List, [], ◌∷◌, ◌++◌, Some, None, Result, Ok, Err, refl, ap, inl, inr, ◌∙◌}
use Rattle.values.specs.declared.fault.Fault.{Fault}
use Rattle.values.specs.declared.fault.Fault.TheVariants.{NoMemory}
use Rattle.expr.specs.Term.{Term, and}
use Rattle.semantics_names.specs.Outcome.{also, followed}
use Rattle.semantics_names.specs.Scope.{Scope, places_of}
use Rattle.semantics_names.specs.Sources.{Condition, Using, all_of, conjunction, equal, hidden, merged, used}
use Rattle.resolver_exprs.specs.scopes.Using.{all_hidden}
use Rattle.resolver_sources.specs.source_names.Matched.{and_then, before, condition, matched, paired, so_far}
use Rattle.sql_reader_syntax.specs.Tree.{Name}

-- ---- the columns and the equalities

abbrev one_more : List ℕ → List ℕ → Using → Using
one_more mine places u = record { left = u.left; right = u.right; equalities = equal mine places ∷ u.equalities }

abbrev shows : Scope → Scope × List Term → Using
shows right m = record { left = m.0; right = right; equalities = m.1 }

through : (right : Scope) (mine places : List ℕ) (r : Result (Scope × List Term) Fault)
    → also (one_more mine places) (also (shows right) r) ≡ also (shows right) (also (before (equal mine places)) r)
through right mine places (Ok m) = refl
through right mine places (Err fault) = refl

step : (left right : Scope) (name : Name) (mine places : Result (List ℕ) Fault) (rest : List ℕ → Result Using Fault)
    (more : Scope → Result (Scope × List Term) Fault) → ((found : List ℕ) → rest found ≡ also (shows right) (more (merged name found left)))
    → followed mine (λ m. followed places (λ p. also (one_more m p) (rest p)))
    ≡ also (shows right) (followed (followed mine (λ m. also (paired name left m) places)) (λ m. also (before m.1) (more m.0)))
step left right name (Err fault) places rest more same = refl
step left right name (Ok m) (Err fault) rest more same = refl
step left right name (Ok m) (Ok p) rest more same = ap (also (one_more m p)) (same p) ∙ through right m p (more (merged name p left))

used_is : (theirs left right : Scope) (names : List Name)
    → used theirs left right names ≡ also (shows (all_hidden names right)) (matched theirs left names)
used_is theirs left right [] = refl
used_is theirs left right (name ∷ names) =
    step left (all_hidden names (hidden name right)) name (places_of left None name) (places_of theirs None name)
    (λ places. used theirs (merged name places left) (hidden name right) names) (λ m. matched theirs m names)
    (λ places. used_is theirs (merged name places left) (hidden name right) names)

-- ---- conditions

all_of_more : (t : Term) (us : List Term) (u : Term) → all_of t (us ++ u ∷ []) ≡ and (all_of t us) u
all_of_more t [] u = refl
all_of_more t (v ∷ us) u = all_of_more (and t v) us u

pub so_far_more : (ts : List Term) (t : Term) → so_far (ts ++ t ∷ []) ≡ Some (and_then (so_far ts) t)
so_far_more [] t = refl
so_far_more (u ∷ us) t = ap Some (all_of_more u us t)

-- ---- the condition of a join with USING

abbrev joins : Using → Condition
joins u = condition (u.left ++ u.right) (conjunction u.equalities)

module _ (theirs left : Scope) (names : List Name) where
  pub matches : (more : Scope) (equalities : List Term) → matched theirs left names ≡ Ok (more, equalities)
      → also joins (used theirs left theirs names) ≡ Ok (condition (more ++ all_hidden names theirs) (conjunction equalities))
  matches more equalities is =
      ap (also joins) (used_is theirs left theirs names) ∙ ap (λ m. also joins (also (shows (all_hidden names theirs)) m)) is

  pub matches_none : (fault : Fault) → (fault ≡ NoMemory) ⊎ (matched theirs left names ≡ Err fault)
      → (fault ≡ NoMemory) ⊎ (also joins (used theirs left theirs names) ≡ Err fault)
  matches_none fault (inl empty) = inl empty
  matches_none fault (inr is) =
      inr (ap (also joins) (used_is theirs left theirs names) ∙ ap (λ m. also joins (also (shows (all_hidden names theirs)) m)) is)
