-- Queries by their names, one by one.
use Rattle.std.proofs.Common.{◌≡◌, ◌<◌, ℕ, zero, suc, List, [], ◌∷◌, length, map, slice_get, Some, Result, Ok, Err, refl, rules, ap, subst}
use Rattle.values.specs.declared.fault.Fault.{Fault}
use Rattle.semantics.specs.Query.{InnerQuery}
use Rattle.semantics_names.specs.Expression.{InnerTree}
use Rattle.semantics_names.specs.Outcome.{also, both, each}
use Rattle.semantics_names.specs.Statement.{Inner}

-- the query at a place is what its tree is by its names
pub record IsNamedAt (said : InnerTree → Result Inner Fault) (tree : InnerTree) (inner : List InnerQuery) (at : ℕ) : Type 0 where
  pub one : Inner
  pub is_said : said tree ≡ Ok one
  pub stands : slice_get inner at ≡ Some one.query

module _ (said : InnerTree → Result Inner Fault) where
  abbrev queries : List Inner → List InnerQuery
  queries inners = map (λ i. i.query) inners

  -- what is told of the queries behind the first
  abbrev OfOthers : List InnerTree → InnerTree → Type 0
  OfOthers ts tree = (inner : List InnerQuery) (n : ℕ) → also queries (each said ts) ≡ Ok inner → slice_get ts n ≡ Some tree → IsNamedAt said tree inner n

  at_place : (t tree : InnerTree) (ts : List InnerTree) (i : Inner) (is : List Inner) → said t ≡ Ok i → each said ts ≡ Ok is → OfOthers ts tree
      → (n : ℕ) → slice_get (t ∷ ts) n ≡ Some tree → IsNamedAt said tree (i.query ∷ queries is) n
  at_place t tree ts i is named are others zero g =
      let same : t ≡ tree = cc in record { one = i; is_said = subst (λ x. said x ≡ Ok i) same named; stands = refl }
  at_place t tree ts i is named are others (suc n) g =
      let below : IsNamedAt said tree (queries is) n = others (queries is) n (ap (also queries) are) g in
      record { one = below.one; is_said = below.is_said; stands = below.stands }

  pub named_at : (trees : List InnerTree) (inner : List InnerQuery) (at : ℕ) (tree : InnerTree) → also queries (each said trees) ≡ Ok inner
      → slice_get trees at ≡ Some tree → IsNamedAt said tree inner at
  named_at [] inner at tree e g = absurd cc
  named_at (t ∷ ts) inner at tree e g = by (said t) refl e (λ others n f h. named_at ts others n tree f h)
    where
      rest : (i : Inner) (rs : Result (List Inner) Fault) → said t ≡ Ok i → each said ts ≡ rs → also queries (also (λ xs. i ∷ xs) rs) ≡ Ok inner
          → OfOthers ts tree → IsNamedAt said tree inner at
      rest i (Err fault) named are e others = absurd cc
      rest i (Ok is) named are e others =
          let all : i.query ∷ queries is ≡ inner = cc in
          subst (λ xs. IsNamedAt said tree xs at) all (at_place t tree ts i is named are others at g)

      by : (r : Result Inner Fault) → said t ≡ r → also queries (both ◌∷◌ r (each said ts)) ≡ Ok inner → OfOthers ts tree → IsNamedAt said tree inner at
      by (Err fault) named e others = absurd cc
      by (Ok i) named e others = rest i (each said ts) named refl e others

-- there are as many places
pub is_within : {X : Type 0} (xs : List X) (n : ℕ) (x : X) → slice_get xs n ≡ Some x → n < length xs
is_within [] n x e = absurd cc
is_within (y ∷ xs) zero x e = search rules
is_within (y ∷ xs) (suc n) x e = let below : n < length xs = is_within xs n x e in search rules
