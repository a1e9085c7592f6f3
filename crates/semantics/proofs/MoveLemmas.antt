-- Conditions on the way down: below inner joins and LEFT joins.
use Rattle.std.proofs.Common.{◌≡◌, Bool, true, false, cond, ◌&&◌, List, [], ◌∷◌, ◌++◌, map, sym, ap, ◌∙◌, append-nil, refl, not, ℕ, All, arith}
use Rattle.std.specs.List.{filter, list_any}
use Rattle.std.proofs.lemmas.List.Elements.{filter-append, filter_agree, All-filter, All-tail, All-weaker}
use Rattle.values.specs.Row.{Row}
use Rattle.semantics.specs.Query.{JoinKind}
use Rattle.semantics.specs.Joins.{alone, join, nulls, pairs}

filter-map : {A B : Type 0} (p : B → Bool) (f : A → B) (xs : List A) → filter p (map f xs) ≡ map f (filter (λ x. p (f x)) xs)
filter-map p f [] = refl
filter-map p f (x ∷ xs) =
    elim (p (f x)) as (λ b. cond b (f x ∷ filter p (map f xs)) (filter p (map f xs)) ≡ map f (cond b (x ∷ filter (λ x. p (f x)) xs) (filter (λ x. p (f x)) xs)))
    [ true ↦ ap (λ rest. f x ∷ rest) (filter-map p f xs) | false ↦ filter-map p f xs ]

pub filter-filter : {X : Type 0} (p q : X → Bool) (xs : List X) → filter p (filter q xs) ≡ filter (λ x. q x && p x) xs
filter-filter p q [] = refl
filter-filter p q (x ∷ xs) =
    elim (q x) as (λ b. filter p (cond b (x ∷ filter q xs) (filter q xs)) ≡ cond (b && p x) (x ∷ filter (λ x. q x && p x) xs) (filter (λ x. q x && p x) xs))
    [ true ↦ ap (λ rest. cond (p x) (x ∷ rest) rest) (filter-filter p q xs) | false ↦ filter-filter p q xs ]

-- a condition above an inner join is one of its ON
pub filter-pairs : (p : Row → Bool) (on : Row → Row → Bool) (ls rs : List Row)
    → filter p (pairs on ls rs) ≡ pairs (λ l r. on l r && p (l ++ r)) ls rs
filter-pairs p on [] rs = refl
filter-pairs p on (l ∷ ls) rs =
    filter-append p (map (λ r. l ++ r) (filter (on l) rs)) (pairs on ls rs)
    ∙ ap (λ front. front ++ filter p (pairs on ls rs)) (filter-map p (λ r. l ++ r) (filter (on l) rs) ∙ ap (map (λ r. l ++ r)) (filter-filter (λ r. p (l ++ r)) (on l) rs))
    ∙ ap (λ rest. map (λ r. l ++ r) (filter (λ r. on l r && p (l ++ r)) rs) ++ rest) (filter-pairs p on ls rs)

-- a condition on the left side alone may be tested before the join
pub pairs-left : (p : Row → Bool) (on : Row → Row → Bool) (ls rs : List Row) → pairs (λ l r. p l && on l r) ls rs ≡ pairs on (filter p ls) rs
pairs-left p on [] rs = refl
pairs-left p on (l ∷ ls) rs =
    elim (p l) as (λ b. map (λ r. l ++ r) (filter (λ r. b && on l r) rs) ++ pairs (λ l r. p l && on l r) ls rs ≡ pairs on (cond b (l ∷ filter p ls) (filter p ls)) rs) [
      | true ↦ ap (λ rest. map (λ r. l ++ r) (filter (on l) rs) ++ rest) (pairs-left p on ls rs)
      | false ↦ rw (filter-none rs) (pairs-left p on ls rs)
    ]
  where
    filter-none : (xs : List Row) → filter (λ r. false) xs ≡ []
    filter-none [] = refl
    filter-none (x ∷ xs) = filter-none xs

-- and one on the right side alone
pub pairs-right : (p : Row → Bool) (on : Row → Row → Bool) (ls rs : List Row) → pairs (λ l r. p r && on l r) ls rs ≡ pairs on ls (filter p rs)
pairs-right p on [] rs = refl
pairs-right p on (l ∷ ls) rs =
    ap (λ front. map (λ r. l ++ r) front ++ pairs (λ l r. p r && on l r) ls rs) (sym (filter-filter (on l) p rs))
    ∙ ap (λ rest. map (λ r. l ++ r) (filter (on l) (filter p rs)) ++ rest) (pairs-right p on ls rs)

and_turned : (a b : Bool) → (a && b) ≡ (b && a)
and_turned true true = refl
and_turned true false = refl
and_turned false true = refl
and_turned false false = refl

filters_turned : {X : Type 0} (p q : X → Bool) (xs : List X) → filter p (filter q xs) ≡ filter q (filter p xs)
filters_turned p q xs =
    filter-filter p q xs ∙ filter_agree (λ x. q x && p x) (λ x. p x && q x) (λ x. and_turned (q x) (p x)) xs ∙ sym (filter-filter q p xs)

-- ---- over a LEFT join: a condition on the left side alone

-- what holds of pairs is said of their left rows
abbrev pub SaysOf : (Row → Bool) → (Row → Bool) → Row → Type 0
SaysOf q p l = (x : Row) → q (l ++ x) ≡ p l

agree_on : {X : Type 0} (p q : X → Bool) (xs : List X) → All (λ x. p x ≡ q x) xs → filter p xs ≡ filter q xs
agree_on p q [] all = refl
agree_on p q (x ∷ xs) all = rw (all 0 x (omega arith), agree_on p q xs (All-tail (λ x. p x ≡ q x) x xs all)) refl

module _ (q p : Row → Bool) (on : Row → Row → Bool) (rs : List Row) where
  turned : (ls : List Row) → All (SaysOf q p) ls → pairs (λ l r. on l r && q (l ++ r)) ls rs ≡ pairs (λ l r. p l && on l r) ls rs
  turned [] says = refl
  turned (l ∷ ls) says =
      rw (filter_agree (λ r. on l r && q (l ++ r)) (λ r. p l && on l r) (λ r. ap (λ b. on l r && b) (says 0 l (omega arith) r) ∙ and_turned (on l r) (p l)) rs)
      (ap (λ rest. map (λ r. l ++ r) (filter (λ r. p l && on l r) rs) ++ rest) (turned ls (All-tail (SaysOf q p) l ls says)))

  left-pairs : (ls : List Row) → All (SaysOf q p) ls → filter q (pairs on ls rs) ≡ pairs on (filter p ls) rs
  left-pairs ls says = filter-pairs q on ls rs ∙ turned ls says ∙ pairs-left p on ls rs

  left-alone : (pad : Row) (ls : List Row) → All (SaysOf q p) ls
      → filter q (map (λ l. l ++ pad) (alone on ls rs)) ≡ map (λ l. l ++ pad) (alone on (filter p ls) rs)
  left-alone pad ls says =
      filter-map q (λ l. l ++ pad) (alone on ls rs)
      ∙ ap (map (λ l. l ++ pad))
      (agree_on (λ l. q (l ++ pad)) p (alone on ls rs)
      (All-weaker (SaysOf q p) (λ l. q (l ++ pad) ≡ p l) (λ l says. says pad) (alone on ls rs) (All-filter (λ l. not (list_any (on l) rs)) (SaysOf q p) ls says))
      ∙ filters_turned p (λ l. not (list_any (on l) rs)) ls)

  -- it may be tested before a LEFT join
  pub left-join : (m n : ℕ) (ls : List Row) → All (SaysOf q p) ls
      → filter q (join JoinKind.left m n on ls rs) ≡ join JoinKind.left m n on (filter p ls) rs
  left-join m n ls says =
      ap (filter q) (append-nil _)
      ∙ filter-append q (pairs on ls rs) (map (λ l. l ++ nulls n) (alone on ls rs))
      ∙ ap (λ front. front ++ filter q (map (λ l. l ++ nulls n) (alone on ls rs))) (left-pairs ls says)
      ∙ ap (λ back. pairs on (filter p ls) rs ++ back) (left-alone (nulls n) ls says)
      ∙ sym (append-nil _)
