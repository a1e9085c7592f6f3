-- Tests of lists of what is seen of the elements of others.
use Rattle.std.proofs.Common.{◌≡◌, ◌≤◌, ◌+◌, arith, zero, ℕ, Bool, not, cond, List, [], ◌∷◌, length, map, refl, sym, ap, ◌∙◌, suc, Some, None, option_map}
use Rattle.std.specs.Prelude.{◌||◌, Vec, nat_lt, position, slice_get}
use Rattle.std.specs.List.{list_all, list_any, prefix_len}
use Rattle.std.proofs.lemmas.List.Folds.{list_all-map}
use Rattle.std.proofs.lemmas.Option.{slice_get-map}
use Rattle.std.specs.Global.{Global}
use Rattle.index_choice.specs.declared.comparisons.Side.{Side}
use Rattle.index_choice.specs.declared.conjuncts.Conjunct.{Conjunct}
use Rattle.index_choice.specs.Bounds.{ConjunctData, bound_data, bounds_column, conjunct_data, first_bound, has_bound_on, is_bound_on}
use Rattle.index_choice.specs.Paths.{is_implied}
use Rattle.index_choice.specs.Sources.{condition_places}

module _ {A : Type 0} where
  prefix_same : (p q : A → Bool) → ((x : A) → p x ≡ q x) → (xs : List A) → prefix_len (λ x. not (p x)) xs ≡ prefix_len (λ x. not (q x)) xs
  prefix_same p q same [] = refl
  prefix_same p q same (x ∷ xs) =
      ap (λ b. cond (not b) (1 + prefix_len (λ y. not (p y)) xs) 0) (same x) ∙ ap (λ n. cond (not (q x)) (1 + n) 0) (prefix_same p q same xs)

  position_same : (p q : A → Bool) → ((x : A) → p x ≡ q x) → (xs : List A) → position p xs ≡ position q xs
  position_same p q same xs = ap (λ n. cond (nat_lt n (length xs)) (Some n) None) (prefix_same p q same xs)

module _ {A B : Type 0} where
  prefix_map : (f : A → B) (p : B → Bool) (xs : List A) → prefix_len (λ x. not (p (f x))) xs ≡ prefix_len (λ y. not (p y)) (map f xs)
  prefix_map f p [] = refl
  prefix_map f p (x ∷ xs) = ap (λ n. cond (not (p (f x))) (1 + n) 0) (prefix_map f p xs)

  length_map : (f : A → B) (xs : List A) → length xs ≡ length (map f xs)
  length_map f [] = refl
  length_map f (x ∷ xs) = ap suc (length_map f xs)

  -- where the first is of which this holds
  pub position_of_map : (p : B → Bool) (f : A → B) (xs : List A) → position p (map f xs) ≡ position (λ x. p (f x)) xs
  position_of_map p f xs =
      sym (ap (λ n. cond (nat_lt n (length xs)) (Some n) None) (prefix_map f p xs)
      ∙ ap (λ long. cond (nat_lt (prefix_len (λ y. not (p y)) (map f xs)) long) (Some (prefix_len (λ y. not (p y)) (map f xs))) None) (length_map f xs))

  pub any_of_map : (p : B → Bool) (f : A → B) (xs : List A) → list_any p (map f xs) ≡ list_any (λ x. p (f x)) xs
  any_of_map p f [] = refl
  any_of_map p f (x ∷ xs) = ap (λ found. p (f x) || found) (any_of_map p f xs)

  pub all_of_map : (p : B → Bool) (f : A → B) (xs : List A) → list_all p (map f xs) ≡ list_all (λ x. p (f x)) xs
  all_of_map p f xs = list_all-map p f xs

  pub get_of_map : (f : A → B) (xs : List A) (k : ℕ) → slice_get (map f xs) k ≡ option_map f (slice_get xs k)
  get_of_map f xs k = slice_get-map f xs k

-- the first conjunct that bounds a column is that in memory
pub first_bound_of : (known : List Bool) (conjuncts : List Conjunct) (side : Side) (column : ℕ)
    → first_bound known (map conjunct_data conjuncts) side column ≡ position (has_bound_on known side column) conjuncts
first_bound_of known conjuncts side column =
    position_of_map (bounds_column known side column) conjunct_data conjuncts
    ∙ position_same (λ x. bounds_column known side column (conjunct_data x)) (has_bound_on known side column)
    (λ x. any_of_map (is_bound_on known side column) bound_data x.bounds.items) conjuncts

-- so are the conditions that are implied
pub all_implied_of : (usable : List Bool) (conjuncts : List ConjunctData) (conditions : List (Vec ℕ Global))
    → list_all (is_implied usable conjuncts) (condition_places conditions) ≡ list_all (λ implying. is_implied usable conjuncts implying.items) conditions
all_implied_of usable conjuncts conditions = all_of_map (is_implied usable conjuncts) (λ implying. implying.items) conditions

-- nothing is past the end
pub get_past : (xs : List ℕ) (i : ℕ) → length xs ≤ i → slice_get xs i ≡ None
get_past [] i past = refl
get_past (x ∷ xs) zero past = absurd (omega (arith, past))
get_past (x ∷ xs) (suc i) past = get_past xs i (omega (arith, past))
