-- The first of the values in stretches.
use Rattle.std.proofs.Common.{◌≡◌, ◌∙◌, ◌+◌, ◌-◌, ◌^◌, ◌<◌, ◌≤◌, ◌==◌, ◌||◌, ◌++◌, ◌⊎◌, inl, inr, Bool, true, false, ℕ, zero, suc, List, [], ◌∷◌, Option, Some, None, IfSome, Global, Vec, get_or, length, map, refl, sym, ap, subst, arith}
use Rattle.std.proofs.lemmas.Bool.{cases_lt, false≢true}
use Rattle.std.proofs.lemmas.Bool.Decides.{nat_tests}
use Rattle.std.proofs.lemmas.List.{get_or-map, get_or_append_left, get_or_past, get_or_push, length-map, length_push}
use Rattle.std.proofs.lemmas.Nat.{pow_below}
use Rattle.std.proofs.Math.Nat.{pow-suc}
use Rattle.values.specs.Datum.{Datum, datum_of, null}
use Rattle.values.specs.declared.value.Value.{Value}
use Rattle.expr.specs.operations.Operations.{is_null}
use Rattle.semantics.specs.Sequence.{value_at}
use Rattle.windows.specs.first_values.Best.{IsBest}
use Rattle.windows.specs.declared.first_values.best.Side.{Side}
use Rattle.windows.specs.window_extremes.Stretches.{AreLevels, IsLevel, stretch}

pub one_place : (i k : ℕ) → (k == i) ≡ stretch i (i + 1) k
one_place i k = grind (arith, nat_tests)

pub joined : (a m c b k : ℕ) → a ≤ c → c ≤ m → m ≤ b → (stretch a m k || stretch c b k) ≡ stretch a b k
joined a m c b k p q r = grind (arith, nat_tests, p, q, r)

starts : (a b k : ℕ) → stretch a b k ≡ true → a ≤ k
starts a b k h = grind (arith, nat_tests, h)

stretch-none : (a b k : ℕ) → b ≤ a → stretch a b k ≡ false
stretch-none a b k h = grind (arith, nat_tests, h)

is_null_there : is_null null ≡ true
unfolding is_null
is_null_there = refl

past : (xs : List Datum) (k : ℕ) → length xs ≤ k → is_null (value_at xs k) ≡ true
past xs k h = ap is_null (get_or_past xs k null h) ∙ is_null_there

module _ (side : Side) (xs : List Datum) where
  pub same_set : (S T : ℕ → Bool) (o : Option ℕ) → ((k : ℕ) → S k ≡ T k) → IsBest side xs S o → IsBest side xs T o
  same_set S T o each best = subst (λ U. IsBest side xs U o) (λ i k. each k i) best

  -- what comes first stands in the list
  pub best_inside : (S : ℕ → Bool) (o : Option ℕ) → IsBest side xs S o → IfSome o (λ p. p < length xs)
  best_inside S None best = tt
  best_inside S (Some p) best = elim (cases_lt p (length xs)) [
    | inl h ↦ h
    | inr h ↦ absurd (false≢true (sym (best.some p refl).whole ∙ past xs p h))
  ]

  pub none_past : (a b : ℕ) → length xs ≤ a → IsBest side xs (stretch a b) None
  none_past a b h = record {
    none = λ e k in_it. let low = starts a b k in_it in past xs k (omega (arith, h, low));
    some = λ p e. absurd (cc);
  }

  pub none_between : (a b : ℕ) → b ≤ a → IsBest side xs (stretch a b) None
  none_between a b h = record {
    none = λ e k in_it. absurd (false≢true (sym (stretch-none a b k h) ∙ in_it));
    some = λ p e. absurd (cc);
  }

  -- a level tells of each stretch of its width
  pub of_stretch : (width : ℕ) (level : List (Option ℕ)) → IsLevel side xs width level → (i : ℕ) → IsBest side xs (stretch i (i + width)) (get_or level i None)
  of_stretch width level is i = elim (cases_lt i (length xs)) [
    | inl h ↦ is.each i h
    | inr h ↦ subst (λ o. IsBest side xs (stretch i (i + width)) o) (sym (get_or_past level i None (omega (arith, h, is.size)))) (none_past i (i + width) h)
  ]

  -- two stretches of one width that meet or overlap
  pub overlap : (width : ℕ) (level : List (Option ℕ)) → IsLevel side xs width level → (from last to : ℕ) → from ≤ last → last ≤ from + width → last + width ≡ to → (o : Option ℕ)
      → ((S T : ℕ → Bool) → IsBest side xs S (get_or level from None) → IsBest side xs T (get_or level last None) → IsBest side xs (λ k. S k || T k) o)
      → IsBest side xs (stretch from to) o
  overlap width level is from last to p q whole o better =
      same_set (λ k. stretch from (from + width) k || stretch last (last + width) k) (stretch from to) o
      (λ k. joined from (from + width) last (last + width) k p q (omega (arith, p)) ∙ ap (λ b. stretch from b k) whole)
      (better (stretch from (from + width)) (stretch last (last + width)) (of_stretch width level is from) (of_stretch width level is last))

  -- ---- the first stretches of a width

  pub record IsFilled (width n : ℕ) (level : List (Option ℕ)) : Type 0 where
    pub size : length level ≡ n
    pub each : (i : ℕ) → i < n → IsBest side xs (stretch i (i + width)) (get_or level i None)

  pub none_filled : (width : ℕ) → IsFilled width 0 []
  none_filled width = record { size = refl; each = λ i h. absurd (omega (arith, h)) }

  last_or_before : (k n : ℕ) → k < n + 1 → (k < n) ⊎ (n ≡ k)
  last_or_before zero zero h = inr (omega arith)
  last_or_before zero (suc n) h = inl (omega arith)
  last_or_before (suc k) zero h = absurd (omega (arith, h))
  last_or_before (suc k) (suc n) h = elim (last_or_before k n (omega (arith, h))) [ inl p ↦ inl (omega (arith, p)) | inr p ↦ inr (omega (arith, p)) ]

  pub filled_more : (width n : ℕ) (level level' : List (Option ℕ)) (o : Option ℕ) → IsFilled width n level → level' ≡ level ++ o ∷ []
      → IsBest side xs (stretch n (n + width)) o → IsFilled width (n + 1) level'
  filled_more width n level level' o filled is best = record {
    size = ap length is ∙ length_push level o ∙ ap (λ k. k + 1) filled.size;
    each = λ i h. subst (λ l. IsBest side xs (stretch i (i + width)) (get_or l i None)) (sym is) (elim (last_or_before i n h) [
      | inl low ↦ subst (IsBest side xs (stretch i (i + width))) (sym (get_or_append_left level (o ∷ []) None i (omega (arith, low, filled.size)))) (filled.each i low)
      | inr same ↦
          let at_end : length level ≡ i = omega (arith, same, filled.size) in
          subst (IsBest side xs (stretch i (i + width))) (sym (get_or_push level o None i at_end)) (subst (λ m. IsBest side xs (stretch m (m + width)) o) same best)
    ]);
  }

  pub all_filled : (width n : ℕ) (level : List (Option ℕ)) → IsFilled width n level → length xs ≡ n → IsLevel side xs width level
  all_filled width n level filled all = record { size = filled.size ∙ sym all; each = λ i h. filled.each i (omega (arith, h, all)) }

  -- ---- the levels

  pub record AreBuilt (width : ℕ) (levels : List (List (Option ℕ))) : Type 0 where
    pub each : (k : ℕ) → k < length levels → IsLevel side xs (2 ^ k) (get_or levels k [])
    pub some : 0 < length levels
    pub power : width ≡ 2 ^ (length levels - 1)
    pub positive : 0 < width

  pub one_built : (level : List (Option ℕ)) → IsLevel side xs 1 level → AreBuilt 1 (level ∷ [])
  one_built level is = record {
    each = λ k h. let none : 0 ≡ k = omega (arith, h) in subst (λ i. IsLevel side xs (2 ^ i) (get_or (level ∷ []) i [])) none is;
    some = omega arith;
    power = refl;
    positive = omega arith;
  }

  twice : (k : ℕ) → 2 ^ k + 2 ^ k ≡ 2 ^ (k + 1)
  twice k = let more = pow-suc 2 k in let one : k + 1 ≡ suc k = omega arith in omega (arith, more, ap (λ n. 2 ^ n) one)

  pub next_width : (width : ℕ) (levels : List (List (Option ℕ))) → AreBuilt width levels → width + width ≡ 2 ^ length levels
  next_width width levels built =
      let size : length levels - 1 + 1 ≡ length levels = omega (arith, built.some) in
      (λ i. built.power i + built.power i) ∙ twice (length levels - 1) ∙ ap (λ n. 2 ^ n) size

  pub built_more : (width width' : ℕ) (levels levels' : List (List (Option ℕ))) (level : List (Option ℕ)) → AreBuilt width levels → levels' ≡ levels ++ level ∷ []
      → width' ≡ width + width → IsLevel side xs (width + width) level → AreBuilt width' levels'
  built_more width width' levels levels' level built is wide next =
      let size : length levels' ≡ length levels + 1 = ap length is ∙ length_push levels level in
      let back : length levels ≡ length levels' - 1 = omega (arith, size) in
      record {
        each = λ k h. subst (λ l. IsLevel side xs (2 ^ k) (get_or l k [])) (sym is) (elim (last_or_before k (length levels) (omega (arith, h, size))) [
          | inl low ↦ subst (IsLevel side xs (2 ^ k)) (sym (get_or_append_left levels (level ∷ []) [] k low)) (built.each k low)
          | inr same ↦
              subst (IsLevel side xs (2 ^ k)) (sym (get_or_push levels level [] k same))
              (subst (λ w. IsLevel side xs w level) (next_width width levels built ∙ ap (λ n. 2 ^ n) same) next)
        ]);
        some = omega (arith, size);
        power = wide ∙ next_width width levels built ∙ ap (λ n. 2 ^ n) back;
        positive = omega (arith, wide, built.positive);
      }

  -- the last of the levels
  pub last_level : (width : ℕ) (levels : List (Vec (Option ℕ) Global)) (v : Vec (Option ℕ) Global) (i : ℕ) → AreBuilt width (map (λ (level : Vec (Option ℕ) Global). level.items) levels)
      → i ≡ length levels - 1 → v ≡ get_or levels i v → IsLevel side xs width v.items
  last_level width levels v i built last is =
      let items : Vec (Option ℕ) Global → List (Option ℕ) = λ level. level.items in
      let size = length-map levels items in
      let within : i < length levels = omega (arith, last, size, built.some) in
      let power : 2 ^ i ≡ width = ap (λ k. 2 ^ k) last ∙ ap (λ k. 2 ^ (k - 1)) (sym size) ∙ sym built.power in
      let read : get_or (map items levels) i [] ≡ v.items = get_or-map items levels i v [] within ∙ ap items (sym is) in
      subst (λ w. IsLevel side xs w v.items) power (subst (IsLevel side xs (2 ^ i)) read (built.each i (omega (arith, within, size))))

  -- the level of a power of two
  pub level_read : (levels : List (Vec (Option ℕ) Global)) (v : Vec (Option ℕ) Global) (i : ℕ) (level : List (Option ℕ)) → AreLevels side xs (map (λ (level : Vec (Option ℕ) Global). level.items) levels)
      → i < length levels → v ≡ get_or levels i v → level ≡ v.items → IsLevel side xs (2 ^ i) level
  level_read levels v i level are within is value =
      let items : Vec (Option ℕ) Global → List (Option ℕ) = λ level. level.items in
      let size = length-map levels items in
      let read : get_or (map items levels) i [] ≡ level = get_or-map items levels i v [] within ∙ ap items (sym is) ∙ sym value in
      subst (IsLevel side xs (2 ^ i)) read (are.each i (omega (arith, within, size)))

  pub all_built : (width : ℕ) (levels : List (List (Option ℕ))) → AreBuilt width levels → length xs < width + width → AreLevels side xs levels
  all_built width levels built enough = record { each = built.each; enough = let next = next_width width levels built in omega (arith, enough, next) }

  -- a power of two that the list has room for has its level
  pub level_there : (levels : List (List (Option ℕ))) (power : ℕ) → AreLevels side xs levels → 2 ^ power ≤ length xs → power < length levels
  level_there levels power are room = elim (cases_lt power (length levels)) [
    | inl h ↦ h
    | inr h ↦ absurd (let low = not_above (length levels) power h in omega (arith, low, room, are.enough))
  ]
    where
      not_above : (m n : ℕ) → m ≤ n → 2 ^ m ≤ 2 ^ n
      not_above m n h = elim (cases_lt m n) [
        | inl p ↦ let less = pow_below m n p in omega (arith, less)
        | inr p ↦ let same : m ≡ n = omega (arith, h, p) in omega (arith, ap (λ k. 2 ^ k) same)
      ]

-- ---- of values

module _ (side : Side) (values vs : List Value) (same : vs ≡ values) (S : ℕ → Bool) (o : Option ℕ) where
  pub inside_values : IsBest side (map datum_of values) S o → IfSome o (λ p. p < length vs)
  inside_values best = subst (λ n. IfSome o (λ p. p < n)) (length-map values datum_of ∙ ap length (sym same)) (best_inside side (map datum_of values) S o best)

  pub in_copy : IsBest side (map datum_of values) S o → IsBest side (map datum_of vs) S o
  in_copy best = subst (λ l. IsBest side (map datum_of l) S o) (sym same) best

  pub from_copy : IsBest side (map datum_of vs) S o → IsBest side (map datum_of values) S o
  from_copy best = subst (λ l. IsBest side (map datum_of l) S o) same best
