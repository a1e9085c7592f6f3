-- In a tree in order the entries that meet a range are one run, from the first that doesn't come before it.
use Rattle.std.proofs.Common.{◌≡◌, ◌∙◌, ◌≤◌, Bool, true, false, not, ◌&&◌, List, [], ◌∷◌, ◌++◌, length, map, refl, sym, ap}
use Rattle.std.specs.Prelude.{All, ⊤}
use Rattle.std.specs.List.{filter, list_all}
use Rattle.std.specs.Ordering.{is_lt}
use Rattle.std.specs.declared.cmp.Ordering.{Ordering}
use Rattle.std.specs.declared.cmp.Ordering.TheVariants.{Less, Equal, Greater}
use Rattle.std.proofs.lemmas.List.Elements.{All-head, All-tail}
use Rattle.values.specs.Datum.{Datum}
use Rattle.btree_cursor.specs.key_ranges.Ranges.{Range, from_cut, has_null, is_before, key_cmp, to_cut, width}
use Rattle.btree_cursor.specs.key_ranges.Runs.{Ascend, take_while}
use Rattle.btree_cursor.proofs.lemmas.key_ranges.RangeLemmas.{cuts_are_range}
use Rattle.btree_cursor.proofs.lemmas.key_ranges.RunLemmas.{before_too}
use Rattle.records_searches.specs.Meets.{meets_range}

-- ---- of any test

module _ {X : Type 0} (test : X → Bool) where
  pub filter_drops : (x : X) (xs : List X) → test x ≡ false → filter test (x ∷ xs) ≡ filter test xs
  filter_drops x xs out = rw out refl

  filter_takes : (x : X) (xs : List X) → test x ≡ true → filter test (x ∷ xs) ≡ x ∷ filter test xs
  filter_takes x xs met = rw met refl

  pub while_stops : (x : X) (xs : List X) → test x ≡ false → take_while test (x ∷ xs) ≡ []
  while_stops x xs out = rw out refl

  pub while_takes : (x : X) (xs : List X) → test x ≡ true → take_while test (x ∷ xs) ≡ x ∷ take_while test xs
  while_takes x xs met = rw met refl

  -- where an element fails it, all later ones do
  abbrev FailsOn : List X → Type 0
  FailsOn [] = ⊤
  FailsOn (x ∷ xs) = (test x ≡ false → filter test xs ≡ []) × FailsOn xs

  one_run : (xs : List X) → FailsOn xs → filter test xs ≡ take_while test xs
  one_run [] fails = refl
  one_run (x ∷ xs) fails = by-test (test x) refl (one_run xs fails.1)
    where
      by-test : (answer : Bool) → test x ≡ answer → filter test xs ≡ take_while test xs → filter test (x ∷ xs) ≡ take_while test (x ∷ xs)
      by-test true met on = filter_takes x xs met ∙ ap (λ (l : List X). x ∷ l) on ∙ sym (while_takes x xs met)
      by-test false out on = filter_drops x xs out ∙ fails.0 out ∙ sym (while_stops x xs out)

and_left : (a b : Bool) → (a && b) ≡ true → a ≡ true
and_left true b is = refl
and_left false b is = is

and_right : (a b : Bool) → (a && b) ≡ true → b ≡ true
and_right true b is = is
and_right false b is = cc

lesser : (o : Ordering) → is_lt o ≡ true → o ≡ Less
lesser Less is = refl
lesser Equal is = cc
lesser Greater is = cc

within_if : (a b met : Bool) → a ≡ false → (not a && b) ≡ met → b ≡ met
within_if true b met out is = cc
within_if false b met out is = is

within_not : (a b met : Bool) → a ≡ true → (not a && b) ≡ met → met ≡ false
within_not true b met is_in is = sym is
within_not false b met is_in is = cc

-- ---- of entries with these values

-- an entry comes before a range, or doesn't
abbrev pub Answers : {X : Type 0} → (X → List Datum) → List Bool → Range → Bool → X → Type 0
Answers values descends range answer x = is_before descends (from_cut descends range) (values x) ≡ answer

module _ {X : Type 0} (values : X → List Datum) (descends : List Bool) (range : Range) (sound : has_null range ≡ false) where
  abbrev IsWide : X → Type 0
  IsWide x = width range ≤ length (values x)

  abbrev IsSo : Bool → X → Type 0
  IsSo answer x = Answers values descends range answer x

  abbrev met : X → Bool
  met x = meets_range range (values x)

  is_met : (x : X) → IsWide x → IsSo false x → is_before descends (to_cut descends range) (values x) ≡ met x
  is_met x wide out =
      within_if (is_before descends (from_cut descends range) (values x)) (is_before descends (to_cut descends range) (values x)) (met x) out
      (cuts_are_range descends range (values x) sound wide)

  is_unmet : (x : X) → IsWide x → IsSo true x → met x ≡ false
  is_unmet x wide is_in =
      within_not (is_before descends (from_cut descends range) (values x)) (is_before descends (to_cut descends range) (values x)) (met x) is_in
      (cuts_are_range descends range (values x) sound wide)

  none_later : (x : X) (xs : List X) → list_all (λ y. is_lt (key_cmp descends (values x) y)) (map values xs) ≡ true
      → is_before descends (to_cut descends range) (values x) ≡ false → All IsWide xs → All (IsSo false) xs → filter met xs ≡ []
  none_later x [] up out wide answers = refl
  none_later x (y ∷ ys) up out wide answers =
      filter_drops met y ys (sym (is_met y (All-head IsWide y ys wide) (All-head (IsSo false) y ys answers)) ∙ late (is_before descends (to_cut descends range) (values y)) refl)
      ∙ none_later x ys (and_right (is_lt (key_cmp descends (values x) (values y))) (list_all (λ z. is_lt (key_cmp descends (values x) z)) (map values ys)) up) out
      (All-tail IsWide y ys wide) (All-tail (IsSo false) y ys answers)
    where
      late : (answer : Bool) → is_before descends (to_cut descends range) (values y) ≡ answer → is_before descends (to_cut descends range) (values y) ≡ false
      late false is = is
      late true is =
          let less : key_cmp descends (values x) (values y) ≡ Less =
          lesser (key_cmp descends (values x) (values y)) (and_left (is_lt (key_cmp descends (values x) (values y))) (list_all (λ z. is_lt (key_cmp descends (values x) z)) (map values ys)) up) in
          let too : is_before descends (to_cut descends range) (values x) ≡ true =
          before_too descends (to_cut descends range).key (values x) (values y) (to_cut descends range).behind less is in
          cc

  fails : (xs : List X) → Ascend descends (map values xs) → All IsWide xs → All (IsSo false) xs → FailsOn met xs
  fails [] up wide answers = tt
  fails (x ∷ xs) up wide answers = (
    λ out. none_later x xs up.0 (is_met x (All-head IsWide x xs wide) (All-head (IsSo false) x xs answers) ∙ out) (All-tail IsWide x xs wide)
        (All-tail (IsSo false) x xs answers),
    fails xs up.1 (All-tail IsWide x xs wide) (All-tail (IsSo false) x xs answers),
  )

  -- those that meet the range are the run from where those that come before it end
  pub run_after : (front rest : List X) → Ascend descends (map values (front ++ rest)) → All IsWide front → All IsWide rest → All (IsSo true) front
      → All (IsSo false) rest → filter met (front ++ rest) ≡ take_while met rest
  run_after [] rest up front_wide wide before after = one_run met rest (fails rest up wide after)
  run_after (x ∷ front) rest up front_wide wide before after =
      filter_drops met x (front ++ rest) (is_unmet x (All-head IsWide x front front_wide) (All-head (IsSo true) x front before))
      ∙ run_after front rest up.1 (All-tail IsWide x front front_wide) wide (All-tail (IsSo true) x front before) after

  -- and none does where all come before it
  pub none_met : (xs : List X) → All IsWide xs → All (IsSo true) xs → filter met xs ≡ []
  none_met [] wide before = refl
  none_met (x ∷ xs) wide before =
      filter_drops met x xs (is_unmet x (All-head IsWide x xs wide) (All-head (IsSo true) x xs before))
      ∙ none_met xs (All-tail IsWide x xs wide) (All-tail (IsSo true) x xs before)
