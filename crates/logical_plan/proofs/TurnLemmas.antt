-- Rows in the order in which sources are nested are, as a bag, those of FROM.
use Rattle.std.proofs.Common.{◌≡◌, ◌∙◌, ◌||◌, Bool, true, false, cond, not, ℕ, List, [], ◌∷◌, ◌++◌, append-nil, append_assoc, map, IsPermutation, refl, sym, ap, subst}
use Rattle.std.specs.List.{filter, list_any}
use Rattle.std.proofs.lemmas.List.Sorted.{IsPermutation-append, IsPermutation-append_right, IsPermutation-cons, IsPermutation-middle, IsPermutation-refl, IsPermutation-trans}
use Rattle.values.specs.Database.{Database}
use Rattle.values.specs.Datum.{Datum}
use Rattle.values.specs.Row.{Row}
use Rattle.semantics.specs.Body.{from_rows, source_rows, values_over}
use Rattle.semantics.specs.Joins.{alone, join, nulls, pairs}
use Rattle.semantics.specs.Query.{From, JoinKind, from_width, full, inner, joined, nothing, right, source_width, with_inner}
use Rattle.semantics.specs.Valuation.{Valuation, meets}
use Rattle.semantics.proofs.JoinLemmas.{IsPermutation-join}
use Rattle.logical_plan.specs.JoinPlan.{AreInner, InnerInTurn, all_in_turn, in_turn, rows_in_turn}
use Rattle.logical_plan.specs.Plan.{or_alone}

-- there is one
abbrev some_in : {X : Type 0} → List X → Bool
some_in [] = false
some_in (x ∷ xs) = true

any_passes : {X : Type 0} (p : X → Bool) (xs : List X) → list_any p xs ≡ some_in (filter p xs)
any_passes p [] = refl
any_passes p (x ∷ xs) =
    elim (p x) as (λ b. (b || list_any p xs) ≡ some_in (cond b (x ∷ filter p xs) (filter p xs))) [ true ↦ refl | false ↦ any_passes p xs ]

module _ (width : ℕ) (on : Row → Row → Bool) (rs : List Row) where
  abbrev padded : Row → Row
  padded l = l ++ nulls width

  -- the pairs and the rows that meet none, and behind them or among them those of one row more
  one_more : (l : Row) (ms : List Row) (ps lone turned : List Row) → IsPermutation (ps ++ map padded lone) turned
      → IsPermutation ((map (λ r. l ++ r) ms ++ ps) ++ map padded (cond (not (some_in ms)) (l ∷ lone) lone)) (or_alone true (padded l) (map (λ r. l ++ r) ms) ++ turned)
  one_more l [] ps lone turned rest =
      IsPermutation-trans (ps ++ padded l ∷ map padded lone) (padded l ∷ (ps ++ map padded lone)) (padded l ∷ turned)
      (IsPermutation-middle ps (padded l) (map padded lone)) (IsPermutation-cons (padded l) (ps ++ map padded lone) turned rest)
  one_more l (m ∷ ms) ps lone turned rest =
      subst (λ rows. IsPermutation rows (map (λ r. l ++ r) (m ∷ ms) ++ turned)) (sym (append_assoc (map (λ r. l ++ r) (m ∷ ms)) ps (map padded lone)))
      (IsPermutation-append_right (map (λ r. l ++ r) (m ∷ ms)) (ps ++ map padded lone) turned rest)

  left_turned : (ls : List Row) → IsPermutation (pairs on ls rs ++ map padded (alone on ls rs)) (in_turn JoinKind.left width on ls rs)
  left_turned [] = IsPermutation-refl []
  left_turned (l ∷ ls) =
      subst (λ (b : Bool). IsPermutation ((map (λ r. l ++ r) (filter (on l) rs) ++ pairs on ls rs) ++ map padded (cond (not b) (l ∷ alone on ls rs) (alone on ls rs)))
      (in_turn JoinKind.left width on (l ∷ ls) rs)) (sym (any_passes (on l) rs))
      (one_more l (filter (on l) rs) (pairs on ls rs) (alone on ls rs) (in_turn JoinKind.left width on ls rs) (left_turned ls))

  pub inner_joined : (m : ℕ) (ls : List Row) → join inner m width on ls rs ≡ in_turn inner width on ls rs
  inner_joined m ls = append-nil _ ∙ append-nil _

  -- the rows that none of these met, behind NULLs
  abbrev lone : ℕ → List Row → List Row
  lone m ls = map (λ r. nulls m ++ r) (alone (λ r l. on l r) rs ls)

  -- a join has the rows in turn
  pub turned_join : (kind : JoinKind) (m : ℕ) (ls : List Row) → IsPermutation (join kind m width on ls rs) (all_in_turn kind m width on ls rs)
  turned_join inner m ls = subst (IsPermutation (join inner m width on ls rs)) (inner_joined m ls) (IsPermutation-refl (join inner m width on ls rs))
  turned_join JoinKind.left m ls = subst (λ rows. IsPermutation rows (in_turn JoinKind.left width on ls rs)) (sym (append-nil _)) (left_turned ls)
  turned_join right m ls =
      subst (IsPermutation (join right m width on ls rs)) (ap (λ rows. rows ++ lone m ls) (append-nil (pairs on ls rs))) (IsPermutation-refl (join right m width on ls rs))
  turned_join full m ls =
      IsPermutation-append (pairs on ls rs ++ map padded (alone on ls rs)) (in_turn full width on ls rs) (lone m ls) (lone m ls) (left_turned ls)
      (IsPermutation-refl (lone m ls))

module _ (w : Datum) (db : Database) (value : Valuation) where
  pub turned : (from : From) → IsPermutation (from_rows w db value from) (rows_in_turn w db value from)
  turned nothing = IsPermutation-refl ([] ∷ [])
  turned (joined from kind source on) =
      IsPermutation-trans (from_rows w db value (joined from kind source on))
      (join kind (from_width from) (source_width source) (meets value on) (rows_in_turn w db value from) (source_rows w db source))
      (rows_in_turn w db value (joined from kind source on))
      (IsPermutation-join kind (from_width from) (source_width source) (meets value on) (from_rows w db value from) (rows_in_turn w db value from)
      (source_rows w db source) (source_rows w db source) (turned from) (IsPermutation-refl (source_rows w db source)))
      (turned_join (source_width source) (meets value on) (source_rows w db source) kind (from_width from) (rows_in_turn w db value from))
  turned (with_inner from query) = turned from

  -- of inner joins they are in order
  inner_turned : (from : From) → AreInner from → rows_in_turn w db value from ≡ from_rows w db value from
  inner_turned nothing inner_are = refl
  inner_turned (joined from kind source on) inner_are =
      subst (λ (k : JoinKind). rows_in_turn w db value (joined from k source on) ≡ from_rows w db value (joined from k source on)) (sym inner_are.1)
      (ap (λ ls. in_turn inner (source_width source) (meets value on) ls (source_rows w db source)) (inner_turned from inner_are.0)
      ∙ sym (inner_joined (source_width source) (meets value on) (source_rows w db source) (from_width from) (from_rows w db value from)))
  inner_turned (with_inner from query) inner_are = inner_turned from inner_are

pub inner_in_turn : InnerInTurn
inner_in_turn w db from inner_are = inner_turned w db (values_over w db from) from inner_are
