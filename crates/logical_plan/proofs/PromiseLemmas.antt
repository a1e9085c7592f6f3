-- A row on which the conditions of a table are true meets the range of a promised search.
use Rattle.std.proofs.Common.{◌≡◌, ◌∙◌, ◌+◌, ◌<◌, ◌++◌, ◌&&◌, All, Bool, true, false, ℕ, zero, suc, List, [], ◌∷◌, length, map, Option, None, Some, refl, sym, ap, arith}
use Rattle.std.specs.Prelude.{slice_get, slice_index_or}
use Rattle.std.specs.List.{list_all}
use Rattle.std.proofs.lemmas.List.Elements.{All-cons, All-contains, All-head, All-nil, All-tail}
use Rattle.std.proofs.lemmas.Option.{same_Some}
use Rattle.values.specs.Datum.{Datum, null}
use Rattle.values.specs.Row.{Row}
use Rattle.expr.specs.Columns.{Agree, columns_of}
use Rattle.expr.specs.Conjuncts.{is_true}
use Rattle.expr.specs.Meaning.{eval, run}
use Rattle.expr.specs.Term.{Term}
use Rattle.expr.proofs.ColumnLemmas.{depends_on_columns}
use Rattle.expr.proofs.StandLemmas.{is_total}
use Rattle.semantics.specs.OneTable.{shown}
use Rattle.semantics.specs.Sequence.{value_at}
use Rattle.semantics.specs.Valuation.{holds_on}
use Rattle.btree_cursor.specs.key_ranges.Ranges.{is_above, is_below, meets}
use Rattle.index_choice.specs.ColumnBounds.{says}
use Rattle.index_choice.specs.declared.comparisons.Side.{Side}
use Rattle.index_choice.specs.declared.comparisons.Side.TheVariants.{Equal, Lower, Upper}
use Rattle.index_choice.proofs.BoundLemmas.{bound_says_conjunct}
use Rattle.logical_plan.specs.Plan.{EdgeTerm, NestedData, are_true, edge_after}
use Rattle.logical_plan.specs.Searches.{AreBoundsPromised, IsEdgePromised, IsPromised, SearchesLeaveOut}

both : (a b : Bool) → (a && b) ≡ true → (a ≡ true) × (b ≡ true)
both true b is = (refl, is)
both false b is = absurd cc

-- what is true of a whole list is true of each of it
all_held : {X : Type 0} (p : X → Bool) (xs : List X) → list_all p xs ≡ true → All (λ x. p x ≡ true) xs
all_held p [] all = All-nil (λ x. p x ≡ true)
all_held p (x ∷ xs) all = let parts = both (p x) (list_all p xs) all in All-cons (λ x. p x ≡ true) x xs parts.0 (all_held p xs parts.1)

-- values after others
after : (l xs : List Datum) (at : ℕ) → slice_index_or (l ++ xs) (length l + at) null ≡ slice_index_or xs at null
after [] xs at = let none : 0 + at ≡ at = omega arith in ap (λ n. slice_index_or xs n null) none
after (x ∷ l) xs at =
    let more : length (x ∷ l) + at ≡ suc (length l + at) = omega arith in
    ap (λ n. slice_index_or (x ∷ (l ++ xs)) n null) more ∙ after l xs at

-- and in front of others
before_others : (l xs : List Datum) (at : ℕ) → at < length l → slice_index_or (l ++ xs) at null ≡ slice_index_or l at null
before_others [] xs at within = absurd (omega (arith, within))
before_others (x ∷ l) xs zero within = refl
before_others (x ∷ l) xs (suc at) within = before_others l xs at (omega (arith, within))

agree_in_front : (l xs : List Datum) (cs : List ℕ) → All (λ c. c < length l) cs → Agree (l ++ xs) l cs
agree_in_front l xs [] early = tt
agree_in_front l xs (c ∷ cs) early =
    (before_others l xs c (All-head (λ c. c < length l) c cs early), agree_in_front l xs cs (All-tail (λ c. c < length l) c cs early))

-- the value of a column that is read, by its place among these
shown_at : (columns : List ℕ) (r : Row) (at c : ℕ) → slice_get columns at ≡ Some c → slice_index_or (shown columns r) at null ≡ value_at r c
shown_at [] r at c is = absurd cc
shown_at (x ∷ columns) r zero c is = ap (value_at r) (same_Some x c is)
shown_at (x ∷ columns) r (suc at) c is = shown_at columns r at c is

module _ (w : Datum) (nest : NestedData) (l r : Row) (all : are_true w nest.tests (l ++ shown nest.columns r) ≡ true) where
  abbrev whole : Row
  whole = l ++ shown nest.columns r

  -- a bound says so of the column's value
  says_so : (side : Side) (strict : Bool) (value : Term) (c : ℕ) → IsPromised (length l) nest side strict value c
      → says side strict (value_at r c) (eval w value l) ≡ true
  says_so side strict value c p =
      let held : holds_on (eval w) p.test whole ≡ true =
      All-contains (λ t. holds_on (eval w) t whole ≡ true) nest.tests p.test (all_held (λ t. holds_on (eval w) t whole) nest.tests all) p.among in
      let same : run (Some w) whole value ≡ Some (eval w value l) =
      depends_on_columns (Some w) whole l value (agree_in_front l (shown nest.columns r) (columns_of value) p.early) ∙ is_total w value l in
      let is : is_true (run (Some w) whole p.test) ≡ says side strict (slice_index_or whole (length l + p.at) null) (eval w value l) =
      bound_says_conjunct p.test (record { side = side; strict = strict; column = length l + p.at; value = value }) p.bounds (Some w) whole (eval w value l) same in
      let column : slice_index_or whole (length l + p.at) null ≡ value_at r c =
      after l (shown nest.columns r) p.at ∙ shown_at nest.columns r p.at c p.column_is in
      sym (is ∙ ap (λ x. says side strict x (eval w value l)) column) ∙ ap is_true (is_total w p.test whole) ∙ held

  above_met : (key : List ℕ) (edge : Option EdgeTerm) → IsEdgePromised (length l) nest Lower key edge
      → is_above (edge_after w l edge) (slice_index_or (shown key r) 0 null) ≡ true
  above_met key None p = refl
  above_met [] (Some edge) p = absurd p
  above_met (c ∷ key) (Some edge) p = says_so Lower edge.strict edge.value c p

  below_met : (key : List ℕ) (edge : Option EdgeTerm) → IsEdgePromised (length l) nest Upper key edge
      → is_below (edge_after w l edge) (slice_index_or (shown key r) 0 null) ≡ true
  below_met key None p = refl
  below_met [] (Some edge) p = absurd p
  below_met (c ∷ key) (Some edge) p = says_so Upper edge.strict edge.value c p

  range_met : (key : List ℕ) (equal : List Term) (lower upper : Option EdgeTerm) → AreBoundsPromised (length l) nest key equal lower upper
      → meets (map (λ t. eval w t l) equal) (edge_after w l lower) (edge_after w l upper) (shown key r) ≡ true
  range_met key [] lower upper p = rw (above_met key lower p.0, below_met key upper p.1) refl
  range_met [] (value ∷ equal) lower upper p = absurd p
  range_met (c ∷ key) (value ∷ equal) lower upper p =
      let first = says_so Equal false value c p.0 in
      let rest = range_met key equal lower upper p.1 in
      rw (first, rest) refl

pub searches_leave_out : SearchesLeaveOut
searches_leave_out w nest s l r promised all = range_met w nest l r all s.key s.equal s.lower s.upper promised
