-- A plan of inner and LEFT joins has the rows of FROM on which conditions are true.
use Rattle.std.proofs.Common.{◌≡◌, ◌∙◌, ◌&&◌, ◌||◌, ◌+◌, ◌<◌, inl, inr, All, Bool, true, false, cond, flat_map, ℕ, zero, suc, List, [], ◌∷◌, ◌++◌, length, map, unwrap_or, Option, Some, refl, sym, ap, subst, arith, if◌then◌else◌, None}
use Rattle.std.specs.Prelude.{⊤, nat_lt}
use Rattle.std.specs.List.{filter}
use Rattle.std.proofs.lemmas.Bool.{ltb-true}
use Rattle.std.proofs.lemmas.List.{get_or_append_left, get_or-append-add, map-append, length-append}
use Rattle.std.proofs.lemmas.List.Elements.{All-cons, All-contains, All-head, All-nil, All-tail, All-weaker, filter-append, filter_agree}
use Rattle.std.proofs.lemmas.List.Folds.{list_all-append}
use Rattle.std.proofs.lemmas.List.Sorted.{All-permutation}
use Rattle.std.proofs.lemmas.List.{length-replicate}
use Rattle.values.specs.Database.{Database}
use Rattle.values.specs.Datum.{Datum, null}
use Rattle.values.specs.Row.{Row}
use Rattle.expr.specs.Conjuncts.{conjuncts, keeps}
use Rattle.expr.specs.Filled.{filled}
use Rattle.expr.specs.Meaning.{eval, run}
use Rattle.expr.specs.operations.Operations.{truth}
use Rattle.expr.specs.Term.{Term}
use Rattle.semantics.specs.Body.{answers_in, from_rows, source_rows}
use Rattle.semantics.specs.Hits.{IsChoice, IsChosen}
use Rattle.semantics.specs.Joins.{nulls, pads_left, pads_right, pairs}
use Rattle.semantics.specs.OneTable.{shown}
use Rattle.semantics.specs.Query.{From, JoinKind, Source, from_width, full, inner, joined, nothing, right, source_width, table, with_inner}
use Rattle.semantics.specs.Sequence.{value_at}
use Rattle.semantics.specs.Valuation.{holds_on, meets, with_answers}
use Rattle.semantics.proofs.GroupLemmas.{map-map, map_agree}
use Rattle.semantics.proofs.HitLemmas.{from_rows_are_choices}
use Rattle.semantics.proofs.MoveLemmas.{filter-filter}
use Rattle.logical_plan.specs.JoinPlan.{AreTestsOfNothing, AreWide, AreWideBefore, IsEarlyPlan, IsWideSource, NeedsOnly, columns_before, in_turn, rows_in_turn, seen}
use Rattle.logical_plan.specs.Plan as p
use Rattle.logical_plan.specs.Plan.{PlanData, are_true, beside, or_alone, rows_of, table_rows}
use Rattle.logical_plan.specs.Stands.{AreTestsOf, tested}
use Rattle.logical_plan.proofs.RowLemmas.{filter-all, filter-map, filter-none, or_alone-map}
use Rattle.logical_plan.proofs.StandLemmas.{conjuncts_are_true, list_all-IsPermutation, tests_agree}
use Rattle.logical_plan.proofs.TurnLemmas.{turned}
use Rattle.logical_plan.proofs.WhereLemmas.{once_rows}

-- ---- columns of two rows side by side

pub before_within : (count : ℕ) (columns : List ℕ) → All (λ at. at < count) (columns_before count columns)
before_within count [] = All-nil (λ at. at < count)
before_within count (at ∷ columns) = by_test (nat_lt at count) refl (before_within count columns)
  where
    by_test : (b : Bool) → nat_lt at count ≡ b → All (λ at. at < count) (columns_before count columns)
        → All (λ at. at < count) (cond b (at ∷ columns_before count columns) (columns_before count columns))
    by_test true is rest = All-cons (λ at. at < count) at (columns_before count columns) (ltb-true at count is) rest
    by_test false is rest = rest

module _ (l r : Row) where
  pub shown_left : (columns : List ℕ) → All (λ at. at < length l) columns → shown columns (l ++ r) ≡ shown columns l
  shown_left [] within = refl
  shown_left (at ∷ columns) within =
      let here : value_at (l ++ r) at ≡ value_at l at = get_or_append_left l r null at (All-head (λ at. at < length l) at columns within) in
      let rest = shown_left columns (All-tail (λ at. at < length l) at columns within) in
      λ i. here i ∷ rest i

  shown_right : (m : ℕ) (columns : List ℕ) → length l ≡ m → shown (map (λ c. m + c) columns) (l ++ r) ≡ shown columns r
  shown_right m [] long = refl
  shown_right m (c ∷ columns) long =
      let here : value_at (l ++ r) (m + c) ≡ value_at r c = subst (λ n. value_at (l ++ r) (n + c) ≡ value_at r c) long (get_or-append-add l r c null) in
      let rest = shown_right m columns long in
      λ i. here i ∷ rest i

  -- the columns of the one and then those of the other
  pub shown_beside : (m : ℕ) (read columns : List ℕ) → length l ≡ m → read ≡ columns_before m read ++ map (λ c. m + c) columns
      → shown read (l ++ r) ≡ shown (columns_before m read) l ++ shown columns r
  shown_beside m read columns long is =
      ap (λ read. shown read (l ++ r)) is ∙ map-append (value_at (l ++ r)) (columns_before m read) (map (λ c. m + c) columns)
      ∙ (λ i. shown_left (columns_before m read) (subst (λ n. All (λ at. at < n) (columns_before m read)) (sym long) (before_within m read)) i
      ++ shown_right m columns long i)

  -- what needs no more than columns of the one row says of both what it says of that
  pub says_left : (columns : List ℕ) → All (λ at. at < length l) columns → (t : Term) → NeedsOnly columns t → (o : Option Datum)
      → run o (l ++ r) t ≡ run o l t
  says_left columns within t needs o =
      sym (needs.1 o (l ++ r)) ∙ ap (λ row. run o row needs.0) (shown_left columns within) ∙ needs.1 o l

  pub true_left : (w : Datum) (columns : List ℕ) → All (λ at. at < length l) columns → (ts : List Term) → All (NeedsOnly columns) ts
      → are_true w ts (l ++ r) ≡ are_true w ts l
  true_left w columns within [] all = refl
  true_left w columns within (t ∷ ts) all =
      let here : holds_on (eval w) t (l ++ r) ≡ holds_on (eval w) t l =
      ap (λ value. keeps (truth (unwrap_or value null))) (says_left columns within t (All-head (NeedsOnly columns) t ts all) (Some w)) in
      let rest = true_left w columns within ts (All-tail (NeedsOnly columns) t ts all) in
      λ i. here i && rest i

-- the columns of a row of NULLs are NULLs
null_at : (width at : ℕ) → value_at (nulls width) at ≡ null
null_at zero at = refl
null_at (suc width) zero = refl
null_at (suc width) (suc at) = null_at width at

pub shown_nulls : (width : ℕ) (columns : List ℕ) → shown columns (nulls width) ≡ nulls (length columns)
shown_nulls width [] = refl
shown_nulls width (c ∷ columns) = let rest = shown_nulls width columns in λ i. null_at width c i ∷ rest i

-- where tests are true of what is read of both rows as a test is of the rows, the same rows stand behind
pub seen_behind : (w : Datum) (l : Row) (m : ℕ) (read columns : List ℕ) (tests : List Term) (passes : Row → Bool) → length l ≡ m
    → read ≡ columns_before m read ++ map (λ c. m + c) columns
    → ((r : Row) → are_true w tests (shown (columns_before m read) l ++ shown columns r) ≡ passes r) → (rows : List Row)
    → beside w tests (shown (columns_before m read) l) (map (shown columns) rows) ≡ map (shown read) (map (λ r. l ++ r) (filter passes rows))
seen_behind w l m read columns tests passes long is same rows =
    let seen_l = shown (columns_before m read) l in
    ap (map (λ r. seen_l ++ r)) (filter-map (λ r. are_true w tests (seen_l ++ r)) (shown columns) rows)
    ∙ map-map (λ r. seen_l ++ r) (shown columns) (filter (λ r. are_true w tests (seen_l ++ shown columns r)) rows)
    ∙ same_rows (filter (λ r. are_true w tests (seen_l ++ shown columns r)) rows)
    ∙ sym (map-map (shown read) (λ r. l ++ r) (filter (λ r. are_true w tests (seen_l ++ shown columns r)) rows))
    ∙ ap (λ rows. map (shown read) (map (λ r. l ++ r) rows)) (filter_agree (λ r. are_true w tests (seen_l ++ shown columns r)) passes same rows)
  where
    same_rows : (rows : List Row) → map (λ r. shown (columns_before m read) l ++ shown columns r) rows ≡ map (λ r. shown read (l ++ r)) rows
    same_rows [] = refl
    same_rows (r ∷ rows) = let rest = same_rows rows in λ i. sym (shown_beside l r m read columns long is) i ∷ rest i

-- ---- one row before a table

module _ (w : Datum) (read columns : List ℕ) (m : ℕ) (on : Term) (conditions tests early late : List Term)
    (is : read ≡ columns_before m read ++ map (λ c. m + c) columns)
    (same : (row : Row) → are_true w (conjuncts (filled [] on) ++ conditions) row ≡ are_true w (early ++ late) row)
    (early_are : All (NeedsOnly (columns_before m read)) early) (late_are : AreTestsOf read tests late) where
  abbrev value : Term → Row → Datum
  value = with_answers w []

  -- ON and the conditions are true where those that are tested early and those that are tested late are
  both_true : (l r : Row) → length l ≡ m
      → (meets value on l r && are_true w conditions (l ++ r)) ≡ (are_true w early l && are_true w tests (shown (columns_before m read) l ++ shown columns r))
  both_true l r long =
      let within : All (λ at. at < length l) (columns_before m read) = subst (λ n. All (λ at. at < n) (columns_before m read)) (sym long) (before_within m read) in
      (λ i. sym (conjuncts_are_true w (filled [] on) (l ++ r)) i && are_true w conditions (l ++ r))
      ∙ sym (list_all-append (λ t. holds_on (eval w) t (l ++ r)) (conjuncts (filled [] on)) conditions)
      ∙ same (l ++ r)
      ∙ list_all-append (λ t. holds_on (eval w) t (l ++ r)) early late
      ∙ (λ i. true_left l r w (columns_before m read) within early early_are i && sym (tests_agree w read tests late (l ++ r) late_are) i)
      ∙ ap (λ row. are_true w early l && are_true w tests row) (shown_beside l r m read columns long is)

  abbrev behind : Row → List Row → List Row
  behind l rows = beside w tests l (map (shown columns) rows)

  abbrev kept_pairs : Row → List Row → List Row
  kept_pairs l rows = filter (are_true w conditions) (map (λ r. l ++ r) (filter (meets value on l) rows))

  pairs_kept : (l : Row) (rows : List Row) → kept_pairs l rows ≡ map (λ r. l ++ r) (filter (λ r. meets value on l r && are_true w conditions (l ++ r)) rows)
  pairs_kept l rows =
      filter-map (are_true w conditions) (λ r. l ++ r) (filter (meets value on l) rows)
      ∙ ap (map (λ r. l ++ r)) (filter-filter (λ r. are_true w conditions (l ++ r)) (meets value on l) rows)

  -- where the early ones are true, the rows behind it are those of the table on which all are
  of_true : (l : Row) (rows : List Row) → length l ≡ m → are_true w early l ≡ true
      → behind (shown (columns_before m read) l) rows ≡ map (shown read) (kept_pairs l rows)
  of_true l rows long holds =
      seen_behind w l m read columns tests (λ r. meets value on l r && are_true w conditions (l ++ r)) long is
      (λ r. sym (both_true l r long ∙ ap (λ b. b && are_true w tests (shown (columns_before m read) l ++ shown columns r)) holds)) rows
      ∙ ap (map (shown read)) (sym (pairs_kept l rows))

  -- and elsewhere there are none
  of_false : (l : Row) (rows : List Row) → length l ≡ m → are_true w early l ≡ false → kept_pairs l rows ≡ []
  of_false l rows long fails =
      pairs_kept l rows
      ∙ ap (map (λ r. l ++ r)) (filter-none (λ r. meets value on l r && are_true w conditions (l ++ r))
      (λ r. both_true l r long ∙ ap (λ b. b && are_true w tests (shown (columns_before m read) l ++ shown columns r)) fails) rows)

  -- ---- all rows before it

  pub nested_rows : (ls rows : List Row) → All (λ l. length l ≡ m) ls
      → flat_map (λ l. behind l rows) (map (shown (columns_before m read)) (filter (are_true w early) ls))
      ≡ map (shown read) (filter (are_true w conditions) (pairs (meets value on) ls rows))
  nested_rows [] rows wide = refl
  nested_rows (l ∷ ls) rows wide =
      by_test (are_true w early l) refl (nested_rows ls rows (All-tail (λ l. length l ≡ m) l ls wide))
      ∙ sym (map-append (shown read) (kept_pairs l rows) (filter (are_true w conditions) (pairs (meets value on) ls rows)))
      ∙ ap (map (shown read)) (sym (filter-append (are_true w conditions) (map (λ r. l ++ r) (filter (meets value on l) rows)) (pairs (meets value on) ls rows)))
    where
      long : length l ≡ m
      long = All-head (λ l. length l ≡ m) l ls wide

      by_test : (b : Bool) → are_true w early l ≡ b
          → flat_map (λ l. behind l rows) (map (shown (columns_before m read)) (filter (are_true w early) ls)) ≡ map (shown read) (filter (are_true w conditions) (pairs (meets value on) ls rows))
          → flat_map (λ l. behind l rows) (map (shown (columns_before m read)) (cond b (l ∷ filter (are_true w early) ls) (filter (are_true w early) ls)))
          ≡ map (shown read) (kept_pairs l rows) ++ map (shown read) (filter (are_true w conditions) (pairs (meets value on) ls rows))
      by_test true holds rest = λ i. of_true l rows long holds i ++ rest i
      by_test false fails rest = rest ∙ ap (λ front. map (shown read) front ++ map (shown read) (filter (are_true w conditions) (pairs (meets value on) ls rows))) (sym (of_false l rows long fails))

-- ---- ON at the rows of a table

module _ (w : Datum) (read columns : List ℕ) (m width : ℕ) (on : Term) (tests : List Term)
    (is : read ≡ columns_before m read ++ map (λ c. m + c) columns) (tests_are : AreTestsOf read tests (conjuncts (filled [] on))) where
  pub on_true : (l r : Row) → length l ≡ m → are_true w tests (shown (columns_before m read) l ++ shown columns r) ≡ meets (with_answers w []) on l r
  on_true l r long =
      ap (are_true w tests) (sym (shown_beside l r m read columns long is)) ∙ tests_agree w read tests (conjuncts (filled [] on)) (l ++ r) tests_are
      ∙ conjuncts_are_true w (filled [] on) (l ++ r)

  nulls_seen : (l : Row) → length l ≡ m → shown (columns_before m read) l ++ nulls (length columns) ≡ shown read (l ++ nulls width)
  nulls_seen l long =
      ap (λ r. shown (columns_before m read) l ++ r) (sym (shown_nulls width columns)) ∙ sym (shown_beside l (nulls width) m read columns long is)

  -- what stands behind a row, padded or not
  pub behind_seen : (padded : Bool) (l : Row) (rows : List Row) → length l ≡ m
      → or_alone padded (shown (columns_before m read) l ++ nulls (length columns)) (beside w tests (shown (columns_before m read) l) (map (shown columns) rows))
      ≡ map (shown read) (or_alone padded (l ++ nulls width) (map (λ r. l ++ r) (filter (meets (with_answers w []) on l) rows)))
  behind_seen padded l rows long =
      (λ i. or_alone padded (nulls_seen l long i) (seen_behind w l m read columns tests (meets (with_answers w []) on l) long is (λ r. on_true l r long) rows i))
      ∙ or_alone-map padded (shown read) (l ++ nulls width) (map (λ r. l ++ r) (filter (meets (with_answers w []) on l) rows))

-- ---- a table that is padded

module _ (w : Datum) (read columns : List ℕ) (m width : ℕ) (on : Term) (conditions tests above early late : List Term)
    (is : read ≡ columns_before m read ++ map (λ c. m + c) columns)
    (same : (row : Row) → are_true w conditions row ≡ are_true w (early ++ late) row)
    (early_are : All (NeedsOnly (columns_before m read)) early) (tests_are : AreTestsOf read tests (conjuncts (filled [] on))) (above_are : AreTestsOf read above late) where
  abbrev met : Row → Row → Bool
  met = meets (with_answers w []) on

  -- what is tested early and what is tested above make up the conditions
  parts_true : (l r : Row) → length l ≡ m → are_true w conditions (l ++ r) ≡ (are_true w early l && are_true w above (shown read (l ++ r)))
  parts_true l r long =
      let within : All (λ at. at < length l) (columns_before m read) = subst (λ n. All (λ at. at < n) (columns_before m read)) (sym long) (before_within m read) in
      same (l ++ r)
      ∙ list_all-append (λ t. holds_on (eval w) t (l ++ r)) early late
      ∙ (λ i. true_left l r w (columns_before m read) within early early_are i && sym (tests_agree w read above late (l ++ r) above_are) i)

  -- a row's pairs, or its NULLs
  abbrev turned_of : Row → List Row → List Row
  turned_of l rows = or_alone true (l ++ nulls width) (map (λ r. l ++ r) (filter (met l) rows))

  abbrev padded_behind : Row → List Row → List Row
  padded_behind l rows = or_alone true (l ++ nulls (length columns)) (beside w tests l (map (shown columns) rows))

  -- where the early ones are true, those above keep what all do
  all_true : (l : Row) → length l ≡ m → are_true w early l ≡ true → (rs : List Row)
      → filter (are_true w above) (map (shown read) (map (λ r. l ++ r) rs)) ≡ map (shown read) (filter (are_true w conditions) (map (λ r. l ++ r) rs))
  all_true l long holds rs =
      filter-map (are_true w above) (shown read) (map (λ r. l ++ r) rs)
      ∙ ap (map (shown read))
      (filter-map (λ row. are_true w above (shown read row)) (λ r. l ++ r) rs
      ∙ ap (map (λ r. l ++ r))
      (filter_agree (λ r. are_true w above (shown read (l ++ r))) (λ r. are_true w conditions (l ++ r))
      (λ r. sym (parts_true l r long ∙ ap (λ b. b && are_true w above (shown read (l ++ r))) holds)) rs)
      ∙ sym (filter-map (are_true w conditions) (λ r. l ++ r) rs))

  none_true : (l : Row) → length l ≡ m → are_true w early l ≡ false → (rs : List Row) → filter (are_true w conditions) (map (λ r. l ++ r) rs) ≡ []
  none_true l long fails rs =
      filter-map (are_true w conditions) (λ r. l ++ r) rs
      ∙ ap (map (λ r. l ++ r))
      (filter-none (λ r. are_true w conditions (l ++ r)) (λ r. parts_true l r long ∙ ap (λ b. b && are_true w above (shown read (l ++ r))) fails) rs)

  -- each of a row's is that row and something behind it
  turned_is : (l : Row) (rows : List Row) → map (λ r. l ++ r) (or_alone true (nulls width) (filter (met l) rows)) ≡ turned_of l rows
  turned_is l rows = sym (or_alone-map true (λ r. l ++ r) (nulls width) (filter (met l) rows))

  alone_true : (l : Row) (rows : List Row) → length l ≡ m → are_true w early l ≡ true
      → filter (are_true w above) (padded_behind (shown (columns_before m read) l) rows) ≡ map (shown read) (filter (are_true w conditions) (turned_of l rows))
  alone_true l rows long holds =
      ap (filter (are_true w above)) (behind_seen w read columns m width on tests is tests_are true l rows long)
      ∙ subst (λ (xs : List Row). filter (are_true w above) (map (shown read) xs) ≡ map (shown read) (filter (are_true w conditions) xs)) (turned_is l rows)
      (all_true l long holds (or_alone true (nulls width) (filter (met l) rows)))

  alone_false : (l : Row) (rows : List Row) → length l ≡ m → are_true w early l ≡ false → filter (are_true w conditions) (turned_of l rows) ≡ []
  alone_false l rows long fails =
      subst (λ (xs : List Row). filter (are_true w conditions) xs ≡ []) (turned_is l rows) (none_true l long fails (or_alone true (nulls width) (filter (met l) rows)))

  abbrev behind_all : List Row → List Row → List Row
  behind_all ls rows = filter (are_true w above) (flat_map (λ l. padded_behind l rows) (map (shown (columns_before m read)) ls))

  abbrev kept_turned : List Row → List Row → List Row
  kept_turned ls rows = map (shown read) (filter (are_true w conditions) (in_turn JoinKind.left width met ls rows))

  pub padded_rows : (ls rows : List Row) → All (λ l. length l ≡ m) ls
      → behind_all (filter (are_true w early) ls) rows ≡ kept_turned ls rows
  padded_rows [] rows wide = refl
  padded_rows (l ∷ ls) rows wide =
      by_test (are_true w early l) refl (padded_rows ls rows (All-tail (λ l. length l ≡ m) l ls wide))
      ∙ sym (map-append (shown read) (filter (are_true w conditions) (turned_of l rows)) (filter (are_true w conditions) (in_turn JoinKind.left width met ls rows)))
      ∙ ap (map (shown read)) (sym (filter-append (are_true w conditions) (turned_of l rows) (in_turn JoinKind.left width met ls rows)))
    where
      long : length l ≡ m
      long = All-head (λ l. length l ≡ m) l ls wide

      by_test : (b : Bool) → are_true w early l ≡ b
          → behind_all (filter (are_true w early) ls) rows ≡ kept_turned ls rows
          → behind_all (cond b (l ∷ filter (are_true w early) ls) (filter (are_true w early) ls)) rows
          ≡ map (shown read) (filter (are_true w conditions) (turned_of l rows)) ++ kept_turned ls rows
      by_test true holds rest =
          filter-append (are_true w above) (padded_behind (shown (columns_before m read) l) rows) (flat_map (λ l. padded_behind l rows) (map (shown (columns_before m read)) (filter (are_true w early) ls)))
          ∙ (λ i. alone_true l rows long holds i ++ rest i)
      by_test false fails rest = rest ∙ ap (λ front. map (shown read) front ++ kept_turned ls rows) (sym (alone_false l rows long fails))

-- ---- widths

chosen_width : (padded : Bool) (width : ℕ) (rows : List Row) (row : Row) → All (λ row. length row ≡ width) rows → IsChosen padded width rows row → length row ≡ width
chosen_width padded width rows row wide (inl held) = All-contains (λ row. length row ≡ width) rows row wide held
chosen_width padded width rows row wide (inr other) = ap length other.1 ∙ length-replicate width null

pub seen_is : (from : From) (columns : List ℕ) (row : Row) → All (λ at. at < from_width from) columns → seen from columns row ≡ shown columns row
seen_is nothing [] row within = refl
seen_is nothing (at ∷ columns) row within = absurd (let none = All-head (λ at. at < 0) at columns within in omega (arith, none))
seen_is (joined from kind source on) columns row within = refl
seen_is (with_inner from query) columns row within = seen_is from columns row within

pub wide_before : (db : Database) (from : From) → AreWide db from → AreWideBefore db from
wide_before db nothing wide = tt
wide_before db (joined from kind source on) wide = wide.0
wide_before db (with_inner from query) wide = wide_before db from wide

-- each source is a table, and no inner query stands beside them
abbrev pub AreTables : From → Type 0
AreTables nothing = ⊤
AreTables (joined from kind source on) = AreTables from × ((at : ℕ) × (width : ℕ) × (source ≡ table at width))
AreTables (with_inner from query) = ⊥

pub early_tables : (from : From) (read : List ℕ) (conditions : List Term) (plan : PlanData) → IsEarlyPlan read from conditions plan → AreTables from
early_tables nothing read conditions plan of = tt
early_tables (joined from inner source on) read conditions plan of =
    (early_tables from (columns_before (from_width from) read) of.early of.left of.before, (of.at, of.width, of.source_is))
early_tables (joined from JoinKind.left source on) read conditions plan of =
    (early_tables from (columns_before (from_width from) read) of.early of.left of.before, (of.at, of.width, of.source_is))
early_tables (joined from right source on) read conditions plan of = absurd of
early_tables (joined from full source on) read conditions plan of = absurd of
early_tables (with_inner from query) read conditions plan of = absurd of

module _ (w : Datum) (db : Database) where
  joined_width : (from : From) (kind : JoinKind) (source : Source) (on : Term) (at width : ℕ) → source ≡ table at width → IsWideSource db source
      → ((padded : Bool) (row : Row) → IsChoice w db padded from row → length row ≡ from_width from)
      → (padded : Bool) (row : Row) → IsChoice w db padded (joined from kind source on) row → length row ≡ from_width from + source_width source
  joined_width from kind source on at width source_is wide before padded row (l, r, is, l_is, r_is) =
      ap length is ∙ length-append l r
      ∙ (λ i. before (padded || pads_left kind) l l_is i
      + chosen_width (padded || pads_right kind) (source_width source) (source_rows w db source) r
      (subst (λ (s : Source). All (λ row. length row ≡ source_width s) (source_rows w db s)) (sym source_is) (subst (IsWideSource db) source_is wide)) r_is i)

  -- a choice from the tables has as many values as they have columns
  pub choice_width : (from : From) → AreTables from → AreWide db from → (padded : Bool) (row : Row) → IsChoice w db padded from row → length row ≡ from_width from
  choice_width nothing tables wide padded row is = ap length is
  choice_width (joined from kind source on) tables wide padded row is =
      joined_width from kind source on tables.1.0 tables.1.1 tables.1.2 wide.1 (choice_width from tables.0 wide.0) padded row is
  choice_width (with_inner from query) tables wide padded row is = absurd tables

  abbrev pub value_of : Term → Row → Datum
  value_of = with_answers w []

  -- each row of FROM, in turn, is a choice
  pub turned_are_choices : (from : From) (padded : Bool) → All (IsChoice w db padded from) (rows_in_turn w db value_of from)
  turned_are_choices from padded =
      All-permutation (IsChoice w db padded from) (from_rows w db value_of from) (rows_in_turn w db value_of from)
      (turned w db value_of from) (from_rows_are_choices w db value_of from padded)

  pub rows_wide : (from : From) → AreTables from → AreWide db from → All (λ l. length l ≡ from_width from) (rows_in_turn w db value_of from)
  rows_wide from tables wide =
      All-weaker (IsChoice w db false from) (λ l. length l ≡ from_width from) (λ l is. choice_width from tables wide false l is)
      (rows_in_turn w db value_of from) (turned_are_choices from false)

  -- there are no inner queries beside them
  pub no_answers : (from : From) → AreTables from → answers_in w db from ≡ []
  no_answers nothing tables = refl
  no_answers (joined from kind source on) tables = no_answers from tables.0
  no_answers (with_inner from query) tables = absurd tables

  -- ---- the plan

  nothing_agrees : (tests conditions : List Term) → AreTestsOfNothing tests conditions → are_true w tests [] ≡ are_true w conditions []
  nothing_agrees [] [] all = refl
  nothing_agrees [] (t ∷ conditions) all = absurd all
  nothing_agrees (test ∷ tests) [] all = absurd all
  nothing_agrees (test ∷ tests) (t ∷ conditions) all =
      let here : holds_on (eval w) test [] ≡ holds_on (eval w) t [] = ap (λ value. keeps (truth (unwrap_or value null))) (all.0 (Some w)) in
      let rest = nothing_agrees tests conditions all.1 in
      λ i. here i && rest i

  one_row : (b : Bool) → (if b then [] ∷ [] else []) ≡ map (λ (row : Row). let none : Row = [] in none) (cond b ([] ∷ []) [])
  one_row true = refl
  one_row false = refl

  -- conditions on the rows of a plan
  pub rows_tested : (tests : List Term) (plan : PlanData) → rows_of w db (tested tests plan) ≡ filter (are_true w tests) (rows_of w db plan)
  rows_tested [] plan = sym (filter-all (are_true w []) (λ row. refl) (rows_of w db plan))
  rows_tested (test ∷ tests) plan = refl

  -- what is read of some rows before a table
  pub rows_before : (from : From) (read : List ℕ) (before : PlanData) (rows : List Row) → rows_of w db before ≡ map (seen from (columns_before (from_width from) read)) rows
      → rows_of w db before ≡ map (shown (columns_before (from_width from) read)) rows
  rows_before from read before rows is =
      is
      ∙ map_agree (seen from (columns_before (from_width from) read)) (shown (columns_before (from_width from) read))
      (λ row. seen_is from (columns_before (from_width from) read) row (before_within (from_width from) read)) rows

  pub early_rows : (from : From) (read : List ℕ) (conditions : List Term) (plan : PlanData) → AreWideBefore db from → IsEarlyPlan read from conditions plan
      → rows_of w db plan ≡ map (seen from read) (filter (are_true w conditions) (rows_in_turn w db value_of from))
  early_rows nothing read conditions plan wide of =
      ap (rows_of w db) of.plan_is ∙ once_rows w db of.tests
      ∙ ap (λ b. if b then [] ∷ [] else []) (nothing_agrees of.tests conditions of.tests_are) ∙ one_row (are_true w conditions [])
  early_rows (joined from inner source on) read conditions plan wide of =
      ap (rows_of w db) of.plan_is
      ∙ ap (λ lefts. flat_map (λ l. beside w of.tests l (map (shown of.columns) (table_rows db of.at))) lefts) (rows_before from read of.left (filter (are_true w of.early) (rows_in_turn w db value_of from)) (early_rows from (columns_before (from_width from) read) of.early of.left (wide_before db from wide) of.before))
      ∙ nested_rows w read of.columns (from_width from) on conditions of.tests of.early of.late of.read_is
      (λ row. list_all-IsPermutation (λ t. holds_on (eval w) t row) (conjuncts (filled [] on) ++ conditions) (of.early ++ of.late) of.same)
      of.early_are of.late_are (rows_in_turn w db value_of from) (table_rows db of.at) (rows_wide from (early_tables from (columns_before (from_width from) read) of.early of.left of.before) wide)
      ∙ ap (λ (s : Source). map (shown read) (filter (are_true w conditions) (in_turn inner (source_width s) (meets value_of on) (rows_in_turn w db value_of from) (source_rows w db s))))
      (sym of.source_is)
  early_rows (joined from JoinKind.left source on) read conditions plan wide of =
      ap (rows_of w db) of.plan_is
      ∙ rows_tested of.above (p.joined of.left (record { table = of.at; columns = of.columns; tests = of.tests; padded = true; search = None }))
      ∙ ap (λ lefts. filter (are_true w of.above)
      (flat_map (λ l. or_alone true (l ++ nulls (length of.columns)) (beside w of.tests l (map (shown of.columns) (table_rows db of.at)))) lefts))
      (rows_before from read of.left (filter (are_true w of.early) (rows_in_turn w db value_of from)) (early_rows from (columns_before (from_width from) read) of.early of.left (wide_before db from wide) of.before))
      ∙ padded_rows w read of.columns (from_width from) of.width on conditions of.tests of.above of.early of.late of.read_is
      (λ row. list_all-IsPermutation (λ t. holds_on (eval w) t row) conditions (of.early ++ of.late) of.same)
      of.early_are of.tests_are of.above_are (rows_in_turn w db value_of from) (table_rows db of.at)
      (rows_wide from (early_tables from (columns_before (from_width from) read) of.early of.left of.before) wide)
      ∙ ap (λ (s : Source). map (shown read) (filter (are_true w conditions) (in_turn JoinKind.left (source_width s) (meets value_of on) (rows_in_turn w db value_of from) (source_rows w db s))))
      (sym of.source_is)
  early_rows (joined from right source on) read conditions plan wide of = absurd of
  early_rows (joined from full source on) read conditions plan wide of = absurd of
  early_rows (with_inner from query) read conditions plan wide of = absurd of
