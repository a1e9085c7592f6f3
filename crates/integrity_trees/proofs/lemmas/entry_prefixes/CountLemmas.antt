-- One entry more of those that were counted.
use Rattle.std.proofs.Common.{◌≡◌, ◌⊎◌, ◌+◌, ◌<◌, ◌≤◌, ◌↔◌, ℕ, zero, suc, Bool, true, false, IsFalse, IsTrue, List, [], ◌∷◌, ◌++◌, Option, None, Some, get_or, length, min, slice_get, take, refl, sym, ◌∙◌, ap, subst, inl, inr, ⊎_elim, arith}
use Rattle.std.proofs.Math.ListN.{replicate}
use Rattle.std.proofs.lemmas.Bool.{cases_lt}
use Rattle.std.proofs.lemmas.List.{length_push}
use Rattle.std.proofs.lemmas.Option.{slice_get-get_or, slice_get_within}
use Rattle.values.specs.Row.{Row}
use Rattle.values.specs.Bounds.{counted}
use Rattle.records.specs.Record.{IsRecord}
use Rattle.integrity_trees.specs.wanted_entries.Unique.{Agree, AreApart, HasNoNull, IsNotUnique, IsRunCount, none, one, same, more}
use Rattle.integrity_trees.specs.declared.entry_prefixes.counting.Prefixes.{Prefixes}
use Rattle.integrity_trees.specs.entry_prefixes.Counting.{EndsWith, HasRuns, IsCounted}
use Rattle.integrity_trees.specs.entry_prefixes.Last.{IsLast, LastData}
use Rattle.integrity_trees.proofs.lemmas.entry_prefixes.AgreeLemmas.{agree_fewer}

-- what a list with one more element at its end has at a place
pushed : (rows : List Row) (row : Row) (i : ℕ) (x : Row) → slice_get (rows ++ row ∷ []) i ≡ Some x
    → (slice_get rows i ≡ Some x) ⊎ ((i ≡ length rows) × (row ≡ x))
pushed [] row zero x at = let e : Some row ≡ Some x = at in inr (refl, cc)
pushed [] row (suc i) x at = let e : None ≡ Some x = at in cc
pushed (first ∷ rows) row zero x at = inl at
pushed (first ∷ rows) row (suc i) x at = ⊎_elim
    (λ (before : slice_get rows i ≡ Some x). inl before)
    (λ (last : (i ≡ length rows) × (row ≡ x)). inr (ap suc last.0, last.1))
    (pushed rows row i x at)

-- what stands before an element at the end
kept : (rows : List Row) (row : Row) (i : ℕ) (x : Row) → slice_get rows i ≡ Some x → slice_get (rows ++ row ∷ []) i ≡ Some x
kept [] row i x at = let e : None ≡ Some x = at in cc
kept (first ∷ rows) row zero x at = at
kept (first ∷ rows) row (suc i) x at = kept rows row i x at

-- what stands behind so many elements
pub behind : {X : Type 0} (xs : List X) (x : X) (later : List X) → slice_get (xs ++ x ∷ later) (length xs) ≡ Some x
behind [] x later = refl
behind (first ∷ xs) x later = behind xs x later

module _ (width : ℕ) where
  runs_same : (before : List Row) (last row : Row) (n : ℕ) → IsRunCount width (before ++ last ∷ []) n → Agree width last row
      → IsRunCount width ((before ++ last ∷ []) ++ row ∷ []) n
  runs_same [] last row zero h agree = elim h [ ]
  runs_same [] last row (suc zero) one agree = same agree one
  runs_same [] last row (suc (suc n)) h agree = elim h [ ]
  runs_same (a ∷ []) last row n (same equal runs) agree = same equal (runs_same [] last row n runs agree)
  runs_same (a ∷ []) last row (suc n) (more differ runs) agree = more differ (runs_same [] last row n runs agree)
  runs_same (a ∷ b ∷ before) last row n (same equal runs) agree = same equal (runs_same (b ∷ before) last row n runs agree)
  runs_same (a ∷ b ∷ before) last row (suc n) (more differ runs) agree = more differ (runs_same (b ∷ before) last row n runs agree)

  runs_more : (before : List Row) (last row : Row) (n : ℕ) → IsRunCount width (before ++ last ∷ []) n → ¬ Agree width last row
      → IsRunCount width ((before ++ last ∷ []) ++ row ∷ []) (suc n)
  runs_more [] last row zero h differ = elim h [ ]
  runs_more [] last row (suc zero) one differ = more differ one
  runs_more [] last row (suc (suc n)) h differ = elim h [ ]
  runs_more (a ∷ []) last row n (same equal runs) differ = same equal (runs_more [] last row n runs differ)
  runs_more (a ∷ []) last row (suc n) (more apart runs) differ = more apart (runs_more [] last row n runs differ)
  runs_more (a ∷ b ∷ before) last row n (same equal runs) differ = same equal (runs_more (b ∷ before) last row n runs differ)
  runs_more (a ∷ b ∷ before) last row (suc n) (more apart runs) differ = more apart (runs_more (b ∷ before) last row n runs differ)

  runs_none : (n : ℕ) → IsRunCount width [] n → n ≡ 0
  runs_none zero h = refl
  runs_none (suc n) h = elim h [ ]

-- the count of one entry more
counted_more : (n count : ℕ) → count ≡ counted n → counted (count + 1) ≡ counted (suc n)
counted_more n count is = omega (arith, is)

pub has_no_runs : (columns count : ℕ) → count ≡ 0 → HasRuns [] columns count
has_no_runs columns count is = (0, none, is)

-- the changes of so many columns' first values, where one entry more agrees with the last in `shared` of them and in no more
module _ (rows : List Row) (row : Row) (shared columns before after : ℕ) (runs : HasRuns rows columns before) where
  pub runs_stay : (last : Row) → EndsWith rows (Some last) → columns ≤ shared → Agree shared last row → after ≡ before → HasRuns (rows ++ row ∷ []) columns after
  runs_stay last ends few agree is = (
    runs.0,
    subst (λ (l : List Row). IsRunCount columns (l ++ row ∷ []) runs.0) (sym ends.1)
        (runs_same columns ends.0 last row runs.0 (subst (λ (l : List Row). IsRunCount columns l runs.0) ends.1 runs.1) (agree_fewer last row shared columns few agree)),
    is ∙ runs.2,
  )

  pub runs_grow : (last : Row) → EndsWith rows (Some last) → suc shared ≤ columns → ¬ Agree (suc shared) last row → after ≡ counted (before + 1)
      → HasRuns (rows ++ row ∷ []) columns after
  runs_grow last ends many differ is = (
    suc runs.0,
    subst (λ (l : List Row). IsRunCount columns (l ++ row ∷ []) (suc runs.0)) (sym ends.1)
        (runs_more columns ends.0 last row runs.0 (subst (λ (l : List Row). IsRunCount columns l runs.0) ends.1 runs.1)
        (λ agree. differ (agree_fewer last row columns (suc shared) many agree))),
    is ∙ counted_more runs.0 before runs.2,
  )

  pub runs_begin : rows ≡ [] → after ≡ counted (before + 1) → HasRuns (rows ++ row ∷ []) columns after
  runs_begin empty is =
      let nothing = runs_none columns runs.0 (subst (λ (l : List Row). IsRunCount columns l runs.0) empty runs.1) in (
        1,
        subst (λ (l : List Row). IsRunCount columns (l ++ row ∷ []) 1) (sym empty) one,
        is ∙ counted_more 0 before (runs.2 ∙ ap counted nothing),
      )

-- the counts of all columns, of the rows so far and of one more
module _ (rows : List Row) (row : Row) (old new : List ℕ) (shared : ℕ) (long : length new ≡ length old)
    (fewer : (columns count : ℕ) → columns < shared → slice_get old columns ≡ Some count → slice_get new columns ≡ Some count)
    (grown : (columns count : ℕ) → shared ≤ columns → slice_get old columns ≡ Some count → slice_get new columns ≡ Some (counted (count + 1)))
    (runs : (columns count : ℕ) → slice_get old columns ≡ Some count → HasRuns rows (suc columns) count) where
  module _ (columns count : ℕ) (at : slice_get new columns ≡ Some count) where
    abbrev before : ℕ
    before = get_or old columns 0

    there : slice_get old columns ≡ Some before
    there = slice_get-get_or old columns 0 (let less = slice_get_within new columns count at in omega (arith, less, long))

    as_before : columns < shared → count ≡ before
    as_before less = let e : Some count ≡ Some before = sym at ∙ fewer columns before less there in cc

    as_grown : shared ≤ columns → count ≡ counted (before + 1)
    as_grown least = let e : Some count ≡ Some (counted (before + 1)) = sym at ∙ grown columns before least there in cc

    inside : columns < length old
    inside = slice_get_within old columns before there

    pub counted_first : rows ≡ [] → shared ≡ 0 → HasRuns (rows ++ row ∷ []) (suc columns) count
    counted_first empty zero_is = runs_begin rows row shared (suc columns) before count (runs columns before there) empty (as_grown (omega (arith, zero_is)))

    pub counted_later : (last : Row) → EndsWith rows (Some last) → Agree shared last row → (shared < length old → ¬ Agree (suc shared) last row)
        → HasRuns (rows ++ row ∷ []) (suc columns) count
    counted_later last ends agree differ = ⊎_elim
        (λ (less : columns < shared). runs_stay rows row shared (suc columns) before count (runs columns before there) last ends (omega (arith, less)) agree (as_before less))
        (λ (least : shared ≤ columns). runs_grow rows row shared (suc columns) before count (runs columns before there) last ends (omega (arith, least))
        (differ (let less = inside in omega (arith, least, less))) (as_grown least))
        (cases_lt columns shared)

-- no entry agrees with the one before it, where this is so of those that were given and of one more
module _ (width : ℕ) (rows : List Row) (row : Row) (parted : AreApart width rows) where
  pub apart_first : rows ≡ [] → AreApart width (rows ++ row ∷ [])
  apart_first empty i a b at_a at_b = ⊎_elim
      (λ (before : slice_get rows (i + 1) ≡ Some b).
      let less = slice_get_within rows (i + 1) b before in
      let few = ap length empty in
      absurd (omega (arith, less, few)))
      (λ (last : (i + 1 ≡ length rows) × (row ≡ b)).
      let few = ap length empty in
      let e = last.0 in
      absurd (omega (arith, e, few)))
      (pushed rows row (i + 1) b at_b)

  pub apart_later : (before : List Row) (last : Row) → rows ≡ before ++ last ∷ [] → (Agree width last row → HasNoNull (take width last) → ⊥)
      → AreApart width (rows ++ row ∷ [])
  apart_later before last rows_are differ i a b at_a at_b full agree = ⊎_elim
      (λ (old_b : slice_get rows (i + 1) ≡ Some b). ⊎_elim
      (λ (old_a : slice_get rows i ≡ Some a). parted i a b old_a old_b full agree)
      (λ (new_a : (i ≡ length rows) × (row ≡ a)).
      let less = slice_get_within rows (i + 1) b old_b in
      let e = new_a.0 in
      absurd (omega (arith, less, e)))
      (pushed rows row i a at_a))
      (λ (new_b : (i + 1 ≡ length rows) × (row ≡ b)). ⊎_elim
      (λ (old_a : slice_get rows i ≡ Some a).
      let there : slice_get (before ++ last ∷ []) i ≡ Some a = subst (λ (l : List Row). slice_get l i ≡ Some a) rows_are old_a in
      ⊎_elim
      (λ (earlier : slice_get before i ≡ Some a).
      let less = slice_get_within before i a earlier in
      let long = length_push before last in
      let all = ap length rows_are in
      let e = new_b.0 in
      absurd (omega (arith, less, long, all, e)))
      (λ (here : (i ≡ length before) × (last ≡ a)).
      differ (subst (λ (r : Row). Agree width r row) (sym here.1) (subst (λ (r : Row). Agree width a r) (sym new_b.1) agree))
      (subst (λ (r : Row). HasNoNull (take width r)) (sym here.1) full))
      (pushed before last i a there))
      (λ (new_a : (i ≡ length rows) × (row ≡ a)).
      let e = new_b.0 in
      let f = new_a.0 in
      absurd (omega (arith, e, f)))
      (pushed rows row i a at_a))
      (pushed rows row (i + 1) b at_b)

-- an entry that agrees with the one before it
pub repeated_now : (width : ℕ) (rows : List Row) (row : Row) (before : List Row) (last : Row) → rows ≡ before ++ last ∷ []
    → Agree width last row → HasNoNull (take width row) → IsNotUnique width (rows ++ row ∷ [])
repeated_now width rows row before last rows_are agree full =
    let long = length_push before last in
    let count = ap length rows_are in
    record {
      one = length before;
      other = length rows;
      a = last;
      b = row;
      differ = λ e. omega (arith, e, long, count);
      one_at = kept rows row (length before) last (subst (λ (l : List Row). slice_get l (length before) ≡ Some last) (sym rows_are) (behind before last []));
      other_at = behind rows row [];
      agree = agree;
      full = subst (λ (r : Row). HasNoNull r) (sym agree) full;
    }

-- two that agreed before are there still
pub repeated_still : (width : ℕ) (rows : List Row) (row : Row) → IsNotUnique width rows → IsNotUnique width (rows ++ row ∷ [])
repeated_still width rows row two = record {
  one = two.one;
  other = two.other;
  a = two.a;
  b = two.b;
  differ = two.differ;
  one_at = kept rows row two.one two.a two.one_at;
  other_at = kept rows row two.other two.b two.other_at;
  agree = two.agree;
  full = two.full;
}

-- none of no entries agrees with another
pub never_repeated : (width : ℕ) → ¬ IsNotUnique width []
never_repeated width two = let e : None ≡ Some two.a = two.one_at in cc

pub always_apart : (width : ℕ) → AreApart width []
always_apart width i a b at_a at_b = absurd (let e : None ≡ Some a = at_a in cc)

-- no entry has been counted
zeros : (width columns count : ℕ) → slice_get (replicate width 0) columns ≡ Some count → count ≡ 0
zeros zero columns count at = let e : None ≡ Some count = at in cc
zeros (suc width) zero count at = let e : Some 0 ≡ Some count = at in cc
zeros (suc width) (suc columns) count at = zeros width columns count at

pub none_counted : (prefixes : Prefixes) (width : ℕ) → prefixes.distinct.items ≡ replicate width 0 → prefixes.repeats ≡ false → IsCounted [] prefixes
none_counted prefixes width items told = record {
  counts = λ columns count at.
      has_no_runs (suc columns) count (zeros width columns count (subst (λ (l : List ℕ). slice_get l columns ≡ Some count) items at));
  repeated = λ t. absurd (let e : false ≡ true = sym told ∙ t in cc);
  apart = λ not. always_apart (length prefixes.distinct.items);
}

-- what is told of an entry beside the one before it
abbrev pub HasTold : Bool → Prefixes → Prefixes → Type 0
HasTold told old new = ((told ≡ true) × (new.repeats ≡ true)) ⊎ ((told ≡ false) × (new.repeats ≡ old.repeats))

-- one entry more was counted, which agrees with the last in `shared` columns and in no more
module _ (rows : List Row) (row : Row) (last : Option Row) (old new : Prefixes) (shared width : ℕ) (told : Bool)
    (ends : EndsWith rows last) (width_is : width ≡ length old.distinct.items) (long : length new.distinct.items ≡ length old.distinct.items)
    (fewer : (columns count : ℕ) → columns < shared → slice_get old.distinct.items columns ≡ Some count → slice_get new.distinct.items columns ≡ Some count)
    (grown : (columns count : ℕ) → shared ≤ columns → slice_get old.distinct.items columns ≡ Some count
    → slice_get new.distinct.items columns ≡ Some (counted (count + 1)))
    (most : shared ≤ width) (has_told : HasTold told old new) (are : IsCounted rows old) where
  same_repeats : told ≡ false → new.repeats ≡ old.repeats
  same_repeats e = ⊎_elim
      (λ (yes : (told ≡ true) × (new.repeats ≡ true)). absurd (let f : false ≡ true = sym e ∙ yes.0 in cc))
      (λ (no : (told ≡ false) × (new.repeats ≡ old.repeats)). no.1)
      has_told

  still : told ≡ false → IsTrue new.repeats → IsNotUnique (length new.distinct.items) (rows ++ row ∷ [])
  still e t = subst (λ (w : ℕ). IsNotUnique w (rows ++ row ∷ [])) (sym long)
      (repeated_still (length old.distinct.items) rows row (are.repeated (sym (same_repeats e) ∙ t)))

  before_apart : told ≡ false → ¬ IsTrue new.repeats → AreApart (length old.distinct.items) rows
  before_apart e not = are.apart (λ t. not (same_repeats e ∙ t))

  first_counted : last ≡ None → shared ≡ 0 → IsFalse told → IsCounted (rows ++ row ∷ []) new
  first_counted nothing zero_is e =
      let empty = subst (λ (o : Option Row). EndsWith rows o) nothing ends in
      record {
        counts = λ columns count at.
            counted_first rows row old.distinct.items new.distinct.items shared long fewer grown are.counts columns count at empty zero_is;
        repeated = still e;
        apart = λ not. subst (λ (w : ℕ). AreApart w (rows ++ row ∷ [])) (sym long) (apart_first (length old.distinct.items) rows row (before_apart e not) empty);
      }

  module _ (one : Row) (last_is : last ≡ Some one) (agree : Agree shared one row) (differ : shared < width → ¬ Agree (suc shared) one row)
      (tells : IsTrue told ↔ ((shared ≡ width) × HasNoNull (take width row))) where
    last_ends : EndsWith rows (Some one)
    last_ends = subst (λ (o : Option Row). EndsWith rows o) last_is ends

    now_repeated : told ≡ true → IsNotUnique (length new.distinct.items) (rows ++ row ∷ [])
    now_repeated e =
        let full = tells.0 e in
        subst (λ (w : ℕ). IsNotUnique w (rows ++ row ∷ [])) (width_is ∙ sym long)
        (repeated_now width rows row last_ends.0 one last_ends.1 (subst (λ (n : ℕ). Agree n one row) full.0 agree) full.1)

    all_shared : Agree width one row → shared ≡ width
    all_shared whole = ⊎_elim
        (λ (less : shared < width). absurd (differ less (agree_fewer one row width (suc shared) less whole)))
        (λ (least : width ≤ shared). omega (arith, least, most))
        (cases_lt shared width)

    now_apart : told ≡ false → ¬ IsTrue new.repeats → AreApart (length new.distinct.items) (rows ++ row ∷ [])
    now_apart e not = subst (λ (w : ℕ). AreApart w (rows ++ row ∷ [])) (width_is ∙ sym long)
        (apart_later width rows row (subst (λ (w : ℕ). AreApart w rows) (sym width_is) (before_apart e not)) last_ends.0 one last_ends.1
        (λ whole full. let t = tells.1 (all_shared whole, subst (λ (r : Row). HasNoNull r) whole full) in let x : false ≡ true = sym e ∙ t in cc))

    later_counted : IsCounted (rows ++ row ∷ []) new
    later_counted = record {
      counts = λ columns count at.
          counted_later rows row old.distinct.items new.distinct.items shared long fewer grown are.counts columns count at one last_ends agree
          (λ less. differ (omega (arith, less, width_is)));
      repeated = λ t. ⊎_elim
          (λ (yes : (told ≡ true) × (new.repeats ≡ true)). now_repeated yes.0)
          (λ (no : (told ≡ false) × (new.repeats ≡ old.repeats)). still no.0 t)
          has_told;
      apart = λ not. ⊎_elim
          (λ (yes : (told ≡ true) × (new.repeats ≡ true)). absurd (not yes.1))
          (λ (no : (told ≡ false) × (new.repeats ≡ old.repeats)). now_apart no.0 not)
          has_told;
    }

  pub one_counted : (last ≡ None → shared ≡ 0) → (last ≡ None → IsFalse told)
      → ((one : Row) → last ≡ Some one → Agree shared one row)
      → ((one : Row) → last ≡ Some one → shared < width → ¬ Agree (suc shared) one row)
      → ((one : Row) → last ≡ Some one → IsTrue told ↔ ((shared ≡ width) × HasNoNull (take width row)))
      → IsCounted (rows ++ row ∷ []) new
  one_counted zero_is untold agree differ tells = by_last last refl
    where
      by_last : (o : Option Row) → last ≡ o → IsCounted (rows ++ row ∷ []) new
      by_last None e = first_counted e (zero_is e) (untold e)
      by_last (Some entry) e = later_counted entry e (agree entry e) (differ entry e) (tells entry e)

-- the first entry was counted
pub first_entry : (row : Row) (old new : Prefixes) → length new.distinct.items ≡ length old.distinct.items
    → ((columns count : ℕ) → slice_get old.distinct.items columns ≡ Some count → slice_get new.distinct.items columns ≡ Some (counted (count + 1)))
    → new.repeats ≡ old.repeats → IsCounted [] old → IsCounted (row ∷ []) new
first_entry row old new long grown kept_told are =
    one_counted [] row None old new 0 (length old.distinct.items) false refl refl long
    (λ columns count less at. absurd (omega (arith, less))) (λ columns count least at. grown columns count at) (omega arith) (inr (refl, kept_told)) are
    (λ nothing. refl) (λ nothing. refl)
    (λ one e. absurd (let f : None ≡ Some one = e in cc)) (λ one e. absurd (let f : None ≡ Some one = e in cc))
    (λ one e. absurd (let f : None ≡ Some one = e in cc))

-- one more was counted, of which it was told whether it agrees with the last in so many columns as are counted
module _ (rows : List Row) (one row : Row) (old new : Prefixes) (agreeing shared : ℕ) (told : Bool) (ends : EndsWith rows (Some one))
    (long : length new.distinct.items ≡ length old.distinct.items)
    (fewer : (columns count : ℕ) → columns < shared → slice_get old.distinct.items columns ≡ Some count → slice_get new.distinct.items columns ≡ Some count)
    (grown : (columns count : ℕ) → shared ≤ columns → slice_get old.distinct.items columns ≡ Some count
    → slice_get new.distinct.items columns ≡ Some (counted (count + 1)))
    (shared_is : shared ≡ min agreeing (length old.distinct.items)) (has_told : HasTold told old new) (are : IsCounted rows old) where
  pub later_entry : Agree agreeing one row → (agreeing < length old.distinct.items → ¬ Agree (suc agreeing) one row)
      → (IsTrue told ↔ ((shared ≡ length old.distinct.items) × HasNoNull (take (length old.distinct.items) row))) → IsCounted (rows ++ row ∷ []) new
  later_entry agree differ tells =
      let at_most : shared ≤ agreeing = omega (arith, shared_is) in
      one_counted rows row (Some one) old new shared (length old.distinct.items) told ends refl long fewer grown (omega (arith, shared_is)) has_told are
      (λ e. absurd (let f : Some one ≡ None = e in cc)) (λ e. absurd (let f : Some one ≡ None = e in cc))
      (λ entry e. let alike : one ≡ entry = cc in subst (λ (r : Row). Agree shared r row) alike (agree_fewer one row agreeing shared at_most agree))
      (λ entry e less whole.
      let alike : one ≡ entry = cc in
      let all : shared ≡ agreeing = omega (arith, shared_is, less) in
      differ (omega (arith, all, less)) (subst (λ (n : ℕ). Agree (suc n) one row) all (subst (λ (r : Row). Agree (suc shared) r row) (sym alike) whole)))
      (λ entry e. tells)

-- what is known of the entry before, where there is none, and where there is one
pub no_last : (last : LastData) (entry : Option Row) → IsLast last entry → last.is_some ≡ false → entry ≡ None
no_last last None is e = refl
no_last last (Some row) is e = absurd (let f : false ≡ true = sym e ∙ is.0 in cc)

pub some_last : (last : LastData) (entry : Option Row) → IsLast last entry → last.is_some ≡ true
    → (row : Row) × (entry ≡ Some row) × IsRecord last.bytes row
some_last last None is e = absurd (let f : false ≡ true = sym is ∙ e in cc)
some_last last (Some row) is e = (row, refl, is.1)
