-- A run of rows whose wanted entries are in a batch, and the entries of an index beside it.
use Rattle.std.proofs.Common.{◌≡◌, ◌∙◌, ◌⊎◌, ◌+◌, ◌-◌, ◌^◌, ◌<◌, ◌≤◌, ◌<ℤ◌, ◌≤ℤ◌, ◌++◌, ℕ, ℤ, All, Bool, true, false, Contains, IsPermutation, List, [], ◌∷◌, None, Option, Some, length, map, min, refl, sym, ap, subst, inl, inr, ⊎_elim, arith}
use Rattle.std.proofs.lemmas.List.{length-map}
use Rattle.std.proofs.lemmas.List.Elements.{Contains-append_cases, Contains-append_left, Contains-append_right}
use Rattle.std.proofs.lemmas.List.Sorted.{Contains-permutation}
use Rattle.values.specs.Datum.{int}
use Rattle.values.specs.Row.{Row}
use Rattle.btree.specs.image.Tree.{Place}
use Rattle.btree.proofs.lemmas.image.ListLemmas.{cons_cases, get_contains, in_head, in_none, in_tail}
use Rattle.expr.specs.Term.{Term}
use Rattle.values.specs.Bounds.{IsAbove, IsAtMost, counted}
use Rattle.integrity_trees.specs.wanted_entries.Bags.{Coded, IsOnce}
use Rattle.integrity_trees.specs.wanted_entries.Wanted.{IndexedPlaces, KeyedRow, entry_of, values_at, wanted}
use Rattle.integrity_trees.proofs.lemmas.wanted_entries.BagLemmas.{same}
use Rattle.integrity_trees.proofs.lemmas.wanted_entries.KeptLemmas.{in_map, kept_first, left_first}
use Rattle.integrity_indexes.specs.entry_batches.Codes.{IsHeld, codes_of}
use Rattle.integrity_indexes.proofs.lemmas.entry_batches.CodeLemmas.{same_rows}
use Rattle.integrity_indexes.specs.index_batches.Placed.{IsInBatch, IsKeyed, IsPlaced, coded_entry}
use Rattle.integrity_indexes.specs.index_batches.Trees.{AllPlaced, HasAstray}
use Rattle.integrity_indexes.proofs.lemmas.index_batches.KeyLemmas.{one_front, one_rowid}
use Rattle.integrity_trees.proofs.lemmas.entry_prefixes.ListLemmas.{get_of, mapped_at}
use Rattle.integrity_indexes.specs.index_rows.Kept.{keeps_row}
use Rattle.integrity_indexes.proofs.lemmas.index_rows.CompareLemmas.{kept_rows}
use Rattle.integrity_indexes.specs.declared.row_batches.runs.Run.{Run}
use Rattle.integrity_indexes.specs.row_batches.Runs.{IsAdded, IsKeptRow}
use Rattle.integrity_indexes.proofs.lemmas.row_batches.KeptLemmas.{IsBehind, Rise, above_or_behind, at_most_itself, behind_below, entry_is, entry_keyed, kept_in, less_at_most, not_both, one_some, rise_head, rise_tail}

module _ (index : IndexedPlaces) (condition : Option Term) (keyed : List KeyedRow) (entries : List Row) where
  abbrev pub columns : ℕ
  columns = length index.columns

  abbrev pub wanted_of : List Row
  wanted_of = wanted index (keeps_row condition) keyed

  abbrev pub code_of_row : ℤ → KeyedRow → Coded
  code_of_row rowid k = coded_entry rowid (values_at k.row index.columns)

  -- an entry of a batch is a row's that the condition keeps
  pub record IsOfRow (x : Coded) : Type 0 where
    pub k : KeyedRow
    pub among : Contains (kept_rows condition keyed) k
    pub rowid_is : k.rowid ≡ Some x.key
    pub code_is : x.code ≡ codes_of (values_at k.row index.columns)
    pub held : All IsHeld (values_at k.row index.columns)

  -- Some rows are still to come; each other row that the condition keeps has its entry in the batch, or its rowid is behind the
  -- run, and each entry of the index whose rowid is behind the run is wanted.
  pub record Gathers (rest : List KeyedRow) (run : Run) (kept : ℕ) : Type 0 where
    pub passed : ℕ
    pub rise : Rise rest
    pub rowids : (k : KeyedRow) → Contains keyed k → (p : ℤ) × (k.rowid ≡ Some p)
    pub all_in : (k : KeyedRow) → Contains rest k → Contains keyed k
    pub above : (k : KeyedRow) (p : ℤ) → Contains rest k → k.rowid ≡ Some p → IsAbove run.above p
    pub later : (k : KeyedRow) (p : ℤ) → Contains rest k → k.rowid ≡ Some p → IsAbove run.last p
    pub over : (k : KeyedRow) (p : ℤ) → Contains rest k → k.rowid ≡ Some p → (x : Coded) → Contains run.batch x → x.key <ℤ p
    pub climbs : (p : ℤ) → IsBehind run.above p → IsBehind run.last p
    pub inside : (x : Coded) → Contains run.batch x → IsBehind run.last x.key
    pub of_rows : (x : Coded) → Contains run.batch x → IsOfRow x
    pub among : (k : KeyedRow) → Contains (kept_rows condition rest) k → Contains (kept_rows condition keyed) k
    pub found : (k : KeyedRow) (p : ℤ) → Contains (kept_rows condition keyed) k → k.rowid ≡ Some p
        → Contains (kept_rows condition rest) k ⊎ (IsBehind run.above p ⊎ Contains run.batch (code_of_row p k))
    pub placed : (entry : Row) (p : ℤ) (front : Row) → Contains entries entry → IsKeyed columns entry p front → IsBehind run.above p
        → Contains wanted_of entry
    pub many : passed + length (kept_rows condition rest) ≡ length (kept_rows condition keyed)
    pub kept_are : kept ≡ counted passed

  -- before the first row
  pub none_gathered : (run : Run) → run.batch ≡ [] → run.above ≡ None → run.last ≡ None → Rise keyed
      → ((k : KeyedRow) → Contains keyed k → (p : ℤ) × (k.rowid ≡ Some p)) → Gathers keyed run 0
  none_gathered run empty low last rise rowids = record {
    passed = 0;
    rise = rise;
    rowids = rowids;
    all_in = λ k h. h;
    above = λ k p h is. subst (λ (o : Option ℤ). IsAbove o p) (sym low) tt;
    later = λ k p h is. subst (λ (o : Option ℤ). IsAbove o p) (sym last) tt;
    over = λ k p h is x there. absurd (in_none x (subst (λ (l : List Coded). Contains l x) empty there));
    climbs = λ p behind. absurd (subst (λ (o : Option ℤ). IsBehind o p) low behind);
    inside = λ x there. absurd (in_none x (subst (λ (l : List Coded). Contains l x) empty there));
    of_rows = λ x there. absurd (in_none x (subst (λ (l : List Coded). Contains l x) empty there));
    among = λ k h. h;
    found = λ k p h is. inl h;
    placed = λ entry p front h is behind. absurd (subst (λ (o : Option ℤ). IsBehind o p) low behind);
    many = omega arith;
    kept_are = omega arith;
  }

  module _ (rest : List KeyedRow) (run : Run) (kept : ℕ) (g : Gathers rest run kept) where
    -- an entry that is in the batch is wanted
    row_wanted : (entry : Row) (p : ℤ) (front : Row) → IsKeyed columns entry p front → IsInBatch run.batch p front → Contains wanted_of entry
    row_wanted entry p front is there =
        let r = g.of_rows (coded_entry p front) there.there in
        let values : values_at r.k.row index.columns ≡ front = same_rows (values_at r.k.row index.columns) front r.held there.held (sym r.code_is) in
        let e : entry_of index r.k ≡ entry =
        entry_is index r.k p r.rowid_is ∙ ap (λ (l : Row). l ++ int p ∷ []) values ∙ sym is.is in
        subst (λ (x : Row). Contains wanted_of x) e (in_map (entry_of index) (kept_rows condition keyed) r.k r.among)

    module _ (values : Place → Row) (places : List Place) (entries_are : entries ≡ map values places) where
      -- an entry whose rowid isn't above so much, where each of them is placed
      pub placed_to : (high : Option ℤ) → AllPlaced run.batch run.above high columns values places → (entry : Row) (p : ℤ) (front : Row)
          → Contains entries entry → IsKeyed columns entry p front → IsAtMost high p → Contains wanted_of entry
      placed_to high all entry p front h is most = above_or_behind run.above p
          (λ (low : IsAbove run.above p).
          let there = subst (λ (l : List Row). Contains l entry) entries_are h in
          let x = mapped_at values places there.0 entry (get_of (map values places) entry there) in
          let r : IsPlaced run.batch run.above high columns entry =
          subst (λ (e : Row). IsPlaced run.batch run.above high columns e) x.is (all x.x (get_contains places there.0 x.x x.at)) in
          let key : r.rowid ≡ p = one_rowid columns entry r.rowid p r.front front r.keyed is in
          let same : r.front ≡ front = one_front columns entry r.rowid p r.front front r.keyed is in
          let there = r.there (subst (λ (q : ℤ). IsAbove run.above q) (sym key) low, subst (λ (q : ℤ). IsAtMost high q) (sym key) most) in
          row_wanted entry p front is
          (subst (λ (f : Row). IsInBatch run.batch p f) same (subst (λ (q : ℤ). IsInBatch run.batch q r.front) key there)))
          (λ (behind : IsBehind run.above p). g.placed entry p front h is behind)

      -- one that is astray isn't wanted, where no row that is to come is within the run
      pub astray : (high : Option ℤ) → HasAstray run.batch run.above high columns values places
          → ((k : KeyedRow) (p : ℤ) → Contains (kept_rows condition rest) k → k.rowid ≡ Some p → IsAtMost high p → ⊥)
          → (entry : Row) × Contains entries entry × (¬ Contains wanted_of entry)
      astray high has none = (
        values has.place,
        subst (λ (l : List Row). Contains l (values has.place)) (sym entries_are) (in_map values places has.place has.among),
        λ h.
            let x = mapped_at (entry_of index) (kept_rows condition keyed) h.0 (values has.place) (get_of wanted_of (values has.place) h) in
            let kept_here : Contains (kept_rows condition keyed) x.x = get_contains (kept_rows condition keyed) h.0 x.x x.at in
            let rowid = g.rowids x.x (kept_in (λ (k : KeyedRow). keeps_row condition k.row) keyed x.x kept_here) in
            let is : IsKeyed columns (values has.place) rowid.0 (values_at x.x.row index.columns) =
            subst (λ (e : Row). IsKeyed columns e rowid.0 (values_at x.x.row index.columns)) x.is (entry_keyed index x.x rowid.0 rowid.1) in
            let within = has.astray.within rowid.0 (values_at x.x.row index.columns) is in
            ⊎_elim
            (λ (left : Contains (kept_rows condition rest) x.x). none x.x rowid.0 left rowid.1 within.1)
            (λ (other : IsBehind run.above rowid.0 ⊎ Contains run.batch (code_of_row rowid.0 x.x)). ⊎_elim
            (λ (behind : IsBehind run.above rowid.0). not_both run.above rowid.0 within.0 behind)
            (λ (there : Contains run.batch (code_of_row rowid.0 x.x)). has.astray.lacks rowid.0 (values_at x.x.row index.columns) is there)
            other)
            (g.found x.x rowid.0 kept_here rowid.1),
      )

      -- the next run begins behind the last row
      pub turned : (last : ℤ) → run.last ≡ Some last → AllPlaced run.batch run.above (Some last) columns values places
          → (next : Run) → next.batch ≡ [] → next.above ≡ Some last → next.last ≡ run.last → Gathers rest next kept
      turned last last_is all next empty low same_last = record {
        passed = g.passed;
        rise = g.rise;
        rowids = g.rowids;
        all_in = g.all_in;
        above = λ k p h is. subst (λ (o : Option ℤ). IsAbove o p) (last_is ∙ sym low) (g.later k p h is);
        later = λ k p h is. subst (λ (o : Option ℤ). IsAbove o p) (sym same_last) (g.later k p h is);
        over = λ k p h is x there. absurd (in_none x (subst (λ (l : List Coded). Contains l x) empty there));
        climbs = λ p behind. subst (λ (o : Option ℤ). IsBehind o p) (low ∙ sym last_is ∙ sym same_last) behind;
        inside = λ x there. absurd (in_none x (subst (λ (l : List Coded). Contains l x) empty there));
        of_rows = λ x there. absurd (in_none x (subst (λ (l : List Coded). Contains l x) empty there));
        among = g.among;
        found = λ k p h is. ⊎_elim
            (λ (left : Contains (kept_rows condition rest) k). inl left)
            (λ (other : IsBehind run.above p ⊎ Contains run.batch (code_of_row p k)). inr (inl
            (subst (λ (o : Option ℤ). IsBehind o p) (last_is ∙ sym low) (⊎_elim
            (λ (behind : IsBehind run.above p). g.climbs p behind)
            (λ (there : Contains run.batch (code_of_row p k)). g.inside (code_of_row p k) there)
            other))))
            (g.found k p h is);
        placed = λ entry p front h is behind. placed_to (Some last) all entry p front h is (subst (λ (o : Option ℤ). IsBehind o p) low behind);
        many = g.many;
        kept_are = g.kept_are;
      }

  -- ---- a row more

  -- what a batch has once a row was added
  record IsGrown (old new : List Coded) (x : Coded) (keeps : Bool) (held : Type 0) : Type 0 where
    sub : (y : Coded) → Contains new y → Contains old y ⊎ ((x ≡ y) × (keeps ≡ true) × held)
    sup : (y : Coded) → Contains old y → Contains new y
    has : keeps ≡ true → Contains new x

  module _ (k : KeyedRow) (p : ℤ) (old new : Run) (count : ℕ) (is : IsAdded condition index.columns k.row p old new count) where
    grown : IsGrown old.batch new.batch (code_of_row p k) (keeps_row condition k.row) (All IsHeld (values_at k.row index.columns))
    grown = ⊎_elim
        (λ (put : (keeps_row condition k.row ≡ true) × (count ≡ 1) × IsKeptRow index.columns k.row p old new). record {
          sub = λ y h. ⊎_elim
              (λ (a : Contains old.batch y). inl a)
              (λ (b : Contains (code_of_row p k ∷ []) y). ⊎_elim
              (λ (e : code_of_row p k ≡ y). inr (e, put.0, put.2.held))
              (λ (none : Contains [] y). absurd (in_none y none))
              (cons_cases (code_of_row p k) y [] b))
              (Contains-append_cases old.batch (code_of_row p k ∷ []) y (subst (λ (l : List Coded). Contains l y) put.2.batch h));
          sup = λ y h. subst (λ (l : List Coded). Contains l y) (sym put.2.batch) (Contains-append_left old.batch (code_of_row p k ∷ []) y h);
          has = λ keeps. subst (λ (l : List Coded). Contains l (code_of_row p k)) (sym put.2.batch)
              (Contains-append_right old.batch (code_of_row p k ∷ []) (code_of_row p k) (in_head (code_of_row p k) []));
        })
        (λ (left : (keeps_row condition k.row ≡ false) × (count ≡ 0) × (new.batch ≡ old.batch)). record {
          sub = λ y h. inl (subst (λ (l : List Coded). Contains l y) left.2 h);
          sup = λ y h. subst (λ (l : List Coded). Contains l y) (sym left.2) h;
          has = λ keeps. absurd (let e : false ≡ true = sym left.0 ∙ keeps in cc);
        })
        is.entry

    -- how many rows are kept
    long_kept : (more : List KeyedRow) → length (kept_rows condition (k ∷ more)) ≡ count + length (kept_rows condition more)
    long_kept more = ⊎_elim
        (λ (put : (keeps_row condition k.row ≡ true) × (count ≡ 1) × IsKeptRow index.columns k.row p old new).
        let e = ap length (kept_first (λ (r : KeyedRow). keeps_row condition r.row) k more put.0) in
        let n = put.1 in
        omega (arith, e, n))
        (λ (left : (keeps_row condition k.row ≡ false) × (count ≡ 0) × (new.batch ≡ old.batch)).
        let e = ap length (left_first (λ (r : KeyedRow). keeps_row condition r.row) k more left.0) in
        let n = left.1 in
        omega (arith, e, n))
        is.entry

    few_added : count ≤ 1
    few_added = ⊎_elim
        (λ (put : (keeps_row condition k.row ≡ true) × (count ≡ 1) × IsKeptRow index.columns k.row p old new). let n = put.1 in omega (arith, n))
        (λ (left : (keeps_row condition k.row ≡ false) × (count ≡ 0) × (new.batch ≡ old.batch)). let n = left.1 in omega (arith, n))
        is.entry

  by_kept : {P : Type 0} (b : Bool) → (b ≡ true → P) → (b ≡ false → P) → P
  by_kept true pass fail = pass refl
  by_kept false pass fail = fail refl

  pub one_gathered : (rest : List KeyedRow) (old : Run) (kept : ℕ) → Gathers rest old kept → (k : KeyedRow) (more : List KeyedRow) → rest ≡ k ∷ more
      → (p : ℤ) → k.rowid ≡ Some p → (new : Run) (count : ℕ) → IsAdded condition index.columns k.row p old new count
      → (now : ℕ) → now ≡ min (kept + count) (2 ^ 64 - 1) → Gathers more new now
  one_gathered rest old kept g k more rest_is p rowid new count is now now_is =
      let here : Contains rest k = subst (λ (l : List KeyedRow). Contains l k) (sym rest_is) (in_head k more) in
      let later : (z : KeyedRow) → Contains more z → Contains rest z = λ z h. subst (λ (l : List KeyedRow). Contains l z) (sym rest_is) (in_tail k z more h) in
      let rise : Rise (k ∷ more) = subst Rise rest_is g.rise in
      let grow = grown k p old new count is in
      let long = long_kept k p old new count is more in
      let whole = ap (λ (l : List KeyedRow). length (kept_rows condition l)) rest_is in
      let few = few_added k p old new count is in
      let many = g.many in
      let are = g.kept_are in
      let first_among : keeps_row condition k.row ≡ true → Contains (kept_rows condition keyed) k = λ keeps. g.among k
      (subst (λ (l : List KeyedRow). Contains (kept_rows condition l) k) (sym rest_is)
      (subst (λ (l : List KeyedRow). Contains l k) (sym (kept_first (λ (r : KeyedRow). keeps_row condition r.row) k more keeps)) (in_head k (kept_rows condition more)))) in
      record {
        passed = g.passed + count;
        rise = rise_tail k more rise;
        rowids = g.rowids;
        all_in = λ z h. g.all_in z (later z h);
        above = λ z q h other. subst (λ (o : Option ℤ). IsAbove o q) (sym is.above) (g.above z q (later z h) other);
        later = λ z q h other. subst (λ (o : Option ℤ). IsAbove o q) (sym is.last) (rise_head k more rise p rowid z q h other);
        over = λ z q h other x there. ⊎_elim
            (λ (before : Contains old.batch x). g.over z q (later z h) other x before)
            (λ last. subst (λ (y : Coded). y.key <ℤ q) last.0 (rise_head k more rise p rowid z q h other))
            (grow.sub x there);
        climbs = λ q behind. subst (λ (o : Option ℤ). IsBehind o q) (sym is.last)
            (behind_below old.above q p (subst (λ (o : Option ℤ). IsBehind o q) is.above behind) (g.above k p here rowid));
        inside = λ x there. subst (λ (o : Option ℤ). IsBehind o x.key) (sym is.last) (⊎_elim
            (λ (before : Contains old.batch x). less_at_most x.key p (g.over k p here rowid x before))
            (λ last. subst (λ (y : Coded). y.key ≤ℤ p) last.0 (at_most_itself p))
            (grow.sub x there));
        of_rows = λ x there. ⊎_elim
            (λ (before : Contains old.batch x). g.of_rows x before)
            (λ last. subst IsOfRow last.0 (record { k = k; among = first_among last.1; rowid_is = rowid; code_is = refl; held = last.2 }))
            (grow.sub x there);
        among = λ z h. g.among z (subst (λ (l : List KeyedRow). Contains (kept_rows condition l) z) (sym rest_is) (by_kept (keeps_row condition k.row)
            (λ keeps. subst (λ (l : List KeyedRow). Contains l z) (sym (kept_first (λ (r : KeyedRow). keeps_row condition r.row) k more keeps)) (in_tail k z (kept_rows condition more) h))
            (λ leaves. subst (λ (l : List KeyedRow). Contains l z) (sym (left_first (λ (r : KeyedRow). keeps_row condition r.row) k more leaves)) h)));
        found = λ z q h other. ⊎_elim
            (λ (left : Contains (kept_rows condition rest) z).
            let left_here = subst (λ (l : List KeyedRow). Contains (kept_rows condition l) z) rest_is left in
            by_kept (keeps_row condition k.row)
            (λ keeps. ⊎_elim
            (λ (e : k ≡ z).
            let key : p ≡ q = one_some p q (sym rowid ∙ ap (λ (r : KeyedRow). r.rowid) e ∙ other) in
            inr (inr (subst (λ (x : Coded). Contains new.batch x) (λ i. code_of_row (key i) (e i)) (grow.has keeps))))
            (λ (there : Contains (kept_rows condition more) z). inl there)
            (cons_cases k z (kept_rows condition more)
            (subst (λ (l : List KeyedRow). Contains l z) (kept_first (λ (r : KeyedRow). keeps_row condition r.row) k more keeps) left_here)))
            (λ leaves. inl (subst (λ (l : List KeyedRow). Contains l z) (left_first (λ (r : KeyedRow). keeps_row condition r.row) k more leaves) left_here)))
            (λ (or : IsBehind old.above q ⊎ Contains old.batch (code_of_row q z)). inr (⊎_elim
            (λ (behind : IsBehind old.above q). inl (subst (λ (o : Option ℤ). IsBehind o q) (sym is.above) behind))
            (λ (there : Contains old.batch (code_of_row q z)). inr (grow.sup (code_of_row q z) there))
            or))
            (g.found z q h other);
        placed = λ entry q front h keyed_is behind. g.placed entry q front h keyed_is (subst (λ (o : Option ℤ). IsBehind o q) is.above behind);
        many = omega (arith, long, whole, many);
        kept_are = omega (arith, are, now_is, few);
      }

  -- ---- the end

  module _ (run : Run) (kept : ℕ) (g : Gathers [] run kept) (values : Place → Row) (places : List Place) (entries_are : entries ≡ map values places) where
    pub all_counted : kept ≡ counted (length (kept_rows condition keyed))
    all_counted = g.kept_are
        ∙ ap counted (let many = g.many in let none : length (kept_rows condition []) ≡ 0 = refl in omega (arith, many, none))

    all_wanted : AllPlaced run.batch run.above None columns values places → (entry : Row) → Contains entries entry → Contains wanted_of entry
    all_wanted all entry h =
        let there = subst (λ (l : List Row). Contains l entry) entries_are h in
        let x = mapped_at values places there.0 entry (get_of (map values places) entry there) in
        let r : IsPlaced run.batch run.above None columns entry =
        subst (λ (e : Row). IsPlaced run.batch run.above None columns e) x.is (all x.x (get_contains places there.0 x.x x.at)) in
        placed_to [] run kept g values places entries_are None all entry r.rowid r.front h r.keyed tt

    -- different entries, each of which is wanted, are the wanted ones where they are as many
    pub all_same : IsOnce entries → AllPlaced run.batch run.above None columns values places → length (kept_rows condition keyed) ≡ length places
        → IsPermutation entries wanted_of
    all_same once all as_many =
        let long = length-map (kept_rows condition keyed) (entry_of index) in
        let wide = ap length entries_are ∙ length-map places values in
        same entries wanted_of once (all_wanted all) (omega (arith, long, wide, as_many))
