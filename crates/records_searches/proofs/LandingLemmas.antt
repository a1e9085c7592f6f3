-- The entries that are to come where a search has led to.
use Rattle.std.proofs.Common.{◌≡◌, ◌∙◌, ◌≤◌, ℕ, ℤ, Bool, true, false, cond, List, [], ◌∷◌, ◌++◌, length, map, Option, None, Some, refl, sym, ap, subst, arith}
use Rattle.std.specs.Prelude.{All, Contains}
use Rattle.std.specs.List.{AllZip}
use Rattle.std.proofs.lemmas.List.Elements.{All-contains_itself, All-weaker, Contains-append_right}
use Rattle.values.specs.Datum.{Datum, int}
use Rattle.btree.specs.declared.image.kind.TreeKind.{TreeKind}
use Rattle.btree.specs.declared.image.kind.TreeKind.TheVariants.{Table, Index}
use Rattle.btree.specs.declared.image.kind.Level.{Level}
use Rattle.btree.specs.declared.image.kind.Level.TheVariants.{Leaf}
use Rattle.btree.specs.image.Broken.{HasRowid}
use Rattle.btree.specs.image.Entries.{IsAtPlace}
use Rattle.btree.specs.image.Pages.{Pages}
use Rattle.btree.specs.image.Search.{IsCellThat, row_before}
use Rattle.btree.specs.image.Shape.{places_under}
use Rattle.btree.specs.image.Tree.{Place}
use Rattle.btree.proofs.lemmas.image.RowidLemmas.{one_rowid}
use Rattle.btree.proofs.lemmas.image.ShapeLemmas.{one_level}
use Rattle.btree_cursor.specs.declared.cursor.cursor.Cursor.{Cursor}
use Rattle.btree_cursor.specs.cursor.Listing.{IsAt}
use Rattle.btree_cursor.specs.key_ranges.Ranges.{Range, from_cut, has_null, is_before, width}
use Rattle.btree_cursor.specs.key_ranges.Runs.{Ascend}
use Rattle.btree_cursor.proofs.lemmas.key_ranges.RangeLemmas.{null_meets_nothing}
use Rattle.schema_tables.specs.TableData.{RowKeyData, TableData}
use Rattle.records_tables.specs.Tables.{kind_of}
use Rattle.records_searches.specs.Coming.{AreOpened, AreToCome, places_in, run_of}
use Rattle.records_searches.specs.Entries.{AreWide, EntryData, HoldsEntries, HoldsIndexEntries, HoldsKeyEntries, HoldsRowEntries, HoldsTableEntries, IsEntryIn, IsKeyEntry, IsRowEntry, IsTableEntry, SearchedData, entries_in, entry_values, kind_in, of_index, of_table, root_in}
use Rattle.records_searches.specs.Meets.{meets_range}
use Rattle.records_searches.specs.RowCuts.{IsRowid, row_comes_before}
use Rattle.records_searches.specs.Sought.{IsCursorAt, IsEntryLanding, IsRowLanding}
use Rattle.records_searches.specs.declared.finders.RowIndex.{RowIndex}
use Rattle.records_searches.specs.declared.row_cuts.RowCut.{RowCut}
use Rattle.records_searches.specs.declared.row_cuts.RowCut.TheVariants.{At, Last}
use Rattle.records_searches.proofs.CutLemmas.{from_short}
use Rattle.records_searches.proofs.RunLemmas.{Answers, none_met, run_after}
use Rattle.records_searches.proofs.ZipLemmas.{AreParts, all_front, all_rest, parts_weaker, zip_and, zip_both, zip_each, zip_maps, zip_none, zip_over, zip_parts, zip_weaker}

-- ---- of any tree

-- the last of these places are among them
later_within : (all front rest : List Place) → all ≡ front ++ rest → All (Contains all) rest
later_within all front rest is =
    All-weaker (Contains rest) (Contains all) (λ place there. subst (λ (l : List Place). Contains l place) (sym is) (Contains-append_right front rest place there)) rest
    (All-contains_itself rest)

module _ (searched : SearchedData) (pages : Pages) (levels : ℕ) (range : Range) (sound : has_null range ≡ false) (descends : List Bool) (entries : List EntryData)
    (wide : AreWide range entries) (ascend : Ascend descends (map entry_values entries)) where
  -- an entry comes before the range, or doesn't
  abbrev pub EntryAnswers : Bool → EntryData → Type 0
  EntryAnswers answer entry = Answers entry_values descends range answer entry

  module _ (front rest : List Place) (parts : AreParts (IsEntryIn searched pages) front rest entries)
      (before : All (EntryAnswers true) parts.first) (after : All (EntryAnswers false) parts.later)
      (within : All (Contains (places_in searched pages levels)) rest) where
    run_is : entries_in range entries ≡ run_of range parts.later
    run_is =
        let both = subst (λ (l : List EntryData). AreWide range l) parts.are wide in
        ap (entries_in range) parts.are
        ∙ run_after entry_values descends range sound parts.first parts.later (subst (λ (l : List EntryData). Ascend descends (map entry_values l)) parts.are ascend)
        (all_front (λ (entry : EntryData). width range ≤ length entry.values) parts.first parts.later both)
        (all_rest (λ (entry : EntryData). width range ≤ length entry.values) parts.first parts.later both) before after

    pub opened : (cursor : Option Cursor) (asked : ℕ) → IsCursorAt pages (kind_in searched) levels cursor rest asked
        → AreOpened searched pages levels range cursor (entries_in range entries)
    opened None asked none =
        let later : parts.later ≡ [] = zip_none (IsEntryIn searched pages) parts.later (subst (λ (l : List Place). AllZip (IsEntryIn searched pages) l parts.later) none parts.rest_zip) in
        run_is ∙ ap (run_of range) later
    opened (Some cursor) asked at = record {
      places = rest;
      all = parts.later;
      asked = asked;
      budget = at.0;
      at = at.1;
      within = within;
      each = parts.rest_zip;
      are = run_is;
    }

-- ---- of a table with rowids

-- a position is that of a range, among rowids
abbrev pub IsCutOf : Range → RowCut → Type 0
IsCutOf range cut = (rowid : ℤ) → IsRowid rowid → length (from_cut [] range).key ≤ 1 → is_before [] (from_cut [] range) (int rowid ∷ []) ≡ row_comes_before cut rowid

module _ (pages : Pages) (table : TableData) (levels : ℕ) (range : Range) (sound : has_null range ≡ false) (key : Option ℕ) (key_is : table.key ≡ RowKeyData.Rowid key)
    (entries : List EntryData) (holds : HoldsRowEntries pages table levels entries) (wide : AreWide range entries) where
  abbrev Rows : List Place
  Rows = places_under pages Table levels table.root

  abbrev IsWide : EntryData → Type 0
  IsWide entry = width range ≤ length entry.values

  abbrev RowAnswers : Bool → EntryData → Type 0
  RowAnswers answer entry = Answers entry_values [] range answer entry

  -- where a row with a rowid comes by the cut of the range
  by_cut : (cut : RowCut) → IsCutOf range cut → (place : Place) (entry : EntryData) → (is : IsRowEntry pages table place entry) → IsWide entry
      → is_before [] (from_cut [] range) entry.values ≡ row_comes_before cut is.rowid
  by_cut cut law place entry is wide =
      let long : length entry.values ≡ 1 = ap length is.values_are in
      let short = from_short [] range in
      ap (is_before [] (from_cut [] range)) is.values_are ∙ law is.rowid is.is_rowid (omega (arith, long, short, wide))

  by_sought : (behind : Bool) (rowid : ℤ) (answer : Bool) → IsCutOf range (At rowid behind) → (place : Place) (entry : EntryData)
      → IsCellThat (HasRowid pages) (row_before behind rowid) pages Table answer place → IsRowEntry pages table place entry → IsWide entry → RowAnswers answer entry
  by_sought behind rowid answer law place entry that is wide =
      let level = one_level pages Table that.level Leaf place.page that.page is.page in
      let here = subst (λ (l : Level). HasRowid pages l place.page place.index that.is.0) level that.is.1 in
      let same = one_rowid pages Leaf place.page place.index is.rowid that.is.0 is.has here in
      by_cut (At rowid behind) law place entry is wide ∙ ap (row_before behind rowid) same ∙ that.is.2

  -- an entry that has the columns of the range
  abbrev IsHere : Place → EntryData → Type 0
  IsHere place entry = IsRowEntry pages table place entry × IsWide entry

  all_here : AllZip IsHere Rows entries
  all_here = zip_and (IsRowEntry pages table) IsWide Rows entries holds.each wide

  in_table : (place : Place) (entry : EntryData) → IsHere place entry → IsEntryIn (of_table table) pages place entry
  in_table place entry here = subst (λ (k : RowKeyData). IsTableEntry k pages table place entry) (sym key_is) here.0

  at_table : (cursor : Option Cursor) (places : List Place) (asked : ℕ) → IsCursorAt pages Table levels cursor places asked
      → IsCursorAt pages (kind_in (of_table table)) levels cursor places asked
  at_table cursor places asked at = subst (λ (k : RowKeyData). IsCursorAt pages (kind_of k) levels cursor places asked) (sym key_is) at

  row_opened : (front rest : List Place) → Rows ≡ front ++ rest → (parts : AreParts IsHere front rest entries) → All (RowAnswers true) parts.first → All (RowAnswers false) parts.later
      → (cursor : Option Cursor) (asked : ℕ) → IsCursorAt pages Table levels cursor rest asked → AreOpened (of_table table) pages levels range cursor (entries_in range entries)
  row_opened front rest all_is parts before after cursor asked at =
      opened (of_table table) pages levels range sound [] entries wide holds.ascend front rest
      (parts_weaker IsHere (IsEntryIn (of_table table) pages) in_table front rest entries parts) before after
      (subst (λ (k : RowKeyData). All (Contains (places_under pages (kind_of k) levels table.root)) rest) (sym key_is) (later_within Rows front rest all_is))
      cursor asked (at_table cursor rest asked at)

  pub row_landing : (cut : RowCut) → IsCutOf range cut → (cursor : Option Cursor) (asked : ℕ) → IsRowLanding cut pages levels table.root cursor asked
      → AreOpened (of_table table) pages levels range cursor (entries_in range entries)
  row_landing (At rowid behind) law cursor asked sought =
      let split = sought.split in
      let parts = zip_parts IsHere sought.front sought.rest entries (subst (λ (l : List Place). AllZip IsHere l entries) split.all_is all_here) in
      row_opened sought.front sought.rest split.all_is parts
      (zip_over IsHere (IsCellThat (HasRowid pages) (row_before behind rowid) pages Table true) (RowAnswers true)
      (λ place entry that here. by_sought behind rowid true law place entry that here.0 here.1) sought.front parts.first split.come_before parts.front_zip)
      (zip_over IsHere (IsCellThat (HasRowid pages) (row_before behind rowid) pages Table false) (RowAnswers false)
      (λ place entry that here. by_sought behind rowid false law place entry that here.0 here.1) sought.rest parts.later split.do_not parts.rest_zip)
      cursor asked sought.leads
  row_landing Last law cursor asked none =
      subst (λ (c : Option Cursor). AreOpened (of_table table) pages levels range c (entries_in range entries)) (sym none)
      (none_met entry_values [] range sound entries wide
      (zip_each IsHere (RowAnswers true) (λ place entry here. by_cut Last law place entry here.0 here.1) Rows entries all_here))

-- ---- of a tree of entries

module _ (searched : SearchedData) (pages : Pages) (levels root : ℕ) (range : Range) (sound : has_null range ≡ false) (descends : List Bool) (entries : List EntryData)
    (wide : AreWide range entries) (ascend : Ascend descends (map entry_values entries)) (values : Place → List Datum) (kind_is : kind_in searched ≡ Index) (root_is : root_in searched ≡ root)
    (each : AllZip (IsEntryIn searched pages) (places_under pages Index levels root) entries)
    (values_are : map values (places_under pages Index levels root) ≡ map entry_values entries) where
  -- an entry with the values of its place
  abbrev IsSeen : Place → EntryData → Type 0
  IsSeen place entry = IsEntryIn searched pages place entry × (values place ≡ entry.values)

  all_seen : AllZip IsSeen (places_under pages Index levels root) entries
  all_seen =
      zip_both (IsEntryIn searched pages) (λ place entry. values place ≡ entry.values) (places_under pages Index levels root) entries each
      (zip_maps values entry_values (places_under pages Index levels root) entries values_are)

  abbrev Before : Place → Bool
  Before place = is_before descends (from_cut descends range) (values place)

  answers : (answer : Bool) (place : Place) (entry : EntryData) → IsCellThat IsAtPlace Before pages Index answer place → IsSeen place entry
      → Answers entry_values descends range answer entry
  answers answer place entry that seen =
      ap (is_before descends (from_cut descends range)) (sym seen.1) ∙ ap Before (sym that.is.1) ∙ that.is.2

  pub entry_landing : (cursor : Cursor) (asked : ℕ) → IsEntryLanding pages descends values levels root range cursor asked
      → AreToCome searched pages levels range cursor (entries_in range entries)
  entry_landing cursor asked sought =
      let split = sought.split in
      let parts = zip_parts IsSeen sought.front sought.rest entries (subst (λ (l : List Place). AllZip IsSeen l entries) split.all_is all_seen) in
      opened searched pages levels range sound descends entries wide ascend sought.front sought.rest
      (parts_weaker IsSeen (IsEntryIn searched pages) (λ place entry seen. seen.0) sought.front sought.rest entries parts)
      (zip_over IsSeen (IsCellThat IsAtPlace Before pages Index true) (Answers entry_values descends range true) (answers true) sought.front parts.first
      split.come_before parts.front_zip)
      (zip_over IsSeen (IsCellThat IsAtPlace Before pages Index false) (Answers entry_values descends range false) (answers false) sought.rest parts.later
      split.do_not parts.rest_zip)
      (subst (λ (k : TreeKind). All (Contains (places_under pages k levels (root_in searched))) sought.rest) (sym kind_is)
      (subst (λ (n : ℕ). All (Contains (places_under pages Index levels n)) sought.rest) (sym root_is)
      (later_within (places_under pages Index levels root) sought.front sought.rest split.all_is)))
      (Some cursor) asked
      (sought.leads.0, subst (λ (k : TreeKind). IsAt pages k levels cursor sought.rest asked sought.leads.0) (sym kind_is) sought.leads.1)

-- of a table without rowids
pub key_landing : (pages : Pages) (table : TableData) (levels : ℕ) (range : Range) → has_null range ≡ false → (key : List ℕ) → table.key ≡ RowKeyData.Primary key
    → (entries : List EntryData) (holds : HoldsKeyEntries pages table levels entries) → AreWide range entries → (cursor : Cursor) (asked : ℕ)
    → IsEntryLanding pages [] holds.values levels table.root range cursor asked → AreToCome (of_table table) pages levels range cursor (entries_in range entries)
key_landing pages table levels range sound key key_is entries holds wide cursor asked sought =
    entry_landing (of_table table) pages levels table.root range sound [] entries wide holds.ascend holds.values (ap kind_of key_is) refl
    (zip_weaker (IsKeyEntry pages table) (IsEntryIn (of_table table) pages)
    (λ place entry is. subst (λ (k : RowKeyData). IsTableEntry k pages table place entry) (sym key_is) is) (places_under pages Index levels table.root) entries holds.each)
    holds.values_are cursor asked sought

-- of an index
pub index_landing : (pages : Pages) (table : TableData) (index : RowIndex) (levels : ℕ) (range : Range) → has_null range ≡ false → (entries : List EntryData)
    (holds : HoldsIndexEntries pages table index levels entries) → AreWide range entries → (cursor : Cursor) (asked : ℕ)
    → IsEntryLanding pages index.descends.items holds.values levels index.root range cursor asked
    → AreToCome (of_index table index) pages levels range cursor (entries_in range entries)
index_landing pages table index levels range sound entries holds wide cursor asked sought =
    entry_landing (of_index table index) pages levels index.root range sound index.descends.items entries wide holds.ascend holds.values refl refl holds.each
    holds.values_are cursor asked sought

-- ---- a bound that is NULL

-- no entry meets such a range
pub none_in : (range : Range) (entries : List EntryData) → has_null range ≡ true → entries_in range entries ≡ []
none_in range [] null = refl
none_in range (entry ∷ entries) null =
    none_first (meets_range range entry.values) entry (entries_in range entries) (null_meets_nothing range entry.values null) ∙ none_in range entries null
  where
    none_first : (met : Bool) (x : EntryData) (xs : List EntryData) → met ≡ false → cond met (x ∷ xs) xs ≡ xs
    none_first true x xs is = cc
    none_first false x xs is = refl

-- a table whose rows are found so
pub table_entries : (key : RowKeyData) (pages : Pages) (table : TableData) (levels : ℕ) (entries : List EntryData) → table.key ≡ key
    → HoldsEntries (of_table table) pages levels entries → HoldsTableEntries key pages table levels entries
table_entries key pages table levels entries key_is holds = subst (λ (k : RowKeyData). HoldsTableEntries k pages table levels entries) key_is holds
