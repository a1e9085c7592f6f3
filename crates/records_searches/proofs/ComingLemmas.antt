-- The first of the entries that are to come of a search, and those after it.
use Rattle.std.proofs.Common.{◌≡◌, ◌∙◌, ◌+◌, ◌<◌, ℕ, ℤ, All, Bool, Contains, true, false, List, [], ◌∷◌, drop, Option, None, Some, MatchResult, Result, Ok, Err, Global, is_some, refl, sym, ap, subst, arith}
use Rattle.std.specs.Prelude.{IfOk, IfSome}
use Rattle.std.specs.List.{AllZip}
use Rattle.std.specs.Cow.{cow_slice_items}
use Rattle.std.specs.Option.{ok_or, option_map}
use Rattle.std.proofs.lemmas.List.Elements.{All-contains, All-drop, All-head}
use Rattle.records_searches.specs.declared.finders.RowFinder.{RowFinder}
use Rattle.records_searches.specs.declared.finders.RowFinder.TheVariants as by
use Rattle.std.specs.declared.borrow.CowSlice.{CowSlice}
use Rattle.values.specs.Datum.{Datum, int}
use Rattle.values.specs.Row.{Row}
use Rattle.btree.specs.declared.image.kind.TreeKind.TheVariants as kind
use Rattle.btree.specs.declared.image.kind.Level.TheVariants.{Leaf}
use Rattle.values.specs.declared.fault.Fault.{Fault}
use Rattle.values.specs.declared.fault.Fault.TheVariants.{Changed}
use Rattle.pager.specs.Calls.{IsReadFault}
use Rattle.records.specs.Record.{IsRecord}
use Rattle.btree.specs.declared.cell.Cell.{Cell}
use Rattle.btree.specs.Views.{cell_data}
use Rattle.btree.specs.image.Cell.{CellData}
use Rattle.btree.specs.Calls.{IsBytesOf}
use Rattle.btree.specs.image.Chain.{HasBytes}
use Rattle.btree.specs.image.Pages.{Pages}
use Rattle.btree.specs.image.Tree.{IsEntryAt, IsRowAt, Place}
use Rattle.btree.proofs.KindLemmas.{one_entry}
use Rattle.btree.proofs.lemmas.image.RowidLemmas.{one_rowid}
use Rattle.btree_cursor.specs.declared.cursor.cursor.Cursor.{Cursor}
use Rattle.btree_cursor.specs.declared.cursor.found.Found.{Found}
use Rattle.btree_cursor.specs.cursor.Calls.{GivesEntry}
use Rattle.btree_cursor.specs.cursor.Left.{steps_left}
use Rattle.btree_cursor.specs.cursor.Listing.{IsAt, IsEntry}
use Rattle.btree_cursor.specs.index_entries.Entries.{HasRecord}
use Rattle.btree_cursor.specs.key_ranges.Ranges.{Range}
use Rattle.btree_cursor.proofs.lemmas.index_entries.EntryLemmas.{has_chain, record_read}
use Rattle.schema_tables.specs.TableData.{RowKeyData, TableData}
use Rattle.records_tables.specs.Tables.{IsAnyRow, StoresAnyRow, kind_of}
use Rattle.records_searches.specs.Coming.{AreToCome, GivesFound, HasNoChains, LeadsToIf, places_in, run_of}
use Rattle.records_searches.specs.Entries.{EntryData, HasRecordAt, IsEntryIn, IsRowEntry, IsTableEntry, LeadsTo, SearchedData, kind_by, kind_in, of_index, of_table}
use Rattle.records_searches.specs.declared.finders.RowIndex.{RowIndex}
use Rattle.records_searches.specs.Meets.{GivesBytes, meets_range}
use Rattle.records_searches.proofs.BudgetLemmas.{at_moved}
use Rattle.records_searches.proofs.RunLemmas.{while_stops, while_takes}

-- a cell is that of the entry at a cursor's position
pub record IsFirstIn (searched : SearchedData) (pages : Pages) (cell : CellData) (all : List EntryData) : Type 0 where
  pub place : Place
  pub entry : EntryData
  pub more : List EntryData
  pub all_are : all ≡ entry ∷ more
  pub is : IsEntryIn searched pages place entry
  pub at : IsEntryAt pages (kind_in searched) place cell

first_of : (searched : SearchedData) (pages : Pages) (cell : CellData) (places : List Place) (all : List EntryData) → AllZip (IsEntryIn searched pages) places all
    → IsEntry pages (kind_in searched) places (Some cell) → IsFirstIn searched pages cell all
first_of searched pages cell [] all zip here = absurd (let e : Some cell ≡ None = here in cc)
first_of searched pages cell (place ∷ places) [] zip here = absurd zip
first_of searched pages cell (place ∷ places) (entry ∷ more) zip here =
    record { place = place; entry = entry; more = more; all_are = refl; is = zip.0; at = here }

local_of : (searched : SearchedData) (pages : Pages) (levels : ℕ) → HasNoChains searched pages levels → (cell : CellData) (places : List Place)
    → All (Contains (places_in searched pages levels)) places → IsEntry pages (kind_in searched) places (Some cell) → cell.payload.overflow ≡ None
local_of searched pages levels none cell [] within here = absurd (let e : Some cell ≡ None = here in cc)
local_of searched pages levels none cell (place ∷ places) within here =
    All-contains (λ place. (cell : CellData) → IsEntryAt pages (kind_in searched) place cell → cell.payload.overflow ≡ None) (places_in searched pages levels) place none
    (All-head (Contains (places_in searched pages levels)) place places within) cell here

none_of : (searched : SearchedData) (pages : Pages) (places : List Place) (all : List EntryData) → AllZip (IsEntryIn searched pages) places all
    → IsEntry pages (kind_in searched) places None → all ≡ []
none_of searched pages [] [] zip here = refl
none_of searched pages [] (entry ∷ all) zip here = absurd zip
none_of searched pages (place ∷ places) all zip here = absurd here

-- where a cursor gives a cell, it has a step to go
pub more_if : (cursor : Cursor) (found : Option Cell) → GivesEntry cursor (option_map cell_data found) → IfSome found (λ cell. 0 < steps_left cursor)
more_if cursor None gives = tt
more_if cursor (Some cell) gives = gives.0

-- what holds anyhow holds where something is found
pub more_anyhow : {T F : Type 0} (result : Result (Option T) F) {P : Type 0} → P → IfOk result (λ found. IfSome found (λ it. P))
more_anyhow (Ok None) p = tt
more_anyhow (Ok (Some x)) p = p
more_anyhow (Err e) p = tt

abbrev test : Range → EntryData → Bool
test range entry = meets_range range entry.values

module _ (searched : SearchedData) (pages : Pages) (levels : ℕ) (range : Range) (cursor : Cursor) (entries : List EntryData) (t : AreToCome searched pages levels range cursor entries) where
  pub come_first : (cell : CellData) → IsEntry pages (kind_in searched) t.places (Some cell) → IsFirstIn searched pages cell t.all
  come_first cell here = first_of searched pages cell t.places t.all t.each here

  -- no page of a chain is read for it, where no cell of the tree has one
  pub come_local : HasNoChains searched pages levels → (cell : CellData) → IsEntry pages (kind_in searched) t.places (Some cell) → cell.payload.overflow ≡ None
  come_local none cell here = local_of searched pages levels none cell t.places t.within here

  -- there is none
  pub come_none : IsEntry pages (kind_in searched) t.places None → entries ≡ []
  come_none here = t.are ∙ ap (run_of range) (none_of searched pages t.places t.all t.each here)

  module _ (cell : CellData) (here : IsEntry pages (kind_in searched) t.places (Some cell)) where
    abbrev first : IsFirstIn searched pages cell t.all
    first = come_first cell here

    -- it doesn't meet the range
    pub come_out : meets_range range first.entry.values ≡ false → entries ≡ []
    come_out out = t.are ∙ ap (run_of range) first.all_are ∙ while_stops (test range) first.entry first.more out

    -- it does
    pub come_in : meets_range range first.entry.values ≡ true → entries ≡ first.entry ∷ run_of range first.more
    come_in met = t.are ∙ ap (run_of range) first.all_are ∙ while_takes (test range) first.entry first.more met

-- ---- the step to the next

later_of : (range : Range) (first : EntryData) (later all : List EntryData) → first ∷ later ≡ run_of range all
    → (head : EntryData) × (more : List EntryData) × (all ≡ head ∷ more) × (later ≡ run_of range more)
later_of range first later [] are = absurd (let e : first ∷ later ≡ [] = are in cc)
later_of range first later (x ∷ xs) are = by-test (meets_range range x.values) refl
  where
    by-test : (answer : Bool) → meets_range range x.values ≡ answer
        → (head : EntryData) × (more : List EntryData) × (x ∷ xs ≡ head ∷ more) × (later ≡ run_of range more)
    by-test true met = let e : first ∷ later ≡ x ∷ run_of range xs = are ∙ while_takes (test range) x xs met in (x, xs, refl, (let rest : later ≡ run_of range xs = cc in rest))
    by-test false out = absurd (let e : first ∷ later ≡ [] = are ∙ while_stops (test range) x xs out in cc)

dropped : (searched : SearchedData) (pages : Pages) (places : List Place) (head : EntryData) (more : List EntryData) → AllZip (IsEntryIn searched pages) places (head ∷ more)
    → AllZip (IsEntryIn searched pages) (drop 1 places) more
dropped searched pages [] head more zip = absurd zip
dropped searched pages (place ∷ places) head more zip = zip.1

module _ (searched : SearchedData) (pages : Pages) (levels : ℕ) (range : Range) (old : Cursor) (first : EntryData) (later : List EntryData)
    (t : AreToCome searched pages levels range old (first ∷ later)) where
  -- the cursor at a count of asked pages
  pub at_count : (asked : ℕ) → IsAt pages (kind_in searched) levels old t.places asked (asked + t.budget)
  at_count asked = at_moved pages (kind_in searched) levels old t.places t.asked t.budget asked (asked + t.budget) (omega arith) t.at

  pub come_later : (new : Cursor) (asked budget : ℕ) → IsAt pages (kind_in searched) levels new (drop 1 t.places) asked budget
      → AreToCome searched pages levels range new later
  come_later new asked budget at =
      let rest = later_of range first later t.all t.are in
      record {
        places = drop 1 t.places;
        all = rest.1;
        asked = asked;
        budget = budget;
        at = at;
        within = All-drop (Contains (places_in searched pages levels)) 1 t.places t.within;
        each = dropped searched pages t.places rest.0 rest.1 (subst (λ (l : List EntryData). AllZip (IsEntryIn searched pages) t.places l) rest.2 t.each);
        are = rest.3;
      }

-- the row that an entry of an index leads to is looked up in a tree of its table's kind
pub leads_kind : (pages : Pages) (table : TableData) (finder : RowFinder) (values : List Datum) (row : Row) → LeadsTo pages table finder values row
    → kind_by finder ≡ kind_of table.key
leads_kind pages table (by.Rowid at) values row leads = sym leads.2.kind_is
leads_kind pages table (by.Key places) values row leads = sym leads.1.kind_is

first_leads : (table : TableData) (index : RowIndex) (pages : Pages) (places : List Place) (head : EntryData) (more : List EntryData)
    → AllZip (IsEntryIn (of_index table index) pages) places (head ∷ more) → LeadsTo pages table index.finder head.values head.row
first_leads table index pages [] head more zip = absurd zip
first_leads table index pages (place ∷ places) head more zip = zip.0.leads

-- where one is to come
pub come_kind : (table : TableData) (index : RowIndex) (pages : Pages) (levels : ℕ) (range : Range) (cursor : Cursor) (first : EntryData) (later : List EntryData)
    → AreToCome (of_index table index) pages levels range cursor (first ∷ later) → kind_by index.finder ≡ kind_of table.key
come_kind table index pages levels range cursor first later t =
    let rest = later_of range first later t.all t.are in
    leads_kind pages table index.finder rest.0.values rest.0.row
    (first_leads table index pages t.places rest.0 rest.1
    (subst (λ (l : List EntryData). AllZip (IsEntryIn (of_index table index) pages) t.places l) rest.2 t.each))

-- ---- a row of a table

stores_by : (key : RowKeyData) (pages : Pages) (table : TableData) (place : Place) (entry : EntryData) → IsTableEntry key pages table place entry
    → StoresAnyRow pages table place entry.row
stores_by (RowKeyData.Rowid at) pages table place entry is = is.stores
stores_by (RowKeyData.Primary ats) pages table place entry is = is.stores

-- the cell at a place is the row that is stored there
pub row_at : (pages : Pages) (table : TableData) (place : Place) (entry : EntryData) (cell : CellData) → IsEntryIn (of_table table) pages place entry
    → IsEntryAt pages (kind_of table.key) place cell → IsAnyRow pages table cell entry.row
row_at pages table place entry cell is at =
    let stores = stores_by table.key pages table place entry is in
    subst (λ (c : CellData). IsAnyRow pages table c entry.row) (one_entry pages (kind_of table.key) place stores.cell cell stores.at at) stores.is

-- the rowid that a cell has is that by which its row is compared
pub rowid_met : (pages : Pages) (table : TableData) (range : Range) (place : Place) (entry : EntryData) (cell : CellData) (rowid : ℤ) → IsRowEntry pages table place entry
    → IsRowAt pages place cell → cell.rowid ≡ Some rowid → meets_range range (int rowid ∷ []) ≡ meets_range range entry.values
rowid_met pages table range place entry cell rowid is at has =
    let same = one_rowid pages Leaf place.page place.index rowid is.rowid (cell, at.is, has) is.has in
    ap (λ (k : ℤ). meets_range range (int k ∷ [])) same ∙ ap (meets_range range) (sym is.values_are)

pub no_rowid : (pages : Pages) (place : Place) (cell : CellData) → IsRowAt pages place cell → cell.rowid ≡ None → ⊥
no_rowid pages place cell at none = let has : cell.rowid ≡ Some at.is.rowid = at.is.has_rowid in cc

-- the cell at a place has the record that is there
pub record_at : (pages : Pages) (place : Place) (cell : CellData) (values : List Datum) → HasRecordAt pages place values
    → IsEntryAt pages kind.Index place cell → HasRecord pages cell values
record_at pages place cell values has at =
    subst (λ (c : CellData). HasRecord pages c values) (one_entry pages kind.Index place has.cell cell has.at at) has.has

-- ---- the payload of an entry

-- the bytes that are read of a payload are a record of the values that it has
pub payload_record : (pages : Pages) (cell : CellData) (values : List Datum) → HasRecord pages cell values → (found : List ℕ) → HasBytes pages cell.payload found
    → IsRecord found values
payload_record pages cell values has found whole = record_read pages cell values found found has whole refl

-- whether they meet a range
pub bytes_in : (range : Range) (values : List Datum) (bytes : List ℕ) (met : Bool) → IsRecord bytes values → met ≡ meets_range range values → met ≡ true
    → GivesBytes range values (Some bytes)
bytes_in range values bytes met is same meets = (sym same ∙ meets, is)

pub bytes_out : (range : Range) (values : List Datum) (met : Bool) → met ≡ meets_range range values → met ≡ false → GivesBytes range values None
bytes_out range values met same out = sym same ∙ out

-- a payload that is read, where nothing fails
pub payload_found : (pages : Pages) (cell : CellData) (values : List Datum) → HasRecord pages cell values → (found : Option (CowSlice ℕ Global))
    → IsBytesOf pages cell.payload (option_map cow_slice_items found) → MatchResult (ok_or found Changed) (λ f. IsRecord (cow_slice_items f) values) IsReadFault
payload_found pages cell values has (Some found) whole = payload_record pages cell values has (cow_slice_items found) whole
payload_found pages cell values has None none = absurd (has_chain pages cell values has none)

-- bytes were given exactly where the record meets a range
pub met_by : (range : Range) (values : List Datum) (found : Option (List ℕ)) → GivesBytes range values found → is_some found ≡ meets_range range values
met_by range values None out = sym out
met_by range values (Some bytes) gives = sym gives.0

pub met_if : (range : Range) (values : List Datum) (found : Option (CowSlice ℕ Global)) → GivesBytes range values (option_map cow_slice_items found)
    → is_some found ≡ meets_range range values
met_if range values None out = sym out
met_if range values (Some bytes) gives = sym gives.0

-- ---- the row of an entry

module _ (table : TableData) (index : RowIndex) (pages : Pages) (levels : ℕ) (range : Range) (cursor : Cursor) (entries : List EntryData)
    (t : AreToCome (of_index table index) pages levels range cursor entries) (cell : CellData) (here : IsEntry pages kind.Index t.places (Some cell)) where
  abbrev pub entry_here : IsFirstIn (of_index table index) pages cell t.all
  entry_here = come_first (of_index table index) pages levels range cursor entries t cell here

  pub entry_record : HasRecord pages cell entry_here.entry.values
  entry_record = record_at pages entry_here.place cell entry_here.entry.values entry_here.is.has entry_here.at

  found_is : (found : Option Found) → LeadsToIf range pages table entry_here.entry.values entry_here.entry.row found → GivesFound pages table entries found
  found_is None out = come_out (of_index table index) pages levels range cursor entries t cell here out
  found_is (Some found) gives =
      (entry_here.entry, run_of range entry_here.more, come_in (of_index table index) pages levels range cursor entries t cell here gives.0, gives.1)

  pub row_given : (result : Result (Option Found) Fault)
      → MatchResult result (λ found. LeadsToIf range pages table entry_here.entry.values entry_here.entry.row found) IsReadFault
      → MatchResult result (λ found. GivesFound pages table entries found) IsReadFault
  row_given (Ok found) gives = found_is found gives
  row_given (Err e) gives = gives
