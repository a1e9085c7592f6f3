-- The entries of a tree that a cursor has given, each of which is a row of the table.
use Rattle.std.proofs.Common.{◌≡◌, ◌∙◌, ◌+◌, ◌<◌, ◌⊎◌, ℕ, suc, All, Contains, IsTrue, List, [], ◌∷◌, ◌++◌, None, Some, append-nil, ap, map, refl, subst, sym, inl, inr, arith}
use Rattle.std.proofs.lemmas.List.Elements.{All-cons, All-nil}
use Rattle.values.specs.Datum.{Datum}
use Rattle.values.specs.declared.fault.Fault.{Fault}
use Rattle.values.specs.declared.fault.Fault.TheVariants.{BadChain, BadDepth, BadPage, Finished, BadRecord, BadText, FloatValue, NoMemory, ReadFailed, ValueBreaksColumn}
use Rattle.pager.specs.PagerState.{PagerState}
use Rattle.records.specs.declared.fault.RecordFault.TheVariants as r
use Rattle.records.specs.Record.{IsRecord}
use Rattle.records.proofs.RecordLemmas.{not_broken, one_record}
use Rattle.btree.specs.declared.image.kind.TreeKind.{TreeKind}
use Rattle.btree.specs.declared.image.kind.TreeKind.TheVariants.{Index}
use Rattle.btree.specs.image.Cell.{CellData}
use Rattle.btree.specs.image.Pages.{IsNumber, Pages, pages_seen}
use Rattle.btree.specs.image.Shape.{place_at, places_under, size_under}
use Rattle.btree.specs.image.Tree.{IsPlaceOf, Place}
use Rattle.btree.proofs.lemmas.image.ListLemmas.{in_head, in_tail}
use Rattle.btree.proofs.lemmas.image.PlaceLemmas.{sound}
use Rattle.btree.proofs.lemmas.image.ChainLemmas.{one_payload}
use Rattle.btree_cursor.specs.index_entries.Entries.{BreaksRecord, HasRecord, IsCompareFault}
use Rattle.integrity_trees.specs.declared.tree_walk.counts.TreeCounts.{TreeCounts}
use Rattle.integrity_trees.specs.index_walk.Checked.{HasEntryValues}
use Rattle.integrity_trees.proofs.lemmas.index_walk.ValueLemmas.{has_values}
use Rattle.btree_cursor.specs.declared.cursor.cursor.Cursor.{Cursor}
use Rattle.btree_cursor.specs.declared.cursor.cursor.Frame.{Frame}
use Rattle.btree_cursor.specs.cursor.Calls.{IsStepFault}
use Rattle.btree_cursor.specs.cursor.Left.{all_left, steps_left}
use Rattle.btree_cursor.specs.cursor.Rest.{IsStanding, at_cell, is_past}
use Rattle.btree_cursor.specs.cursor.Search.{IsSearchableIndex}
use Rattle.btree_cursor.proofs.lemmas.cursor.RestLemmas.{first_place}
use Rattle.integrity_trees.proofs.lemmas.entry_rows.ListedLemmas.{Begins, IsListed, Listing, Tells, begins, ended}
use Rattle.pager.specs.Calls.{IsReadFault}
use Rattle.schema_tables.specs.TableData.{TableData}
use Rattle.records_tables.specs.primary_rows.Rows.{BreaksRow, BreaksRowRecord, IsPrimaryFault, IsStoredRow}
use Rattle.integrity_trees.specs.primary_walk.Checked.{HasBrokenRow, HoldsPrimaryRow, IsKeyTree, IsPrimaryWalkFault, widths_of}

-- what the loop keeps
pub record Following (start now : PagerState) (table : TableData) (cursor : Cursor) : Type 0 where
  pub rows : List (List Datum)
  pub listing : Listing start now table.root cursor rows
  pub root_is : cursor.root ≡ table.root
  pub stored : All (IsStoredRow table) rows

-- ---- faults

bad_memory : r.Bad ≡ r.NoMemory → ⊥
bad_memory e = cc

float_memory : r.Float ≡ r.NoMemory → ⊥
float_memory e = cc

text_memory : r.Text ≡ r.NoMemory → ⊥
text_memory e = cc

-- bytes that are a record break nothing of records
only_memory : (bytes : List ℕ) (values : List Datum) (n : ℕ) → IsRecord bytes values → (fault : Fault) → BreaksRecord bytes n fault → fault ≡ NoMemory
only_memory bytes values n is NoMemory breaks = refl
only_memory bytes values n is (BadRecord m) (same, breaks) = absurd (bad_memory (not_broken r.Bad bytes values breaks is))
only_memory bytes values n is FloatValue breaks = absurd (float_memory (not_broken r.Float bytes values breaks is))
only_memory bytes values n is BadText breaks = absurd (text_memory (not_broken r.Text bytes values breaks is))
only_memory bytes values n is fault breaks = absurd breaks

-- what is told of a record is told of its values
pub of_values : (table : TableData) (bytes : List ℕ) (values : List Datum) (n : ℕ) → IsRecord bytes values → (fault : Fault) → BreaksRowRecord table bytes n fault
    → IsReadFault fault ⊎ BreaksRow table values n fault
of_values table bytes values n is fault (inl breaks) = inl (inr (only_memory bytes values n is fault breaks))
of_values table bytes values n is fault (inr (others, other_is, breaks)) =
    inr (subst (λ (v : List Datum). BreaksRow table v n fault) (one_record bytes others values other_is is) breaks)

pub compare_fault : (n : ℕ) (fault : Fault) → IsCompareFault n fault → IsPrimaryFault n fault
compare_fault n (ValueBreaksColumn name) h = tt
compare_fault n fault h = h

pub walk_fault : (n : ℕ) (fault : Fault) → IsPrimaryFault n fault → IsPrimaryWalkFault fault
walk_fault n ReadFailed h = tt
walk_fault n NoMemory h = tt
walk_fault n (BadPage m) h = tt
walk_fault n (BadChain m) h = tt
walk_fault n (BadRecord m) h = tt
walk_fault n FloatValue h = tt
walk_fault n BadText h = tt
walk_fault n (ValueBreaksColumn name) h = tt
walk_fault n fault h = absurd h

-- one record has one list of values
pub one_values : (pages : Pages) (cell : CellData) (a b : List Datum) → HasRecord pages cell a → HasRecord pages cell b → a ≡ b
one_values pages cell a b one other =
    let bytes = one_payload pages cell.payload one.bytes other.bytes one.whole other.whole in
    one_record other.bytes a b (subst (λ (l : List ℕ). IsRecord l a) bytes one.record_is) other.record_is

pub all_push : (P : List Datum → Type 0) (rows : List (List Datum)) (row : List Datum) → All P rows → P row → All P (rows ++ row ∷ [])
all_push P [] row held now = All-cons P row [] now (All-nil P)
all_push P (first ∷ rows) row held now = All-cons P first (rows ++ row ∷ []) (held 0 first (omega arith))
    (all_push P rows row (λ k d within. held (suc k) d (omega (arith, within))) now)

-- ---- places

-- the cell that a cursor stands at is on the page that it stands on
stands_at : (pages : Pages) (kind : TreeKind) (total : ℕ) (frames : List Frame) (here : Frame) (places : List Place) (asked budget : ℕ)
    → IsStanding pages kind total frames here places asked budget → (place : Place) (more : List Place) → places ≡ place ∷ more
    → place ≡ place_at here.number here.at
stands_at pages kind total frames here places asked budget (at_cell within on long) place more is =
    let first = first_place pages kind total frames here places asked budget (at_cell within on long) within in
    let e = sym is ∙ first in cc
stands_at pages kind total frames here places asked budget (is_past end none most long) place more is =
    let e = sym none ∙ is in cc

-- rows whose values are these entries', one for each place
module _ (pages : Pages) (table : TableData) (counts : TreeCounts) (tree : IsKeyTree pages table counts) where
  pub held : HasEntryValues pages (widths_of table) [] table.root
  held = has_values pages (widths_of table) [] table.root counts tree

  abbrev pub values : Place → List Datum
  values = held.values

  abbrev pub all : List Place
  all = places_under pages Index counts.levels table.root

  place_is : (place : Place) → Contains all place → IsPlaceOf pages Index table.root place
  place_is place among = sound pages Index counts.levels table.root tree.shape place among

  row_at : (place : Place) → Contains all place → IsStoredRow table (values place) → HoldsPrimaryRow pages table place
  row_at place among stored =
      let is = place_is place among in
      record {
        row = stored.0;
        stores = record {
          level = is.level;
          page = is.page;
          values = values place;
          has = (held.entries is.level place.page is.reaches is.page).each place.index is.within;
          makes = stored.1;
        };
        fits = stored.2;
      }

  rows_at : (places : List Place) → ((place : Place) → Contains places place → Contains all place) → All (IsStoredRow table) (map values places)
      → All (HoldsPrimaryRow pages table) places
  rows_at [] among stored = All-nil (HoldsPrimaryRow pages table)
  rows_at (p ∷ places) among stored = All-cons (HoldsPrimaryRow pages table) p places
      (row_at p (among p (in_head p places)) (stored 0 (values p) (omega arith)))
      (rows_at places (λ q h. among q (in_tail p q places h)) (λ k d within. stored (suc k) d (omega (arith, within))))

  pub all_rows : All (IsStoredRow table) (map values all) → All (HoldsPrimaryRow pages table) all
  all_rows stored = rows_at all (λ place h. h) stored

  module _ (number : IsNumber pages table.root) where
    pub searchable : IsSearchableIndex pages [] values counts.levels table.root
    searchable = record {
      tree = record { few = tree.few; number = number; shape = tree.shape };
      entries = held.entries;
      order = held.order;
    }

  pub broken_at : (place : Place) → Contains all place → (n : ℕ) (fault : Fault) → n ≡ place.page → BreaksRow table (values place) n fault → HasBrokenRow pages table fault
  broken_at place among n fault same broken =
      let is = place_is place among in
      record {
        place = place;
        is_place = is;
        values = values place;
        has = (held.entries is.level place.page is.reaches is.page).each place.index is.within;
        broken = subst (λ (m : ℕ). BreaksRow table (values place) m fault) same broken;
      }

in_middle : (given : List Place) (place : Place) (rest : List Place) → Contains (given ++ place ∷ rest) place
in_middle [] place rest = in_head place rest
in_middle (first ∷ given) place rest = in_tail first place (given ++ place ∷ rest) (in_middle given place rest)

-- the fault of a step of a cursor that hasn't ended
pub step_fault : (cursor : Cursor) (fault : Fault) → 0 < steps_left cursor → IsStepFault cursor fault → IsPrimaryWalkFault fault
step_fault cursor Finished left is = let none = ap (λ here. all_left cursor.frames.items here) is in absurd (omega (arith, left, none))
step_fault cursor ReadFailed left is = tt
step_fault cursor NoMemory left is = tt
step_fault cursor (BadPage n) left is = tt
step_fault cursor (BadDepth n) left is = tt
step_fault cursor fault left is = absurd is

-- over a steady source, and a tree that was checked
module _ (start now : PagerState) (table : TableData) (cursor : Cursor) (f : Following start now table cursor) (steady : IsTrue start.source.steady)
    (counts : TreeCounts) (number : IsNumber (pages_seen start) table.root) (tree : IsKeyTree (pages_seen start) table counts) where
  abbrev pub seen_values : Place → List Datum
  seen_values = values (pages_seen start) table counts tree

  abbrev every : List Place
  every = all (pages_seen start) table counts tree

  pub seen_search : IsSearchableIndex (pages_seen start) [] seen_values counts.levels table.root
  seen_search = searchable (pages_seen start) table counts tree number

  abbrev pub listed : IsListed (pages_seen start) seen_values counts.levels table.root cursor now.asked
      (start.asked + size_under (pages_seen start) counts.levels table.root) f.rows
  listed = f.listing.lists steady [] seen_values counts.levels seen_search

  pub has_rows : Tells cursor None → All (HoldsPrimaryRow (pages_seen start) table) every
  has_rows told =
      let none : listed.rest ≡ [] = ended (pages_seen start) listed.rest (told _ _ _ _ _ listed.at) in
      let whole : listed.given ≡ every = sym (append-nil listed.given) ∙ ap (λ (l : List Place). listed.given ++ l) (sym none) ∙ listed.whole in
      let is : f.rows ≡ map seen_values every = listed.rows_are ∙ ap (λ (p : List Place). map seen_values p) whole in
      all_rows (pages_seen start) table counts tree (subst (λ (l : List (List Datum)). All (IsStoredRow table) l) is f.stored)

  module _ (cell : CellData) (told : Tells cursor (Some cell)) where
    abbrev pub first : Begins (pages_seen start) listed.rest cell
    first = begins (pages_seen start) listed.rest cell (told _ _ _ _ _ listed.at)

    among : Contains every first.place
    among = subst (λ (p : List Place). Contains p first.place) (ap (λ (l : List Place). listed.given ++ l) (sym first.is) ∙ listed.whole)
        (in_middle listed.given first.place first.more)

    pub broken_here : (n : ℕ) → ((here : Frame) → cursor.here ≡ Some here → n ≡ here.number) → (fault : Fault)
        → IsReadFault fault ⊎ BreaksRow table (seen_values first.place) n fault → IsReadFault fault ⊎ HasBrokenRow (pages_seen start) table fault
    broken_here n page fault (inl read) = inl read
    broken_here n page fault (inr broken) =
        let at = stands_at _ _ _ _ _ _ _ _ listed.at.stands first.place first.more first.is in
        inr (broken_at (pages_seen start) table counts tree first.place among n fault
        (page listed.at.here listed.at.here_is ∙ sym (ap (λ (p : Place). p.page) at)) broken)
