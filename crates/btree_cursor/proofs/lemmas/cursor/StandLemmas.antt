-- The page on which a cursor stands, of any tree, and the entry that it gives there.
use Rattle.std.proofs.Common.{◌≡◌, ◌+◌, ◌<◌, ℕ, List, None, Some, drop, length, refl, sym, ◌∙◌, subst, arith}
use Rattle.values.specs.declared.fault.Fault.{Fault}
use Rattle.btree.specs.declared.image.kind.TreeKind.{TreeKind}
use Rattle.btree.specs.declared.image.kind.TreeKind.TheVariants.{Index}
use Rattle.btree.specs.declared.image.kind.Level.{Level}
use Rattle.btree.specs.image.Cell.{CellData, IsIndexCell}
use Rattle.btree.specs.image.Layout.{cell_place, header_at}
use Rattle.btree.specs.image.Pages.{Pages}
use Rattle.btree.specs.image.Shape.{place_at}
use Rattle.btree.specs.image.Tree.{HasEntries, HasHeader, IsEntryAt, IsMetAt, IsPageOf, count_at}
use Rattle.btree.specs.Bytes.{IsEntryCell, child_size}
use Rattle.btree.proofs.PageLemmas.{flag_of-same}
use Rattle.btree_cursor.specs.index_entries.Entries.{BreaksCell, BreaksEntry, IsEntryOn}
use Rattle.btree_cursor.proofs.lemmas.index_entries.EntryLemmas.{cell_breaks, entry_bytes}
use Rattle.btree_cursor.specs.declared.cursor.cursor.Cursor.{Cursor}
use Rattle.btree_cursor.specs.declared.cursor.cursor.Frame.{Frame}
use Rattle.btree_cursor.specs.cursor.Calls.{GivesEntry}
use Rattle.btree_cursor.specs.cursor.Held.{HasEntryHere, HasIndexEntryHere}
use Rattle.btree_cursor.specs.cursor.Rest.{Holds}
use Rattle.btree_cursor.specs.cursor.Search.{BlamesEntry, IsUnchainedIndex, IsUnchainedPage}
use Rattle.btree_cursor.specs.cursor.Way.{HasCome, HasReached, IsOver, LeadsTo, StandsOn}
use Rattle.btree_cursor.proofs.lemmas.cursor.FrameLemmas.{frame_level, header_frame, page_long, used}

module _ (pages : Pages) (kind : TreeKind) (root : ℕ) where
  pub stands_met : (depth n : ℕ) (level : Level) (frame : Frame) → frame.number ≡ n → IsMetAt pages kind root depth n
      → Holds pages frame → HasHeader pages kind level n → HasEntries kind level → StandsOn pages kind root frame
  stands_met depth n level frame number met holds header entries = record {
    depth = depth;
    level = level;
    met = subst (λ (k : ℕ). IsMetAt pages kind root depth k) (sym number) met;
    holds = holds;
    header = subst (λ (k : ℕ). HasHeader pages kind level k) (sym number) header;
    entries = entries;
  }

  -- another cell of the page
  pub stands_at : (frame : Frame) (p : ℕ) → StandsOn pages kind root frame → StandsOn pages kind root (record frame { at = p })
  stands_at frame p s = record {
    depth = s.depth;
    level = s.level;
    met = s.met;
    holds = record { long = s.holds.long; page = s.holds.page; count = s.holds.count };
    header = s.header;
    entries = s.entries;
  }

  -- a page of the tree's kind has cells of the tree, as its header says
  pub stands_entries : (frame : Frame) (s : StandsOn pages kind root frame) (level : Level)
      → IsPageOf pages kind level frame.number → HasEntries kind level
  stands_entries frame s level page =
      subst (λ (l : Level). HasEntries kind l)
      (flag_of-same kind s.level level (sym s.header.flag_is ∙ page.header.flag_is)) s.entries

-- a cursor over an index gives an entry of a page that is met
pub record MeetsEntry (pages : Pages) (root : ℕ) (cursor : Cursor) (cell : CellData) : Type 0 where
  pub here : Frame
  pub here_is : cursor.here ≡ Some here
  pub stands : StandsOn pages Index root here
  pub within : here.at < count_at pages here.number
  pub entry : IsEntryCell (header_at here.number) pages.size stands.level (pages.page here.number) here.at cell

module _ (pages : Pages) (root : ℕ) (cursor : Cursor) (kind_is : cursor.kind ≡ Index) (root_is : cursor.root ≡ root)
    (come : HasCome pages cursor) (over : IsOver pages cursor) (cell : CellData) where
  meets_here : (here : Frame) → cursor.here ≡ Some here → HasIndexEntryHere cursor.usable cursor.most here cell
      → MeetsEntry pages root cursor cell
  meets_here here is held =
      let reached : HasReached pages Index root cursor.frames.items here =
      subst (λ (r : ℕ). HasReached pages Index r cursor.frames.items here) root_is
      (subst (λ (k : TreeKind). HasReached pages k cursor.root cursor.frames.items here) kind_is (come here is)) in
      let s = reached.stands in
      let e = used pages Index here cursor.usable s.holds over.usable in
      let level : held.level ≡ s.level =
      frame_level pages Index here cursor.usable s.holds over.usable s.level held.level s.header held.header in
      let n = here.number in
      let there : IsEntryCell (header_at n) cursor.most held.level (pages.page n) here.at cell = rw e at held.entry in
      record {
        here = here;
        here_is = is;
        stands = s;
        within = rw e at held.within;
        entry = subst (λ (m : ℕ). IsEntryCell (header_at n) m s.level (pages.page n) here.at cell) (sym over.most)
            (subst (λ (l : Level). IsEntryCell (header_at n) cursor.most l (pages.page n) here.at cell) level there);
      }

  pub meets_entry : (here : Frame) → cursor.here ≡ Some here → GivesEntry cursor (Some cell) → MeetsEntry pages root cursor cell
  meets_entry here is gives =
      meets_here here is (subst (λ (k : TreeKind). HasEntryHere k cursor.usable cursor.most here cell) kind_is (gives.1 here is))

module _ (pages : Pages) (root : ℕ) (cursor : Cursor) (cell : CellData) (m : MeetsEntry pages root cursor cell) where
  pub met_whole : IsUnchainedIndex pages root → cell.payload.overflow ≡ None
  met_whole whole = whole m.stands.depth m.here.number m.stands.level m.stands.met m.stands.header m.here.at cell m.within m.entry

  pub met_on : IsEntryOn pages m.stands.level m.here.number m.here.at cell
  met_on =
      let n = m.here.number in
      let level = m.stands.level in
      let long = page_long pages Index m.here pages.usable m.stands.holds refl in
      let from = cell_place (header_at n) level (pages.page n) m.here.at + child_size level in
      record {
        is = subst (λ (b : List ℕ). IsIndexCell pages.usable b cell) (entry_bytes pages level n m.here.at)
            (subst (λ (u : ℕ). IsIndexCell u (drop from (pages.page n)) cell) long m.entry.is.is);
        fits = m.entry.is.fits;
      }

  pub met_blames : (fault : Fault) → BreaksEntry pages m.stands.level m.here.number fault → BlamesEntry pages root fault
  met_blames fault broken = (m.stands.depth, m.here.number, m.stands.level, m.stands.met, m.stands.header, broken)

-- a page that a search of such an index asks for, before its entries are compared and then
module _ (pages before after : Pages) (first : before ≡ pages) (then : after ≡ pages) (root n : ℕ) (frame : Frame) (number : frame.number ≡ n)
    (holds : Holds before frame) (header : HasHeader before Index frame.level n) (whole : IsUnchainedIndex pages root) where
  pub kept_met : (depth : ℕ) → IsMetAt pages Index root depth n → (P : Type 0)
      → ((level : Level) → Holds after frame → HasHeader after Index level frame.number → IsUnchainedPage after level frame.number → P) → P
  kept_met depth met P local =
      let own = subst (λ (x : Pages). HasHeader x Index frame.level n) first header in
      let own_number = subst (λ (k : ℕ). HasHeader pages Index frame.level k) (sym number) own in
      local frame.level
      (subst (λ (x : Pages). Holds x frame) (sym then) (subst (λ (x : Pages). Holds x frame) first holds))
      (subst (λ (x : Pages). HasHeader x Index frame.level frame.number) (sym then) own_number)
      (subst (λ (x : Pages). IsUnchainedPage x frame.level frame.number) (sym then)
      (whole depth frame.number frame.level (subst (λ (k : ℕ). IsMetAt pages Index root depth k) (sym number) met) own_number))

pub kept_page : (pages before after : Pages) → before ≡ pages → after ≡ pages → (root n : ℕ) (frames : List Frame) → LeadsTo pages Index root frames n
    → (frame : Frame) → frame.number ≡ n → Holds before frame → HasHeader before Index frame.level n → IsUnchainedIndex pages root → (P : Type 0)
    → ((level : Level) → Holds after frame → HasHeader after Index level frame.number → IsUnchainedPage after level frame.number → P) → P
kept_page pages before after first then root n frames leads frame number holds header whole =
    kept_met pages before after first then root n frame number holds header whole (length frames + 1) leads.met

-- the cell of an index at which a frame stands that is met, by what its page's bytes say
module _ (pages : Pages) (root : ℕ) (frame : Frame) (s : StandsOn pages Index root frame) (cell : CellData) where
  pub stands_whole : (usable most : ℕ) → pages.usable ≡ usable → pages.size ≡ most → HasIndexEntryHere usable most frame cell → IsUnchainedIndex pages root
      → cell.payload.overflow ≡ None
  stands_whole usable most same size held whole =
      let e = used pages Index frame usable s.holds same in
      let n = frame.number in
      let there : IsEntryCell (header_at n) most held.level (pages.page n) frame.at cell = rw e at held.entry in
      whole s.depth n held.level s.met (header_frame pages Index frame usable s.holds same held.level held.header) frame.at cell (rw e at held.within)
      (subst (λ (m : ℕ). IsEntryCell (header_at n) m held.level (pages.page n) frame.at cell) (sym size) there)

  -- what is blamed of it is blamed of its page
  pub stands_blames : frame.at < frame.count → IsEntryAt pages Index (place_at frame.number frame.at) cell → (fault : Fault)
      → BreaksCell pages frame.number cell fault → BlamesEntry pages root fault
  stands_blames within at fault broken =
      let count : frame.count ≡ count_at pages frame.number = s.holds.count in (
        s.depth,
        frame.number,
        at.level,
        s.met,
        at.page,
        cell_breaks pages at.level frame.number frame.at cell (omega arith) (record { is = at.is; fits = at.fits }) fault broken,
      )
