-- The rows that a cursor gives, and the pages that it may still ask for.
use Rattle.std.proofs.Common.{◌≡◌, ◌∙◌, ◌+◌, ◌-◌, Bool, true, false, IsTrue, All, ℕ, List, [], ◌∷◌, ◌++◌, drop, None, Some, refl, sym, ap, subst, arith}
use Rattle.std.specs.List.{AllZip}
use Rattle.std.proofs.lemmas.List.Elements.{All-head, All-tail}
use Rattle.values.specs.Row.{Row}
use Rattle.pager.specs.PagerState.{PagerState}
use Rattle.pager.specs.Calls.{AsksChainsOnly, SameImage}
use Rattle.btree.specs.image.Cell.{CellData}
use Rattle.btree.specs.image.Pages.{Pages, pages_in, pages_seen}
use Rattle.btree.specs.image.Tree.{Place}
use Rattle.btree_cursor.specs.declared.cursor.cursor.Cursor.{Cursor}
use Rattle.btree_cursor.specs.cursor.Listing.{IsAt, IsEntry}
use Rattle.btree_cursor.proofs.lemmas.cursor.RestLemmas.{standing_asked}
use Rattle.schema_tables.specs.TableData.{TableData}
use Rattle.btree.proofs.KindLemmas.{one_entry}
use Rattle.records_tables.specs.Tables.{IsAnyRow, StoresAnyRow, kind_of}
use Rattle.semantics.specs.OneTable.{shown}
use Rattle.operators_scan.specs.scan.Coming.{Asks, GivesRow, IsToCome, IsUnchained}
use Rattle.operators_scan.proofs.lemmas.scan.BudgetLemmas.{at_moved}

-- ---- counts of asked pages

pub Asks-none : (local : Bool) (state : PagerState) (ahead : ℕ) → Asks local state ahead state ahead
Asks-none local state ahead = record { pages = omega arith; chains = λ is. refl }

pub Asks-then : (local : Bool) (a : PagerState) (b : ℕ) (c : PagerState) (d : ℕ) (e : PagerState) (f : ℕ) → Asks local a b c d → Asks local c d e f → Asks local a b e f
Asks-then local a b c d e f first second = record {
  pages = let x = first.pages in let y = second.pages in omega (arith, x, y);
  chains = λ is. second.chains is ∙ first.chains is;
}

pub seen_same : (start now : PagerState) → SameImage start now → pages_seen now ≡ pages_seen start
seen_same start now stays = λ k. pages_in (stays.header k) (stays.bytes k)

-- ---- a cursor's rows

-- what is ahead of a cursor that keeps within a budget
pub to_come : (pages : Pages) (table : TableData) (local : Bool) (levels : ℕ) (cursor : Cursor) (places : List Place) (rows : List Row)
    (old : PagerState) (ahead : ℕ) (new : PagerState)
    → IsAt pages (kind_of table.key) levels cursor places new.asked (old.asked + ahead) → AllZip (StoresAnyRow pages table) places rows
    → (IsTrue local → All (IsUnchained pages (kind_of table.key)) places) → (IsTrue local → new.chained ≡ old.chained)
    → (left : ℕ) × IsToCome pages table local cursor rows left × Asks local old ahead new left
to_come pages table local levels cursor places rows old ahead new at stored unchained chains =
    let asked = standing_asked pages (kind_of table.key) levels cursor.frames.items at.here places new.asked (old.asked + ahead) at.stands in (
      (old.asked + ahead) - new.asked,
      record {
        levels = levels;
        places = places;
        at = at_moved pages (kind_of table.key) levels cursor places new.asked (old.asked + ahead) 0 ((old.asked + ahead) - new.asked) (omega (arith, asked)) at;
        stored = stored;
        unchained = unchained;
      },
      record { pages = omega (arith, asked); chains = chains },
    )

-- the budget of a cursor at a count of asked pages
pub at_count : (pages : Pages) (table : TableData) (local : Bool) (cursor : Cursor) (rows : List Row) (ahead asked : ℕ)
    → (t : IsToCome pages table local cursor rows ahead) → IsAt pages (kind_of table.key) t.levels cursor t.places asked (asked + ahead)
at_count pages table local cursor rows ahead asked t =
    at_moved pages (kind_of table.key) t.levels cursor t.places 0 ahead asked (asked + ahead) (omega arith) t.at

-- a cell is the first of these rows, and the others stand behind it
pub record IsFirst (pages : Pages) (table : TableData) (cell : CellData) (rows : List Row) (others : List Place) : Type 0 where
  pub row : Row
  pub more : List Row
  pub is : IsAnyRow pages table cell row
  pub rows_are : rows ≡ row ∷ more
  pub stored : AllZip (StoresAnyRow pages table) others more

first_cell : (pages : Pages) (table : TableData) (cell : CellData) (places : List Place) (rows : List Row)
    → AllZip (StoresAnyRow pages table) places rows → IsEntry pages (kind_of table.key) places (Some cell) → IsFirst pages table cell rows (drop 1 places)
first_cell pages table cell [] rows stored entry = absurd cc
first_cell pages table cell (place ∷ places) [] stored entry = absurd stored
first_cell pages table cell (place ∷ places) (row ∷ more) stored entry = record {
  row = row;
  more = more;
  is = subst (λ (c : CellData). IsAnyRow pages table c row) (one_entry pages (kind_of table.key) place stored.0.cell cell stored.0.at entry) stored.0.is;
  rows_are = refl;
  stored = stored.1;
}

no_cell : (pages : Pages) (table : TableData) (places : List Place) (rows : List Row)
    → AllZip (StoresAnyRow pages table) places rows → IsEntry pages (kind_of table.key) places None → rows ≡ []
no_cell pages table [] [] stored entry = refl
no_cell pages table [] (row ∷ rows) stored entry = absurd stored
no_cell pages table (place ∷ places) rows stored entry = absurd entry

first_unchained : (pages : Pages) (table : TableData) (cell : CellData) (places : List Place) → IsEntry pages (kind_of table.key) places (Some cell) → All (IsUnchained pages (kind_of table.key)) places
    → cell.payload.overflow ≡ None
first_unchained pages table cell [] entry all = absurd cc
first_unchained pages table cell (place ∷ places) entry all = All-head (IsUnchained pages (kind_of table.key)) place places all cell entry

all_drop : (P : Place → Type 0) (places : List Place) → All P places → All P (drop 1 places)
all_drop P [] all = all
all_drop P (place ∷ places) all = All-tail P place places all

module _ (pages : Pages) (table : TableData) (local : Bool) (columns : List ℕ) (old : Cursor) (rows : List Row) (ahead : ℕ) (start : PagerState)
    (t : IsToCome pages table local old rows ahead) where
  -- what is left of a cursor's rows
  abbrev pub Later : Cursor → PagerState → List Row → Type 0
  Later new then later = (left : ℕ) × IsToCome pages table local new later left × Asks local start ahead then left

  -- there is no further row
  pub none_given : (before after : Row) → after ≡ before → IsEntry pages (kind_of table.key) t.places None
      → GivesRow false columns rows before after (Later old start)
  none_given before after same entry =
      let none = no_cell pages table t.places rows t.stored entry in
      (none, same, (ahead, subst (λ (rs : List Row). IsToCome pages table local old rs ahead) none t, Asks-none local start ahead))

  module _ (cell : CellData) (entry : IsEntry pages (kind_of table.key) t.places (Some cell)) where
    pub first : IsFirst pages table cell rows (drop 1 t.places)
    first = first_cell pages table cell t.places rows t.stored entry

    -- a cursor stands where it stood, once overflow pages were read
    pub still_at : (then : PagerState) → AsksChainsOnly start then → pages ≡ pages_seen start
        → IsAt (pages_seen then) (kind_of table.key) t.levels old t.places then.asked (start.asked + ahead)
    still_at then chained is =
        subst (λ (a : ℕ). IsAt (pages_seen then) (kind_of table.key) t.levels old t.places a (start.asked + ahead)) (sym chained.unasked)
        (subst (λ (p : Pages). IsAt p (kind_of table.key) t.levels old t.places start.asked (start.asked + ahead)) (is ∙ sym (seen_same start then chained.image))
        (at_count pages table local old rows ahead start.asked t))

    -- the row at which the cursor stood was given, and the cursor went on
    pub row_given : (mid then : PagerState) (new : Cursor) (before after : Row) → after ≡ before ++ shown columns first.row
        → IsAt pages (kind_of table.key) t.levels new (drop 1 t.places) then.asked (start.asked + ahead)
        → (cell.payload.overflow ≡ None → mid ≡ start) → then.chained ≡ mid.chained
        → GivesRow true columns rows before after (Later new then)
    row_given mid then new before after is at unread chained = (
      first.row,
      first.more,
      first.rows_are,
      is,
      to_come pages table local t.levels new (drop 1 t.places) first.more start ahead then at first.stored
          (λ here. all_drop (IsUnchained pages (kind_of table.key)) t.places (t.unchained here))
          (λ here. chained ∙ ap (λ (p : PagerState). p.chained) (unread (first_unchained pages table cell t.places entry (t.unchained here)))),
    )
