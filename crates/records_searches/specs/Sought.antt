-- Where a search has led to. (Database File Format, section 1.6 "B-tree Pages")
use Rattle.std.specs.Prelude.{◌≡◌, ℕ, Bool, List, [], Option, None, Some}
use Rattle.values.specs.Datum.{Datum}
use Rattle.btree.specs.declared.image.kind.TreeKind.{TreeKind}
use Rattle.btree.specs.declared.image.kind.TreeKind.TheVariants.{Table, Index}
use Rattle.btree.specs.image.Entries.{IsAtPlace}
use Rattle.btree.specs.image.Pages.{Pages}
use Rattle.btree.specs.image.Search.{row_before}
use Rattle.btree.specs.image.Tree.{Place}
use Rattle.btree_cursor.specs.declared.cursor.cursor.Cursor.{Cursor}
use Rattle.btree_cursor.specs.cursor.Listing.{IsAt}
use Rattle.btree_cursor.specs.cursor.Search.{IsSought, IsSoughtBy}
use Rattle.btree_cursor.specs.key_ranges.Ranges.{Range, from_cut, is_before}
use Rattle.records_searches.specs.declared.row_cuts.RowCut.{RowCut}
use Rattle.records_searches.specs.declared.row_cuts.RowCut.TheVariants.{At, Last}

-- these cells are to come of a cursor, when this number of pages was asked for; without a cursor none are
abbrev pub IsCursorAt : Pages → TreeKind → ℕ → Option Cursor → List Place → ℕ → Type 0
IsCursorAt pages kind levels None places asked = places ≡ []
IsCursorAt pages kind levels (Some cursor) places asked = (budget : ℕ) × IsAt pages kind levels cursor places asked budget

-- a search of a table's rows has led past those that come before a position
abbrev pub IsRowLanding : RowCut → Pages → ℕ → ℕ → Option Cursor → ℕ → Type 0
IsRowLanding (At key behind) pages levels root cursor asked =
    IsSought pages levels root (row_before behind key) (λ places. IsCursorAt pages Table levels cursor places asked)
IsRowLanding Last pages levels root cursor asked = cursor ≡ None

-- a search of an index has led past the entries that come before a range
abbrev pub IsEntryLanding : Pages → List Bool → (Place → List Datum) → ℕ → ℕ → Range → Cursor → ℕ → Type 0
IsEntryLanding pages descends values levels root range cursor asked =
    IsSoughtBy IsAtPlace (λ place. is_before descends (from_cut descends range) (values place)) pages Index levels root
    (λ places. (budget : ℕ) × IsAt pages Index levels cursor places asked budget)
