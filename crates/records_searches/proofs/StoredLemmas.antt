-- Each row of a stored table is the one that its rowid leads to.
use Rattle.std.proofs.Common.{◌≡◌, ◌<◌, ◌≤◌, ◌<ℤ◌, ⊎_elim, ℕ, ℤ, zero, suc, Contains, List, [], ◌∷◌, slice_get, Option, Some, sym, ◌∙◌, ap, subst, arith}
use Rattle.std.proofs.lemmas.Bool.{cases_eq, cases_lt}
use Rattle.std.proofs.lemmas.Int.{ints}
use Rattle.values.specs.Row.{Row}
use Rattle.btree.specs.declared.image.kind.TreeKind.TheVariants.{Table}
use Rattle.btree.specs.declared.image.kind.Level.TheVariants.{Leaf}
use Rattle.btree.specs.image.Broken.{HasRowid}
use Rattle.btree.specs.image.Pages.{IsNumber, Pages}
use Rattle.btree.specs.image.Shape.{most_levels, places_under}
use Rattle.btree.specs.image.Sound.{RowidsAscend}
use Rattle.btree.specs.image.Tree.{Place}
use Rattle.schema_tables.specs.TableData.{RowKeyData, TableData}
use Rattle.records_tables.specs.stored_rows.Stored.{IsStored}
use Rattle.records_tables.specs.Tables.{StoresAnyRow, kind_of}
use Rattle.records_searches.specs.Entries.{IsRowOfRowid}

stands_at : (places : List Place) (place : Place) → Contains places place → (k : ℕ) × (slice_get places k ≡ Some place)
stands_at [] place h = absurd (omega (arith, h.1))
stands_at (x ∷ places) place (zero, within, is) = (zero, ap (λ (p : Place). Some p) is)
stands_at (x ∷ places) place (suc k, within, is) = let later = stands_at places place (k, omega (arith, within), is) in (suc later.0, later.1)

never_less : (a : ℤ) → a <ℤ a → ⊥
never_less a less = omega (arith, ints, less)

-- two rows of a table with one rowid are one row
one_place : (pages : Pages) (places : List Place) → RowidsAscend pages places → (x y : Place) (rowid : ℤ) → Contains places x → Contains places y
    → HasRowid pages Leaf x.page x.index rowid → HasRowid pages Leaf y.page y.index rowid → x ≡ y
one_place pages places ascend x y rowid in_x in_y has_x has_y =
    let i = stands_at places x in_x in
    let j = stands_at places y in_y in
    ⊎_elim
    (λ (less : i.0 < j.0). absurd (never_less rowid (ascend i.0 j.0 x y rowid rowid less i.1 j.1 has_x has_y)))
    (λ (most : j.0 ≤ i.0). ⊎_elim
    (λ (same : j.0 ≡ i.0). let e : Some x ≡ Some y = sym i.1 ∙ ap (λ (k : ℕ). slice_get places k) (sym same) ∙ j.1 in cc)
    (λ (other : j.0 ≡ i.0 → ⊥). let less : j.0 < i.0 = omega arith in absurd (never_less rowid (ascend j.0 i.0 y x rowid rowid less j.1 i.1 has_y has_x)))
    (cases_eq j.0 i.0))
    (cases_lt i.0 j.0)

pub row_of_its_rowid : (pages : Pages) (table : TableData) (at : Option ℕ) (levels : ℕ) (rows : List Row) → IsNumber pages table.root → levels < most_levels
    → table.key ≡ RowKeyData.Rowid at → IsStored pages table levels rows → (place : Place) (row : Row) (rowid : ℤ)
    → Contains (places_under pages Table levels table.root) place → HasRowid pages Leaf place.page place.index rowid → StoresAnyRow pages table place row
    → IsRowOfRowid pages table rowid row
row_of_its_rowid pages table at levels rows number few key_is stored place row rowid there has stores = record {
  levels = levels;
  kind_is = ap kind_of key_is;
  searchable = record { tree = record { few = few; number = number; shape = stored.shape }; order = stored.order };
  there = record { place = place; is_there = there; has = has };
  only = λ other it.
      subst (λ (p : Place). StoresAnyRow pages table p row)
      (one_place pages (places_under pages Table levels table.root) stored.cells.ascend place other rowid there it.is_there has it.has) stores;
}
