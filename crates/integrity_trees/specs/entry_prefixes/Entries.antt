-- The entries of an index. (Database File Format, section 2.3 "Representation Of SQL Indices")
use Rattle.std.specs.Prelude.{ℕ, List}
use Rattle.std.specs.List.{AllZip}
use Rattle.values.specs.Row.{Row}
use Rattle.btree.specs.declared.image.kind.TreeKind.TheVariants.{Index}
use Rattle.btree.specs.declared.image.kind.Level.{Level}
use Rattle.btree.specs.image.Pages.{Pages}
use Rattle.btree.specs.image.Tree.{ArePlacesOf, IsPageOf, Place}
use Rattle.btree_cursor.specs.index_entries.Entries.{HasValues}

-- the entry at a place of an index has these values
pub record StoresEntry (pages : Pages) (place : Place) (values : Row) : Type 0 where
  pub level : Level
  pub page : IsPageOf pages Index level place.page
  pub has : HasValues pages level place.page place.index values

-- the index that has this root has these entries, in whichever order: one for each cell of its tree
pub record HoldsEntries (pages : Pages) (root : ℕ) (entries : List Row) : Type 0 where
  pub places : List Place
  pub cells : ArePlacesOf pages Index root places
  pub entries_are : AllZip (StoresEntry pages) places entries
