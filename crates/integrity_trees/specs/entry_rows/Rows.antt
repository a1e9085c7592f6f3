-- The entries of an index as rows of their values. (Database File Format, section 2.3 "Representation Of SQL Indices")
use Rattle.std.specs.Prelude.{◌≡◌, ℕ, Bool, List, map}
use Rattle.values.specs.Datum.{Datum}
use Rattle.values.specs.Row.{Row}
use Rattle.btree.specs.image.Entries.{AreEntriesOf}
use Rattle.btree.specs.image.Pages.{Pages}
use Rattle.btree.specs.image.Tree.{Place}
use Rattle.btree_cursor.specs.cursor.Search.{entry_order}

-- the rows are the values of all entries of an index, each once and in the order that its columns ascend or descend in
pub record AreEntryRows (pages : Pages) (descends : List Bool) (values : Place → List Datum) (root : ℕ) (rows : List Row) : Type 0 where
  pub places : List Place
  pub entries : AreEntriesOf pages (entry_order descends values) root places
  pub rows_are : rows ≡ map values places
