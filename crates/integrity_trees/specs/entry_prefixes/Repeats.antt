-- Whether two entries of an index agree in its columns. (CREATE INDEX, "Unique Indexes"; the faults of docs/FAULTS.md)
use Rattle.std.specs.Prelude.{ℕ, List}
use Rattle.values.specs.Row.{Row}
use Rattle.btree.specs.image.Pages.{Pages}
use Rattle.integrity_trees.specs.wanted_entries.Unique.{IsNotUnique}
use Rattle.integrity_trees.specs.entry_prefixes.Entries.{HoldsEntries}

-- no two entries of an index agree in so many first columns, which have no NULL
pub record IsUniqueIndex (pages : Pages) (root columns : ℕ) : Type 0 where
  pub entries : List Row
  pub entries_are : HoldsEntries pages root entries
  pub unique : ¬ IsNotUnique columns entries

-- two do: NotUnique
pub record HasRepeats (pages : Pages) (root columns : ℕ) : Type 0 where
  pub entries : List Row
  pub entries_are : HoldsEntries pages root entries
  pub repeated : IsNotUnique columns entries
