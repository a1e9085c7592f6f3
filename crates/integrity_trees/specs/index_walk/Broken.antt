-- What may be wrong with the tree of an index, and with its entries. (Database File Format, section 1.6 "B-tree Pages", and
-- section 2.3 "Representation Of SQL Indices"; the faults of docs/FAULTS.md)
use Rattle.std.specs.Prelude.{◌≡◌, ◌⊎◌, ℕ, Bool, List}
use Rattle.values.specs.Datum.{Datum}
use Rattle.values.specs.declared.fault.Fault.{Fault}
use Rattle.values.specs.declared.fault.Fault.TheVariants.{BadPage, BadOrder, BadDepth, BadRecord}
use Rattle.btree.specs.declared.image.kind.TreeKind.{TreeKind}
use Rattle.btree.specs.declared.image.kind.TreeKind.TheVariants.{Index}
use Rattle.btree.specs.declared.image.kind.Level.{Level}
use Rattle.btree.specs.image.Broken.{HasUnevenLeaves, IsSound, IsTooDeep}
use Rattle.btree.specs.image.Cell.{CellData}
use Rattle.btree.specs.image.Pages.{Pages}
use Rattle.btree.specs.image.Tree.{IsPageOf, Reaches}
use Rattle.btree_cursor.specs.index_entries.Entries.{BreaksEntry, HasEntryThat, HasRecord}
use Rattle.integrity_trees.specs.declared.index_walk.tree.EntryWidths.{EntryWidths}
use Rattle.integrity_trees.specs.index_walk.Widths.{IsOfWidth}
use Rattle.integrity_trees.specs.index_walk.Last.{IsIndexOrder}

-- The condition on the pages of a tree of either kind that a fault says is broken. Other faults say nothing of them.
abbrev pub IsBrokenTree : Pages → TreeKind → ℕ → Fault → Type 0
IsBrokenTree pages kind root (BadPage n) = Reaches pages kind root n × (¬ IsSound pages kind root n)
IsBrokenTree pages kind root (BadDepth n) = (n ≡ root) × (HasUnevenLeaves pages kind root ⊎ IsTooDeep pages kind root)
IsBrokenTree pages kind root _ = ⊥

-- the payload of a cell is a record of too few values, or of too many
abbrev pub HasOtherWidth : Pages → EntryWidths → CellData → Type 0
HasOtherWidth pages widths cell = (values : List Datum) × HasRecord pages cell values × (¬ IsOfWidth widths values)

-- the condition of an entry of page n that a fault says is broken, where entries have so many values
abbrev pub BreaksIndexEntry : Pages → EntryWidths → Level → ℕ → Fault → Type 0
BreaksIndexEntry pages widths level n fault =
    BreaksEntry pages level n fault ⊎ ((fault ≡ BadRecord n) × HasEntryThat pages level n (HasOtherWidth pages widths))

-- a page of the tree has such an entry
pub record HasBrokenEntry (pages : Pages) (widths : EntryWidths) (root : ℕ) (fault : Fault) : Type 0 where
  pub level : Level
  pub n : ℕ
  pub reaches : Reaches pages Index root n
  pub page : IsPageOf pages Index level n
  pub broken : BreaksIndexEntry pages widths level n fault

-- a page of the tree isn't in the order of entries
abbrev pub IsBrokenOrder : Pages → EntryWidths → List Bool → ℕ → Fault → Type 0
IsBrokenOrder pages widths descends root (BadOrder n) = Reaches pages Index root n × (¬ IsIndexOrder pages widths descends root n)
IsBrokenOrder pages widths descends root _ = ⊥

-- the condition on the tree of an index, whose entries have so many values, that a fault says is broken
abbrev pub IsBrokenIndex : Pages → EntryWidths → List Bool → ℕ → Fault → Type 0
IsBrokenIndex pages widths descends root fault =
    IsBrokenTree pages Index root fault ⊎ HasBrokenEntry pages widths root fault ⊎ IsBrokenOrder pages widths descends root fault
