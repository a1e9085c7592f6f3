-- The tree of an index, all entries of which are held against a batch. (Database File Format, section 1.6 "B-tree Pages")
use Rattle.std.specs.Prelude.{ℕ, ℤ, Bool, true, false, Contains, List, Option}
use Rattle.values.specs.Row.{Row}
use Rattle.btree.specs.declared.image.kind.TreeKind.TheVariants.{Index}
use Rattle.btree.specs.declared.image.kind.Level.{Level}
use Rattle.btree.specs.image.Pages.{Pages}
use Rattle.btree.specs.image.Shape.{HasShape}
use Rattle.btree.specs.image.Tree.{IsPageOf, Place, Reaches, StandsAt}
use Rattle.btree_cursor.specs.index_entries.Entries.{AreValuesOf}
use Rattle.integrity_trees.specs.wanted_entries.Bags.{Coded}
use Rattle.integrity_indexes.specs.index_batches.Placed.{IsAstray, IsPlaced}

-- the entries of the index that has this root have these values at their places
abbrev pub AreTreeValues : Pages → (Place → Row) → ℕ → Type 0
AreTreeValues pages values root = (level : Level) (n : ℕ) → Reaches pages Index root n → IsPageOf pages Index level n → AreValuesOf pages values level n

-- page n stands in that tree, and has so many levels below it
pub record IsTreePage (pages : Pages) (values : Place → Row) (root levels n : ℕ) : Type 0 where
  pub depth : ℕ
  pub stands : StandsAt pages Index root depth n
  pub shape : HasShape pages Index levels n
  pub entries : AreTreeValues pages values root

-- all of these entries are placed, or one is astray
abbrev pub AllPlaced : List Coded → Option ℤ → Option ℤ → ℕ → (Place → Row) → List Place → Type 0
AllPlaced batch low high columns values places = (place : Place) → Contains places place → IsPlaced batch low high columns (values place)

pub record HasAstray (batch : List Coded) (low high : Option ℤ) (columns : ℕ) (values : Place → Row) (places : List Place) : Type 0 where
  pub place : Place
  pub among : Contains places place
  pub astray : IsAstray batch low high columns (values place)

abbrev pub TellsAll : List Coded → Option ℤ → Option ℤ → ℕ → (Place → Row) → List Place → Bool → Type 0
TellsAll batch low high columns values places true = AllPlaced batch low high columns values places
TellsAll batch low high columns values places false = HasAstray batch low high columns values places
