-- An entry of an index of a table with rowids, held against a batch of wanted entries. (Database File Format, section 2.3
-- "Representation Of SQL Indices")
use Rattle.std.specs.Prelude.{◌≡◌, ◌++◌, ◌∷◌, [], ℕ, ℤ, Bool, true, false, All, Contains, List, Option, length}
use Rattle.values.specs.Datum.{int}
use Rattle.values.specs.Row.{Row}
use Rattle.integrity_trees.specs.wanted_entries.Bags.{Coded, IsWithin}
use Rattle.integrity_indexes.specs.entry_batches.Codes.{IsHeld, codes_of}

-- an entry has the values of so many columns, and behind them a rowid
pub record IsKeyed (columns : ℕ) (values : Row) (rowid : ℤ) (front : Row) : Type 0 where
  pub long : length front ≡ columns
  pub is : values ≡ front ++ int rowid ∷ []

-- the entry of a row with this rowid and these values in an index's columns
abbrev pub coded_entry : ℤ → Row → Coded
coded_entry rowid front = record { key = rowid; code = codes_of front }

-- a batch has it
pub record IsInBatch (batch : List Coded) (rowid : ℤ) (front : Row) : Type 0 where
  pub there : Contains batch (coded_entry rowid front)
  pub held : All IsHeld front

-- an entry ends with a rowid, and where this is one of those that the batch is for it is in the batch
pub record IsPlaced (batch : List Coded) (low high : Option ℤ) (columns : ℕ) (values : Row) : Type 0 where
  pub rowid : ℤ
  pub front : Row
  pub keyed : IsKeyed columns values rowid front
  pub there : IsWithin low high rowid → IsInBatch batch rowid front

-- it ends with none, or with one that the batch is for and isn't in the batch
pub record IsAstray (batch : List Coded) (low high : Option ℤ) (columns : ℕ) (values : Row) : Type 0 where
  pub within : (rowid : ℤ) (front : Row) → IsKeyed columns values rowid front → IsWithin low high rowid
  pub lacks : (rowid : ℤ) (front : Row) → IsKeyed columns values rowid front → ¬ Contains batch (coded_entry rowid front)

-- which of both a test tells
abbrev pub TellsPlaced : List Coded → Option ℤ → Option ℤ → ℕ → Bool → Row → Type 0
TellsPlaced batch low high columns true values = IsPlaced batch low high columns values
TellsPlaced batch low high columns false values = IsAstray batch low high columns values
