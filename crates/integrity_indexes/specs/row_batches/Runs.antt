-- A run of rows of a table with rowids, whose wanted entries are in a batch. (Database File Format, section 2.3 "Representation Of
-- SQL Indices")
use Rattle.std.specs.Prelude.{◌≡◌, ◌⊎◌, ◌++◌, ◌∷◌, [], ℕ, ℤ, Bool, true, false, All, List, Option, Some}
use Rattle.values.specs.Row.{Row}
use Rattle.btree.specs.image.Tree.{Place}
use Rattle.expr.specs.Term.{Term}
use Rattle.integrity_indexes.specs.entry_batches.Codes.{IsHeld, codes_of}
use Rattle.integrity_indexes.specs.index_batches.Placed.{coded_entry}
use Rattle.integrity_indexes.specs.index_batches.Trees.{AllPlaced, HasAstray}
use Rattle.integrity_trees.specs.wanted_entries.Wanted.{values_at}
use Rattle.integrity_indexes.specs.index_rows.Kept.{keeps_row}
use Rattle.integrity_indexes.specs.declared.row_batches.runs.Run.{Run}

-- the bytes are the code of the values that a row has in these columns
pub record IsCodeOf (places : List ℕ) (row : Row) (code : List ℕ) : Type 0 where
  pub is : code ≡ codes_of (values_at row places)
  pub held : All IsHeld (values_at row places)

-- A row was added to a run: with an entry, where the condition keeps it.
pub record IsKeptRow (places : List ℕ) (row : Row) (rowid : ℤ) (old new : Run) : Type 0 where
  pub batch : new.batch ≡ old.batch ++ coded_entry rowid (values_at row places) ∷ []
  pub held : All IsHeld (values_at row places)

pub record IsAdded (condition : Option Term) (places : List ℕ) (row : Row) (rowid : ℤ) (old new : Run) (count : ℕ) : Type 0 where
  pub above : new.above ≡ old.above
  pub last : new.last ≡ Some rowid
  pub entry : ((keeps_row condition row ≡ true) × (count ≡ 1) × IsKeptRow places row rowid old new)
      ⊎ ((keeps_row condition row ≡ false) × (count ≡ 0) × (new.batch ≡ old.batch))

-- the next run begins behind this one, where each entry of the index that is within it is placed
pub record IsTurned (old new : Run) (columns : ℕ) (values : Place → Row) (places : List Place) : Type 0 where
  pub last : ℤ
  pub last_is : old.last ≡ Some last
  pub batch : new.batch ≡ []
  pub above : new.above ≡ Some last
  pub same : new.last ≡ old.last
  pub placed : AllPlaced old.batch old.above (Some last) columns values places

-- an entry is astray of a run
pub record IsRunAstray (run : Run) (columns : ℕ) (values : Place → Row) (places : List Place) : Type 0 where
  pub last : ℤ
  pub last_is : run.last ≡ Some last
  pub has : HasAstray run.batch run.above (Some last) columns values places

-- what is told where a run may be full
abbrev pub TellsTurn : Run → Run → ℕ → (Place → Row) → List Place → Bool → Type 0
TellsTurn old new columns values places true = (new ≡ old) ⊎ IsTurned old new columns values places
TellsTurn old new columns values places false = IsRunAstray old columns values places
