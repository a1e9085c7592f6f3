-- The record of the entry before.
use Rattle.std.specs.Prelude.{◌≡◌, ℕ, Bool, false, true, List, Option, None, Some}
use Rattle.values.specs.Row.{Row}
use Rattle.records.specs.Record.{IsRecord}

-- whether there is one, and its bytes
pub record LastData : Type 0 where
  pub is_some : Bool
  pub bytes : List ℕ

-- it has these values, where there is one
abbrev pub IsLast : LastData → Option Row → Type 0
IsLast last None = last.is_some ≡ false
IsLast last (Some row) = (last.is_some ≡ true) × IsRecord last.bytes row
