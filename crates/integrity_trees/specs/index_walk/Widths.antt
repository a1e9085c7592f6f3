-- How many values the entries of a tree have, and which of them order it. (Database File Format, section 2.3 "Representation Of
-- SQL Indices", and section 2.4 "Representation of WITHOUT ROWID Tables")
use Rattle.std.specs.Prelude.{◌≤◌, ℕ, List, length, take}
use Rattle.values.specs.Datum.{Datum}
use Rattle.integrity_trees.specs.declared.index_walk.tree.EntryWidths.{EntryWidths}

-- each entry of an index has so many values, and all of them are its key
abbrev pub exactly : ℕ → EntryWidths
exactly width = record { key = width; most = width }

-- an entry has the values of its key, and at most so many
pub record IsOfWidth (widths : EntryWidths) (values : List Datum) : Type 0 where
  pub least : widths.key ≤ length values
  pub most : length values ≤ widths.most

-- the values of its key
abbrev pub key_of : EntryWidths → List Datum → List Datum
key_of widths values = take widths.key values
