-- What is known of the sources of a join, as plain data.
use Rattle.std.specs.Prelude.{ℕ, List, [], ◌∷◌, map, Vec}
use Rattle.std.specs.Global.{Global}
use Rattle.index_choice.specs.declared.sources.Key.{Key}
use Rattle.index_choice.specs.declared.sources.Source.{Source}
use Rattle.index_choice.specs.declared.sources.TreeCounts.{TreeCounts}

-- A tree that can be searched by its columns: for each condition of a partial index the places of the conjuncts that
-- imply it; how many different values the first columns have, for each number of columns from one on; its levels, and
-- those in which the row of an entry is looked up.
pub record KeyData : Type 0 where
  pub columns : List ℕ
  pub conditions : List (List ℕ)
  pub entries : ℕ
  pub distinct : List ℕ
  pub depth : ℕ
  pub fetch : ℕ

pub record SourceData : Type 0 where
  pub columns : ℕ
  pub rows : ℕ
  pub pages : ℕ
  pub keys : List KeyData

abbrev pub condition_places : List (Vec ℕ Global) → List (List ℕ)
condition_places conditions = map (λ places. places.items) conditions

abbrev pub key_data : Key → KeyData
key_data key = record {
  columns = key.columns.items;
  conditions = condition_places key.conditions.items;
  entries = key.entries;
  distinct = key.distinct.items;
  depth = key.depth;
  fetch = key.fetch;
}

abbrev pub source_data : Source → SourceData
source_data source = record { columns = source.columns; rows = source.rows; pages = source.pages; keys = map key_data source.keys.items }

-- the primary key of a table, whose entries are its rows
abbrev pub primary_key : List ℕ → List ℕ → TreeCounts → KeyData
primary_key columns distinct table =
    record { columns = columns; conditions = []; entries = table.entries; distinct = distinct; depth = table.depth; fetch = 0 }

-- the rowid has each value once
abbrev pub rowid_key : ℕ → TreeCounts → KeyData
rowid_key column table = primary_key (column ∷ []) (table.entries ∷ []) table

-- the row of an index's entry is looked up in the table
abbrev pub index_key : List ℕ → List (List ℕ) → List ℕ → TreeCounts → TreeCounts → KeyData
index_key columns conditions distinct index table =
    record { columns = columns; conditions = conditions; entries = index.entries; distinct = distinct; depth = index.depth; fetch = table.depth }

abbrev pub table_source : ℕ → TreeCounts → List KeyData → SourceData
table_source columns table keys = record { columns = columns; rows = table.entries; pages = table.pages; keys = keys }

-- a source that is computed once and kept
abbrev pub kept_source : ℕ → SourceData
kept_source columns = record { columns = columns; rows = 100; pages = 0; keys = [] }
