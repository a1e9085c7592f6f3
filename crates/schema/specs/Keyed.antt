-- Tables, with the indexes that their keys want. (CREATE TABLE, "UNIQUE constraints"; The Schema Table)
use Rattle.std.specs.Prelude.{◌≡◌, ℕ, All, List, map}
use Rattle.std.specs.List.{AllZip, Any}
use Rattle.values.specs.Row.{Row}
use Rattle.values.specs.declared.fault.Fault.{Fault}
use Rattle.values.specs.declared.fault.Fault.TheVariants as f
use Rattle.sql_reader_grammar.specs.create_trees.CreateTrees.{TableTree}
use Rattle.schema_keys.specs.declared_keys.Keys.{keys_of}
use Rattle.schema.specs.indexes.IndexData.{IndexData}
use Rattle.schema.specs.indexes.KeyIndexes.{IsKeyIndex, KeyIndexData, rooted}
use Rattle.schema_keys.specs.Created.{IsTable}
use Rattle.schema_keys.specs.Names.{IsSameName}
use Rattle.schema_keys.specs.Rows.{SaysTable}
use Rattle.schema_tables.specs.TableData.{TableData}
use Rattle.sql_reader_syntax.specs.Tree.{Name}
use Rattle.schema_keys.specs.table_keys.Automatic.{AutomaticData, WantIndexes}
use Rattle.schema.specs.Picks.{Picks}
use Rattle.schema.specs.Says.{IsNoTable}
use Rattle.schema.specs.Wanted.{HasKeyRow}

-- a table, and the indexes that its keys want
pub record KeyedData : Type 0 where
  pub table : TableData
  pub wanted : List KeyIndexData

abbrev pub tables_in : List KeyedData → List TableData
tables_in keyed = map (λ k. k.table) keyed

-- the table of this text, whose tree has this root
pub record IsMadeTable (tree : TableTree) (root : ℕ) (keyed : KeyedData) : Type 0 where
  pub made : IsTable tree keyed.table
  pub root_is : keyed.table.root ≡ root
  pub automatic : List AutomaticData
  pub want : WantIndexes tree 1 (keys_of tree) automatic
  pub are : AllZip (IsKeyIndex keyed.table) automatic keyed.wanted

-- a row is that of such a table
pub record SaysKeyed (pages : ℕ) (row : Row) (keyed : KeyedData) : Type 0 where
  pub says : SaysTable pages row keyed.table
  pub automatic : List AutomaticData
  pub want : WantIndexes says.tree 1 (keys_of says.tree) automatic
  pub are : AllZip (IsKeyIndex keyed.table) automatic keyed.wanted

-- the rows are those of such tables, and others that are of none
abbrev pub AreKeyedOf : ℕ → List Row → List KeyedData → Type 0
AreKeyedOf pages = Picks (SaysKeyed pages) IsNoTable

-- an index that a key wants has no row, or all of them have
abbrev pub LacksRow : List Row → KeyedData → Type 0
LacksRow rows keyed = Any (λ w. ¬ HasKeyRow rows keyed.table.name w.name) keyed.wanted

abbrev pub HasKeyRows : List Row → KeyedData → Type 0
HasKeyRows rows keyed = All (λ w. HasKeyRow rows keyed.table.name w.name) keyed.wanted

-- an index of this name that a key wants, on a table of that name, with this root
abbrev pub IsRootedAs : Name → Name → ℕ → IndexData → KeyIndexData → Type 0
IsRootedAs name table root index wanted = IsSameName name wanted.name × (index ≡ rooted wanted table root)

-- memory ran out, or no key wants an index of this name
abbrev pub IsNotWanted : Name → List KeyIndexData → Fault → Type 0
IsNotWanted name wanted f.NoMemory = Unit {0}
IsNotWanted name wanted f.SchemaRow = All (λ w. ¬ IsSameName name w.name) wanted
IsNotWanted name wanted _ = ⊥
