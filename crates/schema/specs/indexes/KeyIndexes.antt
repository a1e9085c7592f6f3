-- The indexes that SQLite makes for the keys of tables. (CREATE TABLE, "UNIQUE constraints"; Database File Format, 2.6.1)
use Rattle.std.specs.Prelude.{◌≡◌, ◌<◌, ◌^◌, ◌++◌, ℕ, true, List, codes, map, None}
use Rattle.std.specs.Fmt.{decimal}
use Rattle.std.specs.List.{AllZip, Any}
use Rattle.sql_reader_grammar.specs.declared.create_trees.create.KeyOrder.TheVariants.{Ascending}
use Rattle.schema.specs.indexes.IndexData.{IndexData, IndexedData}
use Rattle.schema.specs.indexes.Others.{others_of}
use Rattle.schema_keys.specs.Names.{IsNameAt, IsSameName}
use Rattle.schema_tables.specs.TableData.{ColumnData, TableData}
use Rattle.sql_reader_syntax.specs.Tree.{Name}
use Rattle.schema_keys.specs.table_keys.Automatic.{AutomaticData}

-- what is known of such an index before its tree: its name, its columns, and the further ones of its entries
pub record KeyIndexData : Type 0 where
  pub name : Name
  pub columns : List IndexedData
  pub others : List ℕ

-- the name of the index of this number of a table
abbrev pub automatic_name : Name → ℕ → Name
automatic_name table number = codes "sqlite_autoindex_" ++ (table ++ (codes "_" ++ decimal number))

-- one of the columns is called so
abbrev pub HasColumn : List ColumnData → Name → Type 0
HasColumn columns name = Any (λ c. IsSameName c.name name) columns

-- a column of a key, in the order of its values
pub record IsKeyColumn (columns : List ColumnData) (name : Name) (indexed : IndexedData) : Type 0 where
  pub place_is : IsNameAt (map (λ c. c.name) columns) name indexed.place
  pub order_is : indexed.order ≡ Ascending

-- the index for a key of this table, whose number is one of 64 bits
pub record IsKeyIndex (table : TableData) (automatic : AutomaticData) (index : KeyIndexData) : Type 0 where
  pub fits : automatic.number < 2 ^ 64
  pub name_is : index.name ≡ automatic_name table.name automatic.number
  pub columns_are : AllZip (IsKeyColumn table.columns) automatic.columns index.columns
  pub others_are : index.others ≡ others_of table.key index.columns

-- with this root: no two rows agree in its columns, and it leaves none out
abbrev pub rooted : KeyIndexData → Name → ℕ → IndexData
rooted index table root = record {
  name = index.name;
  table = table;
  root = root;
  columns = index.columns;
  others = index.others;
  is_unique = true;
  condition = None;
}
