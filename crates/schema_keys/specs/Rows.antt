-- What the rows of the schema say. (The Schema Table)
use Rattle.std.specs.Prelude.{◌≡◌, ℕ, pos, ◌≤◌, List, [], ◌∷◌, codes, map}
use Rattle.std.specs.List.{AllZip}
use Rattle.values.specs.Datum.{int, text}
use Rattle.values.specs.Row.{Row}
use Rattle.sql_reader_creates.specs.CreateGrammar.{SpellsCreate}
use Rattle.sql_reader_grammar.specs.phrases.Texts.{AreWithinLimits}
use Rattle.sql_reader_syntax.specs.Tree.{Name}
use Rattle.sql_reader_grammar.specs.create_trees.CreateTrees.{TableTree, columns_of_table}
use Rattle.schema_tables.specs.TableData.{TableData}
use Rattle.schema_keys.specs.Names.{AreDistinct, IsSameName}
use Rattle.schema_keys.specs.Created.{IsTable}

-- A row of the schema is that of a table, of an image of so many pages: it has the table's name twice, the root of its
-- tree, and the text that creates it.
pub record SaysTable (pages : ℕ) (row : Row) (table : TableData) : Type 0 where
  pub name : Name
  pub owner : Name
  pub sql : List ℕ
  pub tree : TableTree
  pub row_is : row ≡ text (codes "table") ∷ text name ∷ text owner ∷ int (pos table.root) ∷ text sql ∷ []
  pub spelt : SpellsCreate sql tree
  pub within : AreWithinLimits columns_of_table sql tree
  pub name_is : IsSameName name tree.name
  pub owner_is : IsSameName owner tree.name
  pub least : 2 ≤ table.root
  pub most : table.root ≤ pages
  pub created : IsTable tree table

-- each row of the schema is that of a table, in this order, and no two tables have one name
pub record AreTables (pages : ℕ) (rows : List Row) (tables : List TableData) : Type 0 where
  pub said : AllZip (SaysTable pages) rows tables
  pub distinct : AreDistinct (map (λ t. t.name) tables)
