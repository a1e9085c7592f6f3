-- An index as a list of rows of its table, in the order of its entries: what a search of it stands on. (Database File Format, section
-- 2.3 "Representation Of SQL Indices", and section 2.4 "Representation Of WITHOUT ROWID Tables"; Partial Indexes)
use Rattle.std.specs.Prelude.{◌≡◌, ℕ, Bool, IsPermutation, List, map, Option}
use Rattle.std.specs.List.{filter}
use Rattle.values.specs.Row.{Row}
use Rattle.btree.specs.declared.image.kind.TreeKind.TheVariants.{Index}
use Rattle.btree.specs.image.Pages.{Pages}
use Rattle.btree.specs.image.Shape.{places_under}
use Rattle.btree.specs.image.Tree.{Place}
use Rattle.btree_cursor.specs.cursor.Search.{IsSearchableIndex}
use Rattle.btree_cursor.specs.key_ranges.Runs.{Ascend}
use Rattle.expr.specs.Term.{Term}
use Rattle.integrity_trees.specs.wanted_entries.Wanted.{IndexedPlaces, KeyedRow, entry_of}
use Rattle.schema_tables.specs.TableData.{TableData}
use Rattle.integrity_indexes.specs.index_rows.Kept.{keeps_row}
use Rattle.integrity_indexes.specs.index_rows.Rows.{HoldsTableRows}

-- The index of these columns, which descend so, has these rows: they are the rows of its table on which its condition is true, in the
-- order in which the entries that they want stand in its tree from left to right, which has so many levels below its root; and each of
-- these entries comes before all later ones, as a search asks.
pub record HoldsIndexedRows (pages : Pages) (table : TableData) (index : IndexedPlaces) (condition : Option Term) (descends : List Bool)
    (levels root : ℕ) (rows : List KeyedRow) : Type 0 where
  pub values : Place → Row
  pub searchable : IsSearchableIndex pages descends values levels root
  pub entries_are : map values (places_under pages Index levels root) ≡ map (entry_of index) rows
  pub ascend : Ascend descends (map (entry_of index) rows)
  pub stored : List KeyedRow
  pub stored_are : HoldsTableRows table.key pages table stored
  pub same : IsPermutation (filter (λ keyed. keeps_row condition keyed.row) stored) rows
