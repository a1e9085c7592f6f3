-- The rows of a table without rowids whose tree was checked, in the order of their keys.
use Rattle.std.proofs.Common.{◌≡◌, ◌∙◌, suc, All, Contains, true, false, List, [], ◌∷◌, length, map, take, ap, refl, subst, sym, arith}
use Rattle.std.specs.List.{AllZip}
use Rattle.std.proofs.lemmas.List.Elements.{All-cons, All-nil}
use Rattle.std.specs.Ordering.{is_lt}
use Rattle.std.specs.declared.cmp.Ordering.{Ordering}
use Rattle.std.specs.declared.cmp.Ordering.TheVariants.{Less, Equal, Greater}
use Rattle.values.specs.Datum.{Datum}
use Rattle.values.specs.Row.{Row}
use Rattle.btree.specs.declared.image.kind.TreeKind.TheVariants.{Index}
use Rattle.btree.specs.image.Entries.{IsStrictOrder}
use Rattle.btree.specs.image.Pages.{Pages}
use Rattle.btree.specs.image.Tree.{ArePlacesOf, Place}
use Rattle.btree.proofs.lemmas.image.EntryLemmas.{entries_of}
use Rattle.btree.proofs.lemmas.image.ListLemmas.{in_head, in_tail}
use Rattle.btree.proofs.lemmas.image.PlaceLemmas.{sound}
use Rattle.btree_cursor.specs.key_ranges.Ranges.{key_cmp}
use Rattle.btree_cursor.specs.key_ranges.Runs.{Ascend}
use Rattle.btree_cursor.proofs.lemmas.key_ranges.RunLemmas.{key_after, key_never}
use Rattle.btree_cursor.specs.index_entries.Entries.{HasRecord}
use Rattle.integrity_trees.specs.declared.tree_walk.counts.TreeCounts.{TreeCounts}
use Rattle.btree.proofs.KindLemmas.{one_entry}
use Rattle.integrity_trees.specs.index_walk.Widths.{key_of}
use Rattle.btree_cursor.proofs.lemmas.index_entries.EntryLemmas.{entry_at_place}
use Rattle.schema_tables.specs.TableData.{IsKeyWithin, TableData}
use Rattle.records_tables.specs.stored_rows.Stored.{Fits}
use Rattle.records_tables.specs.primary_rows.Order.{key_order}
use Rattle.records_tables.proofs.lemmas.primary_rows.KeyLemmas.{key_first}
use Rattle.records_tables.specs.primary_rows.Held.{HoldsPrimaryRows, StoresPrimaryRow, key_of_row}
use Rattle.integrity_trees.specs.primary_walk.Checked.{HoldsPrimaryRow, IsCheckedPrimary, widths_of}
use Rattle.integrity_trees.proofs.lemmas.primary_walk.RowLemmas.{all, held, one_values, values}

less_of : (o : Ordering) → is_lt o ≡ true → o ≡ Less
less_of Less e = refl
less_of Equal e = let f : false ≡ true = e in cc
less_of Greater e = let f : false ≡ true = e in cc

-- the rows at these places
record HasRows (pages : Pages) (table : TableData) (places : List Place) : Type 0 where
  rows : List Row
  stored : AllZip (StoresPrimaryRow pages table) places rows
  fit : All (Fits table) rows

has_rows_at : (pages : Pages) (table : TableData) (places : List Place) → All (HoldsPrimaryRow pages table) places → HasRows pages table places
has_rows_at pages table [] hold = record { rows = []; stored = tt; fit = All-nil (Fits table) }
has_rows_at pages table (p ∷ places) hold =
    let here = hold 0 p (omega arith) in
    let rest = has_rows_at pages table places (λ k d within. hold (suc k) d (omega (arith, within))) in
    record { rows = here.row ∷ rest.rows; stored = (here.stores, rest.stored); fit = All-cons (Fits table) here.row rest.rows here.fits rest.fit }

module _ (pages : Pages) (table : TableData) (within : IsKeyWithin table.key (length table.columns)) (counts : TreeCounts) (checked : IsCheckedPrimary pages table counts) where
  abbrev its_values : Place → List Datum
  its_values = values pages table counts checked.tree

  abbrev every : List Place
  every = all pages table counts checked.tree

  strict : IsStrictOrder (λ x y. is_lt (key_cmp [] (its_values x) (its_values y)))
  strict = record {
    never = λ x less. key_never [] (its_values x) (less_of (key_cmp [] (its_values x) (its_values x)) less);
    after = λ x y z first next. ap is_lt (key_after [] (its_values x) (its_values y) (its_values z)
        (less_of (key_cmp [] (its_values x) (its_values y)) first) (less_of (key_cmp [] (its_values y) (its_values z)) next));
  }

  cells : ArePlacesOf pages Index table.root every
  cells = (entries_of pages (λ x y. is_lt (key_cmp [] (its_values x) (its_values y))) strict table.root counts.levels checked.tree.shape
      (held pages table counts checked.tree).order).cells

  -- the key of a row is that of its entry
  key_at : (place : Place) → Contains every place → (row : Row) → StoresPrimaryRow pages table place row
      → key_of_row table row ≡ key_of (widths_of table) (its_values place)
  key_at place among row stores =
      let is = sound pages Index counts.levels table.root checked.tree.shape place among in
      let has = ((held pages table counts checked.tree).entries is.level place.page is.reaches is.page).each place.index is.within in
      let same = one_entry pages Index place stores.has.cell has.cell
      (entry_at_place pages stores.level place.page place.index stores.has.cell stores.page stores.has.is)
      (entry_at_place pages is.level place.page place.index has.cell is.page has.is) in
      let one = one_values pages has.cell stores.values (its_values place) (subst (λ c. HasRecord pages c stores.values) same stores.has.has) has.has in
      key_first table stores.values row within stores.makes ∙ ap (λ (v : List Datum). take (length (key_order table)) v) one

  keys_are : (places : List Place) (rows : List Row) → ((place : Place) → Contains places place → Contains every place) → AllZip (StoresPrimaryRow pages table) places rows
      → map (key_of_row table) rows ≡ map (λ place. key_of (widths_of table) (its_values place)) places
  keys_are [] [] among stored = refl
  keys_are [] (row ∷ rows) among stored = absurd stored
  keys_are (p ∷ places) [] among stored = absurd stored
  keys_are (p ∷ places) (row ∷ rows) among stored =
      ap (λ (k : List Datum). k ∷ map (key_of_row table) rows) (key_at p (among p (in_head p places)) row stored.0)
      ∙ ap (λ (l : List (List Datum)). key_of (widths_of table) (its_values p) ∷ l)
      (keys_are places rows (λ q h. among q (in_tail p q places h)) stored.1)

  pub rows_held : (rows : List Row) × HoldsPrimaryRows pages table rows × All (Fits table) rows
  rows_held =
      let has = has_rows_at pages table every checked.rows in (
        has.rows,
        record {
          places = every;
          cells = cells;
          rows_are = has.stored;
          ascend = subst (λ (l : List (List Datum)). Ascend [] l) (sym (keys_are every has.rows (λ place h. h) has.stored))
              ((held pages table counts checked.tree).keys counts.levels checked.tree.shape);
        },
        has.fit,
      )

  -- they stand at the places of the tree, from left to right
  pub rows_stand : AllZip (StoresPrimaryRow pages table) every rows_held.0
  unfolding rows_held
  rows_stand = rows_held.1.rows_are
