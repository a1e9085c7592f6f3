-- Indexes and tables whose trees were checked, as they are held against one another.
use Rattle.std.proofs.Common.{◌≡◌, ℕ, zero, suc, All, Bool, Contains, List, [], ◌∷◌, Option, sym, subst, arith}
use Rattle.std.specs.List.{AllZip}
use Rattle.std.proofs.lemmas.List.Elements.{All-cons, All-head, All-nil, All-tail}
use Rattle.btree.specs.image.Pages.{IsNumber, Pages}
use Rattle.integrity_trees.specs.wanted_entries.Wanted.{IndexedPlaces}
use Rattle.expr.specs.Term.{Term}
use Rattle.schema.specs.indexes.IndexData.{IndexData}
use Rattle.schema_keys.specs.Names.{IsSameName}
use Rattle.schema_tables.specs.TableData.{TableData}
use Rattle.integrity_trees.specs.declared.tree_walk.counts.TreeCounts.{TreeCounts}
use Rattle.integrity_trees.specs.index_walk.Widths.{exactly}
use Rattle.integrity_trees.specs.index_walk.Checked.{IsCheckedIndex}
use Rattle.integrity_indexes.specs.declared.index_rows.index.TableIndex.{TableIndex}
use Rattle.integrity_indexes.specs.index_rows.Checked.{IsCheckedTable, IsCheckedTableIndex}
use Rattle.integrity_indexes.specs.index_rows.Compared.{IsDifferentIndex, IsIndexOf}
use Rattle.integrity_indexes.specs.index_rows.Entries.{TellsRow, indexed_by, width_by}
use Rattle.integrity_indexes.specs.index_rows.Kept.{condition_of}
use Rattle.integrity.specs.declared.index_trees.IndexCounts.{IndexCounts}
use Rattle.integrity.specs.Indexes.{IsCheckedIndexOf, IsCheckedIndexTree, IsCheckedIndexWith, IsCheckedWith, columns_of, descends_of, places_of}
use Rattle.integrity.specs.Tables.{IsAnyChecked}

-- what holds of all elements holds of one of them
pub all_in : {A : Type 0} (P : A → Type 0) (xs : List A) (x : A) → All P xs → Contains xs x → P x
all_in P [] x all (k, within, at) = absurd (omega (arith, within))
all_in P (y ∷ xs) x all (zero, within, at) = subst P at (All-head P y xs all)
all_in P (y ∷ xs) x all (suc k, within, at) = all_in P xs x (All-tail P y xs all) (k, omega (arith, within), at)

-- the trees of tables were checked
checked_tables : (pages : Pages) (tables : List TableData) (trees : List TreeCounts) → All (λ table. IsNumber pages table.root) tables
    → AllZip (IsAnyChecked pages) tables trees → All (IsCheckedTable pages) tables
checked_tables pages [] trees numbers all = All-nil (IsCheckedTable pages)
checked_tables pages (table ∷ tables) [] numbers all = absurd all
checked_tables pages (table ∷ tables) (counts ∷ trees) numbers all =
    All-cons (IsCheckedTable pages) table tables
    (record { counts = counts; number = All-head (λ table. IsNumber pages table.root) table tables numbers; tree = all.0 })
    (checked_tables pages tables trees (All-tail (λ table. IsNumber pages table.root) table tables numbers) all.1)

-- the same of the pages of an image that was read since
pub tables_now : (was now : Pages) (tables others : List TableData) (trees : List TreeCounts) → now ≡ was → others ≡ tables
    → All (λ table. IsNumber was table.root) tables → AllZip (IsAnyChecked was) others trees → All (IsCheckedTable now) others
tables_now was now tables others trees same are numbers checked =
    subst (λ (l : List TableData). All (IsCheckedTable now) l) (sym are)
    (subst (λ (p : Pages). All (IsCheckedTable p) tables) (sym same)
    (checked_tables was tables trees numbers (subst (λ (l : List TableData). AllZip (IsAnyChecked was) l trees) are checked)))

-- of the tables that table which has the name of an index's is its own
pub checked_with : (was now : Pages) (tables : List TableData) (table : TableData) (index : IndexData) (entries : ℕ) → was ≡ now
    → IsCheckedTable was table → IsCheckedIndexWith was tables index entries → Contains tables table → IsSameName index.table table.name
    → IsCheckedWith now table index entries
checked_with was now tables table index entries same checked held among owner =
    let its = held.owned.alone table among owner in
    subst (λ (p : Pages). IsCheckedWith p table index entries) same (record {
      table_is = checked;
      counts = held.counts;
      number = held.number;
      tree = subst (λ (t : TableData). IsCheckedIndexTree was t index held.counts) (sym its) held.tree;
      entries_are = held.entries_are;
      tells = subst (λ (t : TableData). TellsRow t.key (columns_of index)) (sym its) held.owned.tells;
    })

pub index_with : (was now : Pages) (tables : List TableData) (index : IndexData) (counts : IndexCounts) (entries : ℕ) → was ≡ now
    → entries ≡ counts.tree.cells → IsNumber was index.root → IsCheckedIndexOf was tables index counts → IsCheckedIndexWith now tables index entries
index_with was now tables index counts entries same entries_are number checked =
    subst (λ (p : Pages). IsCheckedIndexWith p tables index entries) same (record {
      owned = checked.owned;
      counts = counts.tree;
      number = number;
      tree = checked.checked.tree;
      entries_are = entries_are;
    })

-- what is known of an index's columns in memory is known of the index
module _ (pages : Pages) (table : TableData) (index : IndexData) (its : TableIndex) (root : its.root ≡ index.root)
    (places : its.places.now ≡ places_of index) (others : its.others.now ≡ index.others) where
  columns : indexed_by its ≡ columns_of index
  columns = λ k. record { columns = places k; others = others k }

  pub its_columns : (entries : ℕ) → its.descends.now ≡ descends_of index → IsCheckedWith pages table index entries
      → IsCheckedTableIndex pages table its entries
  its_columns entries descends checked = record {
    counts = checked.counts;
    number = subst (λ (n : ℕ). IsNumber pages n) (sym root) checked.number;
    tree = subst (λ (n : ℕ). IsCheckedIndex pages (exactly (width_by table.key (indexed_by its))) its.descends.now n checked.counts) (sym root)
        (subst (λ (d : List Bool). IsCheckedIndex pages (exactly (width_by table.key (indexed_by its))) d index.root checked.counts) (sym descends)
        (subst (λ (c : IndexedPlaces). IsCheckedIndex pages (exactly (width_by table.key c)) (descends_of index) index.root checked.counts) (sym columns) checked.tree));
    entries_are = checked.entries_are;
    tells = subst (λ (c : IndexedPlaces). TellsRow table.key c) (sym columns) checked.tells;
  }

  module _ (condition : condition_of its ≡ index.condition) where
    pub its_index : IsIndexOf pages table (indexed_by its) (condition_of its) its.root → IsIndexOf pages table (columns_of index) index.condition index.root
    its_index is = subst (λ (n : ℕ). IsIndexOf pages table (columns_of index) index.condition n) root
        (subst (λ (c : Option Term). IsIndexOf pages table (columns_of index) c its.root) condition
        (subst (λ (l : IndexedPlaces). IsIndexOf pages table l (condition_of its) its.root) columns is))

    pub different_index : IsDifferentIndex pages table (indexed_by its) (condition_of its) its.root
        → IsDifferentIndex pages table (columns_of index) index.condition index.root
    different_index is = subst (λ (n : ℕ). IsDifferentIndex pages table (columns_of index) index.condition n) root
        (subst (λ (c : Option Term). IsDifferentIndex pages table (columns_of index) c its.root) condition
        (subst (λ (l : IndexedPlaces). IsDifferentIndex pages table l (condition_of its) its.root) columns is))
