-- The table of each index of a catalog.
use Rattle.std.proofs.Common.{◌≡◌, ◌∙◌, ℕ, Bool, not, true, false, ◌||◌, All, Contains, List, [], ◌∷◌, length, map, nat_eq, refl, ap, sym, subst, arith, inl, inr, ⊎_elim}
use Rattle.std.specs.Char.{to_ascii_lowercase}
use Rattle.std.specs.List.{filter}
use Rattle.std.proofs.lemmas.List.Elements.{All-cons, All-nil, Contains-append_left, Contains-append_right}
use Rattle.values.specs.Row.{Row}
use Rattle.btree.proofs.lemmas.image.ListLemmas.{cons_cases, in_head, in_none, in_tail}
use Rattle.integrity_trees.proofs.lemmas.wanted_entries.KeptLemmas.{kept_first, left_first}
use Rattle.schema.specs.indexes.IndexData.{IndexData, IndexedData}
use Rattle.schema.specs.indexes.Others.{has_place, others_of}
use Rattle.schema_keys.specs.Names.{IsSameName}
use Rattle.schema_keys.specs.Rows.{SaysTable}
use Rattle.schema_tables.specs.TableData.{IsKeyWithin, RowKeyData, TableData}
use Rattle.schema_keys.proofs.CreatedLemmas.{key_within}
use Rattle.schema.specs.CatalogData.{CatalogData}
use Rattle.schema.specs.Picks.{Picks}
use Rattle.schema.specs.Says.{IsCatalog, IsNoIndex, SaysAnyIndex}
use Rattle.schema.proofs.LawLemmas.{row_of_table, said_of_them}
use Rattle.schema.proofs.TableLemmas.{same_table}
use Rattle.integrity_indexes.specs.index_rows.Entries.{TellsRow}
use Rattle.integrity.specs.Indexes.{IsOwned, columns_of}

by_test : {P : Type 0} (b : Bool) → (b ≡ true → P) → (b ≡ false → P) → P
by_test true pass fail = pass refl
by_test false pass fail = fail refl

same_number : (x y : ℕ) → nat_eq x y ≡ true → x ≡ y
same_number x y e = grind arith

-- a column that an index has is among its places
has_column : (columns : List IndexedData) (place : ℕ) → has_place columns place ≡ true → Contains (map (λ c. c.place) columns) place
has_column [] place has = let e : false ≡ true = has in cc
has_column (c ∷ columns) place has = by_test (nat_eq c.place place)
    (λ here. subst (λ (n : ℕ). Contains (map (λ (c : IndexedData). c.place) (c ∷ columns)) n) (same_number c.place place here)
    (in_head c.place (map (λ (c : IndexedData). c.place) columns)))
    (λ other. in_tail c.place place (map (λ (c : IndexedData). c.place) columns)
    (has_column columns place (later (nat_eq c.place place) (has_place columns place) other has)))
  where
    later : (a b : Bool) → a ≡ false → (a || b) ≡ true → b ≡ true
    later true b e all = let f : true ≡ false = e in cc
    later false b e all = all

-- what a test keeps is kept
kept_in : (p : ℕ → Bool) (xs : List ℕ) (x : ℕ) → Contains xs x → p x ≡ true → Contains (filter p xs) x
kept_in p [] x h keeps = absurd (in_none x h)
kept_in p (y ∷ xs) x h keeps = ⊎_elim
    (λ (is : y ≡ x).
    let first : p y ≡ true = subst (λ (z : ℕ). p z ≡ true) (sym is) keeps in
    subst (λ (l : List ℕ). Contains l x) (sym (kept_first p y xs first)) (subst (λ (z : ℕ). Contains (y ∷ filter p xs) z) is (in_head y (filter p xs))))
    (λ (there : Contains xs x).
    by_test (p y)
    (λ first. subst (λ (l : List ℕ). Contains l x) (sym (kept_first p y xs first)) (in_tail y x (filter p xs) (kept_in p xs x there keeps)))
    (λ left. subst (λ (l : List ℕ). Contains l x) (sym (left_first p y xs left)) (kept_in p xs x there keeps)))
    (cons_cases y x xs h)

-- each column of the key is indexed, or stands behind the columns
tells_row : (key : RowKeyData) (index : IndexData) → index.others ≡ others_of key index.columns → TellsRow key (columns_of index)
tells_row (RowKeyData.Rowid place) index are = tt
tells_row (RowKeyData.Primary places) index are = λ place h. by_test (has_place index.columns place)
    (λ has. Contains-append_left (map (λ (c : IndexedData). c.place) index.columns) index.others place (has_column index.columns place has))
    (λ none. Contains-append_right (map (λ (c : IndexedData). c.place) index.columns) index.others place
    (subst (λ (l : List ℕ). Contains l place) (sym are)
    (kept_in (λ place. not (has_place index.columns place)) places place h (ap not none))))

-- a table has its key's columns
pub says_within : (pages : ℕ) (row : Row) (table : TableData) → SaysTable pages row table → IsKeyWithin table.key (length table.columns)
says_within pages row table says =
    key_within says.tree.options _ says.tree.columns table.columns table.key says.created.key_is says.created.columns_are

module _ (pages : ℕ) (rows : List Row) (catalog : CatalogData) (is : IsCatalog pages rows catalog) where
  pub within_key : (table : TableData) → Contains catalog.tables table → IsKeyWithin table.key (length table.columns)
  within_key table among =
      let from = row_of_table pages rows catalog is table among in
      says_within pages from.0 table from.2

  -- two tables of one name are one
  one_named : (a b : TableData) → Contains catalog.tables a → Contains catalog.tables b → IsSameName a.name b.name → a ≡ b
  one_named a b here there same =
      let p = row_of_table pages rows catalog is a here in
      let q = row_of_table pages rows catalog is b there in
      same_table pages rows is.distinct p.0 q.0 a b p.1 q.1 p.2 q.2 same

  owned_by : (index : IndexData) (table : TableData) → Contains catalog.tables table → IsSameName index.table table.name
      → index.others ≡ others_of table.key index.columns → IsOwned catalog.tables index
  owned_by index table among owner are = record {
    table = table;
    is_table = among;
    owner = owner;
    tells = tells_row table.key index are;
    alone = λ other there too. one_named other table there among (sym too ∙ owner);
  }

  owned_of : (row : Row) (index : IndexData) → SaysAnyIndex pages rows catalog.tables row index → IsOwned catalog.tables index
  owned_of row index (inl says) =
      owned_by index says.table says.of_table (ap (map to_ascii_lowercase) says.created.table_is ∙ says.created.owner_is) says.created.others_are
  owned_of row index (inr says) =
      let named : index.table ≡ says.table.name = ap (λ (i : IndexData). i.table) says.index_is in
      let others : index.others ≡ says.key_index.others = ap (λ (i : IndexData). i.others) says.index_is in
      let columns : index.columns ≡ says.key_index.columns = ap (λ (i : IndexData). i.columns) says.index_is in
      owned_by index says.table (said_of_them pages rows catalog is says.table_row says.stands says.table says.wants.says) (ap (map to_ascii_lowercase) named)
      (others ∙ says.made.others_are ∙ sym (ap (others_of says.table.key) columns))

  owned_in : (here : List Row) (indexes : List IndexData) → Picks (SaysAnyIndex pages rows catalog.tables) IsNoIndex here indexes → All (IsOwned catalog.tables) indexes
  owned_in here indexes Picks.end = All-nil (IsOwned catalog.tables)
  owned_in (row ∷ here) (index ∷ indexes) (Picks.here says others) =
      All-cons (IsOwned catalog.tables) index indexes (owned_of row index says) (owned_in here indexes others)
  owned_in (row ∷ here) indexes (Picks.other left others) = owned_in here indexes others

  -- each index has its table
  pub all_owned : All (IsOwned catalog.tables) catalog.indexes
  all_owned = owned_in rows catalog.indexes is.indexes_are
