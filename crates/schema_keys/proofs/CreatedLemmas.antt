-- The table that a CREATE TABLE makes.
use Rattle.std.proofs.Common.{◌≡◌, ℕ, ◌<◌, ◌≤◌, Bool, true, false, IsTrue, ◌↔◌, All, List, [], ◌∷◌, length, map, string_bytes, None, Some, refl, sym, ap, subst, arith}
use Rattle.std.proofs.lemmas.Option.{slice_get_within}
use Rattle.std.proofs.lemmas.List.{length-map}
use Rattle.std.proofs.lemmas.List.Elements.{All-cons, All-map, All-nil}
use Rattle.std.specs.List.{AllZip}
use Rattle.sql_reader_grammar.specs.create_trees.CreateTrees.{ColumnTree}
use Rattle.sql_reader_syntax.specs.Tree.{Name}
use Rattle.sql_reader_grammar.specs.create_trees.CreateView.{column_of, constraint_of, table_of}
use Rattle.sql_reader_grammar.specs.declared.create_trees.create.Column.{Column}
use Rattle.sql_reader_grammar.specs.declared.create_trees.create.CreateTable.{CreateTable}
use Rattle.sql_reader_grammar.specs.declared.create_trees.create.TableOption.{TableOption}
use Rattle.schema_keys.proofs.ListLemmas.{all_from_map}
use Rattle.schema_keys.specs.declared_keys.Keys.{KeyData, keys_of}
use Rattle.schema_keys.specs.Created.{AreKeys, AreServedConstraints, IsColumn, IsRowKey, IsServedConstraint, IsTable, column_names}
use Rattle.schema_keys.specs.Names.{AreDistinct, IsNameAt, IsReservedName}
use Rattle.schema_tables.specs.TableData.{ColumnData, IsKeyWithin, RowKeyData, TableData}

pub names_of : (columns : List Column) → map (λ c. c.name) (map column_of columns) ≡ map (λ (c : Column). string_bytes c.name) columns
names_of [] = refl
names_of (column ∷ columns) = ap (λ names. string_bytes column.name ∷ names) (names_of columns)

zip_length : {X Y : Type 0} (R : X → Y → Type 0) (xs : List X) (ys : List Y) → AllZip R xs ys → length xs ≡ length ys
zip_length R [] [] all = refl
zip_length R [] (y ∷ ys) all = absurd all
zip_length R (x ∷ xs) [] all = absurd all
zip_length R (x ∷ xs) (y ∷ ys) all = let rest = zip_length R xs ys all.1 in omega (arith, rest)

places_within : (all names : List Name) (places : List ℕ) (count : ℕ) → length all ≤ count → AllZip (IsNameAt all) names places
    → All (λ place. place < count) places
places_within all [] [] count long zip = All-nil _
places_within all [] (place ∷ places) count long zip = absurd zip
places_within all (name ∷ names) [] count long zip = absurd zip
places_within all (name ∷ names) (place ∷ places) count long zip =
    All-cons (λ place. place < count) place places
    (let within = slice_get_within all place zip.0.other zip.0.stands in omega (arith, within, long))
    (places_within all names places count long zip.1)

pub key_within : (options : List TableOption) (keys : List KeyData) (trees : List ColumnTree) (columns : List ColumnData) (key : RowKeyData)
    → IsRowKey options keys trees key → AllZip (IsColumn options keys) trees columns → IsKeyWithin key (length columns)
key_within options keys trees columns (RowKeyData.Rowid None) is all = tt
key_within options keys trees columns (RowKeyData.Rowid (Some at)) is all =
    let within = slice_get_within trees at is.1.0 is.1.1 in
    let same = zip_length (IsColumn options keys) trees columns all in
    omega (arith, within, same)
key_within options keys trees columns (RowKeyData.Primary places) is all =
    let same = zip_length (IsColumn options keys) trees columns all in
    let names = length-map trees (λ (c : ColumnTree). c.name) in
    places_within (column_names trees) is.1.key.columns places (length columns) (omega (arith, names, same)) is.1.places_are

-- the tests of a table's names
module _ (created : CreateTable) where
  pub reserved_refused : (found : Bool) (name : Name) → name ≡ string_bytes created.name → IsTrue found ↔ IsReservedName name
      → found ≡ true → (table : TableData) → ¬ IsTable (table_of created) table
  reserved_refused found name e tested some table is = is.unreserved (subst IsReservedName e (tested.0 some))

  pub unreserved : (found : Bool) (name : Name) → name ≡ string_bytes created.name → IsTrue found ↔ IsReservedName name
      → found ≡ false → ¬ IsReservedName (string_bytes created.name)
  unreserved found name e tested none reserved = let h : found ≡ true = tested.1 (subst IsReservedName (sym e) reserved) in absurd cc

  -- and of its columns
  module _ (columns : List Column) (e : columns ≡ created.columns.items) where
    same : map column_of columns ≡ (table_of created).columns
    same = ap (map column_of) e

    module _ (distinct : Bool) (tested : IsTrue distinct ↔ AreDistinct (map (λ (c : Column). string_bytes c.name) columns)) where
      pub doubled_refused : distinct ≡ false → (table : TableData) → ¬ IsTable (table_of created) table
      doubled_refused two table is =
          let h : distinct ≡ true = tested.1 (subst AreDistinct (names_of columns)
          (subst (λ cs. AreDistinct (map (λ c. c.name) cs)) (sym same) is.distinct)) in absurd cc

      pub distinct_names : distinct ≡ true → AreDistinct (map (λ c. c.name) (table_of created).columns)
      distinct_names one =
          subst (λ cs. AreDistinct (map (λ c. c.name) cs)) same (subst AreDistinct (sym (names_of columns)) (tested.0 one))

    module _ (found : Bool) (tested : IsTrue found ↔ All (λ (c : Column). All (λ x. IsServedConstraint (constraint_of x)) c.constraints.items) columns) where
      pub served_constraints : found ≡ true → All AreServedConstraints (table_of created).columns
      served_constraints all =
          subst (All AreServedConstraints) same
          (All-map AreServedConstraints column_of columns (λ k c within. All-map IsServedConstraint constraint_of _ (tested.0 all k c within)))

      pub unserved_refused : found ≡ false → (table : TableData) → ¬ IsTable (table_of created) table
      unserved_refused none table is =
          let all = subst (All AreServedConstraints) (sym same) is.served in
          let h : found ≡ true = tested.1 (λ k c within.
          all_from_map IsServedConstraint constraint_of _ (all_from_map AreServedConstraints column_of columns all k c within)) in
          absurd cc

    module _ (keys : List KeyData) (keyed : keys ≡ keys_of (table_of created)) where
      module _ (found : Bool) (tested : IsTrue found ↔ AreKeys (map column_of columns) keys) where
        pub keys_are : found ≡ true → AreKeys (table_of created).columns (keys_of (table_of created))
        keys_are all = subst (AreKeys (table_of created).columns) keyed (subst (λ cs. AreKeys cs keys) same (tested.0 all))

        pub keys_refused : found ≡ false → (table : TableData) → ¬ IsTable (table_of created) table
        keys_refused none table is =
            let all = subst (λ cs. AreKeys cs keys) (sym same) (subst (AreKeys (table_of created).columns) (sym keyed) is.keys_are) in
            let h : found ≡ true = tested.1 all in absurd cc

      -- what holds of its options, keys and columns as they are read
      module _ (options : List TableOption) (f : options ≡ created.options.items) where
        told : {A : Type 0} (P : List TableOption → List KeyData → List ColumnTree → A → Type 0) (x : A)
            → P options keys (map column_of columns) x → P (table_of created).options (keys_of (table_of created)) (table_of created).columns x
        told P x p =
            subst (λ os. P os (keys_of (table_of created)) (table_of created).columns x) f
            (subst (λ ks. P options ks (table_of created).columns x) keyed (subst (λ cs. P options keys cs x) same p))

        read : {A : Type 0} (P : List TableOption → List KeyData → List ColumnTree → A → Type 0) (x : A)
            → P (table_of created).options (keys_of (table_of created)) (table_of created).columns x → P options keys (map column_of columns) x
        read P x p =
            subst (λ cs. P options keys cs x) (sym same)
            (subst (λ ks. P options ks (table_of created).columns x) (sym keyed)
            (subst (λ os. P os (keys_of (table_of created)) (table_of created).columns x) (sym f) p))

        pub key_is : (key : RowKeyData) → IsRowKey options keys (map column_of columns) key
            → IsRowKey (table_of created).options (keys_of (table_of created)) (table_of created).columns key
        key_is key is = told IsRowKey key is

        pub keyless_refused : ((key : RowKeyData) → ¬ IsRowKey options keys (map column_of columns) key) → (table : TableData)
            → ¬ IsTable (table_of created) table
        keyless_refused none table is = none table.key (read IsRowKey table.key is.key_is)

        pub columns_are : (made : List ColumnData) → AllZip (IsColumn options keys) (map column_of columns) made
            → AllZip (IsColumn (table_of created).options (keys_of (table_of created))) (table_of created).columns made
        columns_are made all = told (λ os ks cs made. AllZip (IsColumn os ks) cs made) made all

        pub columnless_refused : ((made : List ColumnData) → ¬ AllZip (IsColumn options keys) (map column_of columns) made)
            → (table : TableData) → ¬ IsTable (table_of created) table
        columnless_refused none table is = none table.columns (read (λ os ks cs made. AllZip (IsColumn os ks) cs made) table.columns is.columns_are)
