-- The indexes that SQLite makes for the keys of tables.
use Rattle.std.proofs.Common.{◌≡◌, ℕ, ◌+◌, ◌<◌, ◌≤◌, All, IfNone, List, [], ◌∷◌, ◌++◌, length, get_or, map, take, string_bytes, Global, String, IsSome, Option, Some, None, option_map, sym, ap, ◌∙◌, subst}
use Rattle.std.proofs.lemmas.List.{take_all}
use Rattle.std.proofs.lemmas.Option.{slice_get-get_or, slice_get-map}
use Rattle.std.specs.List.{AllZip}
use Rattle.schema_keys.proofs.ListLemmas.{all_from_map, all_zip_push, map_next}
use Rattle.schema_tables.proofs.ZipLemmas.{zip_same}
use Rattle.schema_keys.proofs.NameLemmas.{one_place}
use Rattle.schema_keys.specs.Names.{AreDistinct, IsNameAt}
use Rattle.schema_tables.specs.TableData.{ColumnData, TableData}
use Rattle.sql_reader_syntax.specs.Tree.{Name}
use Rattle.schema_keys.specs.table_keys.Automatic.{AutomaticData}
use Rattle.schema.specs.indexes.IndexData.{IndexedData}
use Rattle.schema.specs.indexes.KeyIndexes.{HasColumn, IsKeyColumn, IsKeyIndex, KeyIndexData}
use Rattle.schema.specs.indexes.Others.{others_of}

-- a column that is there has a place
pub some_place : (columns : List ColumnData) (name : Name) (place : Option ℕ) → IfNone place ((k : ℕ) → ¬ IsNameAt (map (λ c. c.name) columns) name k)
    → HasColumn columns name → IsSome place
some_place columns name (Some k) none has = cc
some_place columns name None none (k, x, within, is, same) =
    absurd (none k (record {
      other = x.name;
      stands = slice_get-map (λ (c : ColumnData). c.name) columns k
          ∙ ap (option_map (λ (c : ColumnData). c.name)) (slice_get-get_or columns k x within ∙ ap Some is);
      named = same;
    }))

-- The columns of a key, one after the other
module _ (columns : List ColumnData) (names : List (String Global)) where
  abbrev pub KeyColumnsSoFar : ℕ → List IndexedData → Type 0
  KeyColumnsSoFar count all = AllZip (IsKeyColumn columns) (map (λ n. string_bytes n) (take count names)) all

  pub all_key_columns : (count : ℕ) (all : List IndexedData) → length names ≤ count → KeyColumnsSoFar count all
      → AllZip (IsKeyColumn columns) (map (λ n. string_bytes n) names) all
  all_key_columns count all end far =
      subst (λ ns. AllZip (IsKeyColumn columns) (map (λ n. string_bytes n) ns) all) (take_all count names end) far

  module _ (i : ℕ) (x : String Global) (within : i < length names) (is : x ≡ get_or names i x) where
    pub column_at : All (HasColumn columns) (map (λ n. string_bytes n) names) → HasColumn columns (string_bytes x)
    column_at all =
        subst (λ n. HasColumn columns (string_bytes n)) (sym is) (all_from_map (HasColumn columns) (λ n. string_bytes n) names all i x within)

    pub key_column_more : (all more : List IndexedData) (next : IndexedData) → IsKeyColumn columns (string_bytes x) next
        → more ≡ all ++ next ∷ [] → KeyColumnsSoFar i all → KeyColumnsSoFar (i + 1) more
    key_column_more all more next here e far =
        subst (KeyColumnsSoFar (i + 1)) (sym e)
        (subst (λ ns. AllZip (IsKeyColumn columns) ns (all ++ next ∷ [])) (sym (map_next (λ n. string_bytes n) names i x within is))
        (all_zip_push (IsKeyColumn columns) (map (λ n. string_bytes n) (take i names)) all (string_bytes x) next far here))

-- one index
one_key_column : (columns : List ColumnData) → AreDistinct (map (λ c. c.name) columns) → (name : Name) (a b : IndexedData)
    → IsKeyColumn columns name a → IsKeyColumn columns name b → a ≡ b
one_key_column columns distinct name a b p q =
    let place : a.place ≡ b.place = one_place (map (λ c. c.name) columns) distinct name a.place b.place p.place_is q.place_is in
    let order : a.order ≡ b.order = p.order_is ∙ sym q.order_is in
    λ i. record { place = place i; order = order i }

pub one_key_index : (table : TableData) (automatic : AutomaticData) (a b : KeyIndexData) → AreDistinct (map (λ c. c.name) table.columns)
    → IsKeyIndex table automatic a → IsKeyIndex table automatic b → a ≡ b
one_key_index table automatic a b distinct p q =
    let name : a.name ≡ b.name = p.name_is ∙ sym q.name_is in
    let columns : a.columns ≡ b.columns =
    zip_same (IsKeyColumn table.columns) (one_key_column table.columns distinct) automatic.columns a.columns b.columns p.columns_are q.columns_are in
    let others : a.others ≡ b.others = p.others_are ∙ (ap (others_of table.key) columns ∙ sym q.others_are) in
    λ i. record { name = name i; columns = columns i; others = others i }
