-- The keys of a table, the column that is the rowid, and how rows are found.
use Rattle.std.proofs.Common.{◌≡◌, ℕ, zero, suc, ◌+◌, ◌<◌, ◌≤◌, inl, inr, Bool, true, false, IsTrue, ◌↔◌, All, List, [], ◌∷◌, ◌++◌, length, get_or, map, take, slice_get, string_bytes, Global, String, IfNone, IsSome, Option, None, Some, option_map, sym, ap, ◌∙◌, subst, arith}
use Rattle.std.proofs.lemmas.List.{take_all}
use Rattle.std.proofs.lemmas.List.Elements.{All-from_all_within, All-map}
use Rattle.std.proofs.lemmas.Option.{slice_get-get_or, slice_get-map}
use Rattle.std.specs.List.{AllWithin, AllZip}
use Rattle.sql_reader_grammar.specs.create_trees.CreateTrees.{ColumnTree}
use Rattle.sql_reader_grammar.specs.create_trees.CreateView.{column_of}
use Rattle.sql_reader_grammar.specs.declared.create_trees.create.Column.{Column}
use Rattle.sql_reader_grammar.specs.declared.create_trees.create.TableOption.{TableOption}
use Rattle.schema_keys.specs.declared_keys.Keys.{KeyData}
use Rattle.sql_reader_syntax.specs.Tree.{Name}
use Rattle.schema_keys.specs.Created.{AreColumns, AreKeys, Clash, IsNamedIn, IsOnlyPrimary, IsRowid, IsRowidPlace, IsRowKey, IsRowless, column_names}
use Rattle.schema_keys.specs.Names.{AreApart, IsNameAt, IsSameName}
use Rattle.schema_tables.specs.TableData.{RowKeyData}
use Rattle.schema_keys.proofs.ListLemmas.{all_from_map, all_zip_push, map_next}
use Rattle.schema_keys.proofs.ServedLemmas.{any_from_map}

module _ {A : Type 0} (R : A → A → Type 0) where
  zip_at : (xs ys : List A) (i : ℕ) (x y : A) → slice_get xs i ≡ Some x → slice_get ys i ≡ Some y → AllZip R xs ys → R x y
  zip_at [] ys i x y p q all = absurd cc
  zip_at (a ∷ xs) [] i x y p q all = absurd all
  zip_at (a ∷ xs) (b ∷ ys) zero x y p q all =
      let first : a ≡ x = cc in let second : b ≡ y = cc in subst (R x) second (subst (λ z. R z b) first all.0)
  zip_at (a ∷ xs) (b ∷ ys) (suc i) x y p q all = zip_at xs ys i x y p q all.1

  -- of two lists that are gone over side by side
  module _ {X : Type 0} (of : X → A) (xs ys : List X) where
    module _ (i : ℕ) (x y : X) (first : i < length xs) (second : i < length ys) (is : x ≡ get_or xs i x) (other : y ≡ get_or ys i y) where
      pub zip_next : R (of x) (of y) → AllZip R (map of (take i xs)) (map of (take i ys))
          → AllZip R (map of (take (i + 1) xs)) (map of (take (i + 1) ys))
      zip_next related so_far =
          subst (λ zs. AllZip R zs (map of (take (i + 1) ys))) (sym (map_next of xs i x first is))
          (subst (AllZip R (map of (take i xs) ++ of x ∷ [])) (sym (map_next of ys i y second other))
          (all_zip_push R (map of (take i xs)) (map of (take i ys)) (of x) (of y) so_far related))

      pub zip_stops : ¬ R (of x) (of y) → ¬ AllZip R (map of xs) (map of ys)
      zip_stops apart all =
          apart (zip_at (map of xs) (map of ys) i (of x) (of y)
          (slice_get-map of xs i ∙ ap (option_map of) (slice_get-get_or xs i x first ∙ ap Some (sym is)))
          (slice_get-map of ys i ∙ ap (option_map of) (slice_get-get_or ys i y second ∙ ap Some (sym other))) all)

-- a test of names, told of those that they are
pub told_same : (found : Bool) (a b x y : Name) → IsTrue found ↔ IsSameName a b → a ≡ x → b ≡ y → IsTrue found ↔ IsSameName x y
told_same found a b x y tested e f = subst (λ n. IsTrue found ↔ IsSameName x n) f (subst (λ n. IsTrue found ↔ IsSameName n b) e tested)

pub no_two_primary : (a b : KeyData) (found : Bool) → ¬ ((a.is_primary ≡ true) × (b.is_primary ≡ true))
    → IsTrue found ↔ AllZip IsSameName a.columns b.columns → IsTrue found ↔ Clash a b
no_two_primary a b found none tested = ((λ e. inr (tested.0 e)), either)
  where
    either : Clash a b → IsTrue found
    either (inl both) = absurd (none both)
    either (inr same) = tested.1 same

-- tests of keys
module _ (columns : List ColumnTree) (keys : List KeyData) (found : Bool)
    (tested : IsTrue found ↔ All (λ k. AreColumns columns k.columns) keys) where
  pub keys_apart : (apart : Bool) → IsTrue apart ↔ AreApart Clash keys → found ≡ true → IsTrue apart ↔ AreKeys columns keys
  keys_apart apart different all = (
    (λ e. record { columns_are = tested.0 all; apart = different.0 e }),
    (λ a. different.1 a.apart),
  )

  pub keys_astray : found ≡ false → IsTrue found ↔ AreKeys columns keys
  keys_astray none = ((λ e. absurd cc), (λ a. tested.1 a.columns_are))

-- the search for the column that is the rowid
module _ (options : List TableOption) (keys : List KeyData) (columns : List Column) where
  pub rowid_here : (i : ℕ) (x : Column) → i < length columns → x ≡ get_or columns i x → IsRowid options keys (column_of x)
      → IsRowidPlace options keys (map column_of columns) (Some i)
  rowid_here i x within is rowid = (
    column_of x,
    slice_get-map column_of columns i ∙ ap (option_map column_of) (slice_get-get_or columns i x within ∙ ap Some (sym is)),
    rowid,
  )

  pub no_rowid : (count : ℕ) → length columns ≤ count → AllWithin (λ (c : Column). ¬ IsRowid options keys (column_of c)) columns 0 count
      → IsRowidPlace options keys (map column_of columns) None
  no_rowid count all none =
      All-map (λ c. ¬ IsRowid options keys c) column_of columns
      (All-from_all_within (λ (c : Column). ¬ IsRowid options keys (column_of c)) columns
      (λ k d from below. none k d from (omega (arith, below, all))))

-- the search for the place of a column
module _ (columns : List Column) (name : Name) where
  pub place_here : (i : ℕ) (x : Column) (given : Name) (found : Bool) → i < length columns → x ≡ get_or columns i x
      → given ≡ string_bytes x.name → IsTrue found ↔ IsSameName given name → found ≡ true
      → IsNameAt (column_names (map column_of columns)) name i
  place_here i x given found within is e tested some = record {
    other = string_bytes x.name;
    stands = slice_get-map (λ (c : ColumnTree). c.name) (map column_of columns) i
        ∙ ap (option_map (λ (c : ColumnTree). c.name))
        (slice_get-map column_of columns i ∙ ap (option_map column_of) (slice_get-get_or columns i x within ∙ ap Some (sym is)));
    named = subst (λ n. IsSameName n name) e (tested.0 some);
  }

  pub no_place : (count : ℕ) → length columns ≤ count → AllWithin (λ (c : Column). ¬ IsSameName (string_bytes c.name) name) columns 0 count
      → ¬ IsNamedIn (map column_of columns) name
  no_place count all none named =
      let at = any_from_map (λ c. IsSameName c.name name) column_of columns named in
      let within = at.2 in
      none at.0 at.1 (omega arith) (omega (arith, within, all))
      (subst (λ (c : Column). IsSameName (string_bytes c.name) name) (sym at.3) at.4)

-- a column that is there has a place
pub some_place : (columns : List ColumnTree) (name : Name) (place : Option ℕ) → IfNone place (¬ IsNamedIn columns name)
    → IsNamedIn columns name → IsSome place
some_place columns name (Some k) none named = cc
some_place columns name None none named = absurd (none named)

-- the places of a key's columns, one after the other
module _ (columns : List ColumnTree) (names : List (String Global)) where
  abbrev pub PlacesSoFar : ℕ → List ℕ → Type 0
  PlacesSoFar count places = AllZip (IsNameAt (column_names columns)) (map (λ n. string_bytes n) (take count names)) places

  pub all_places : (count : ℕ) (places : List ℕ) → length names ≤ count → PlacesSoFar count places
      → AllZip (IsNameAt (column_names columns)) (map (λ n. string_bytes n) names) places
  all_places count places end far =
      subst (λ ns. AllZip (IsNameAt (column_names columns)) (map (λ n. string_bytes n) ns) places) (take_all count names end) far

  module _ (i : ℕ) (x : String Global) (within : i < length names) (is : x ≡ get_or names i x) where
    pub named_at : All (IsNamedIn columns) (map (λ n. string_bytes n) names) → IsNamedIn columns (string_bytes x)
    named_at all =
        subst (λ n. IsNamedIn columns (string_bytes n)) (sym is) (all_from_map (IsNamedIn columns) (λ n. string_bytes n) names all i x within)

    pub place_more : (places more : List ℕ) (next : ℕ) → IsNameAt (column_names columns) (string_bytes x) next
        → more ≡ places ++ next ∷ [] → PlacesSoFar i places → PlacesSoFar (i + 1) more
    place_more places more next here e far =
        subst (PlacesSoFar (i + 1)) (sym e)
        (subst (λ ns. AllZip (IsNameAt (column_names columns)) ns (places ++ next ∷ [])) (sym (map_next (λ n. string_bytes n) names i x within is))
        (all_zip_push (IsNameAt (column_names columns)) (map (λ n. string_bytes n) (take i names)) places (string_bytes x) next far here))

-- the columns of the only key are columns of the table
pub only_named : (columns : List ColumnTree) (keys : List KeyData) (key : KeyData) → AreKeys columns keys → IsOnlyPrimary keys key
    → All (IsNamedIn columns) key.columns
only_named columns keys key are primary =
    (subst (λ ks. All (λ (k : KeyData). AreColumns columns k.columns) ks) primary.0 are.columns_are 0 key (omega arith)).named

-- a table has neither rowids nor such a key
pub no_key : (options : List TableOption) (keys : List KeyData) (columns : List ColumnTree) → IsRowless options
    → ((key : KeyData) → ¬ IsOnlyPrimary keys key) → (key : RowKeyData) → ¬ IsRowKey options keys columns key
no_key options keys columns rowless none (RowKeyData.Rowid place) is = is.0 rowless
no_key options keys columns rowless none (RowKeyData.Primary places) is = none is.1.key is.1.primary
