-- A row says one table.
use Rattle.std.proofs.Common.{◌≡◌, ℕ, pos, ◌<◌, ◌⊎◌, List, [], ◌∷◌, codes, map, slice_get, Option, None, Some, option_map, inl, inr, refl, sym, ap, ◌∙◌, subst}
use Rattle.std.proofs.lemmas.Bool.{cases_order}
use Rattle.std.proofs.lemmas.Option.{get_or_from_slice_get, slice_get-get_or, slice_get-map, slice_get_within}
use Rattle.std.specs.List.{AllZip, Any}
use Rattle.values.specs.Datum.{int, text}
use Rattle.values.specs.Row.{Row}
use Rattle.sql_reader_creates.proofs.CreateTexts.{one_create}
use Rattle.sql_reader_creates.specs.CreateGrammar.{SpellsCreate}
use Rattle.sql_reader_grammar.specs.create_trees.CreateTrees.{ColumnTree, TableTree}
use Rattle.sql_reader_grammar.specs.declared.create_trees.create.TableOption.{TableOption}
use Rattle.schema_keys.specs.declared_keys.Keys.{KeyData, keys_of}
use Rattle.schema_keys.specs.Created.{Clash, IsColumn, IsLonePrimaryKey, IsRowid, IsRowidPlace, IsRowKey, IsTable, column_names}
use Rattle.schema_keys.specs.Names.{AreApart, AreDistinct, IsNameAt, IsSameName}
use Rattle.schema_keys.specs.Rows.{SaysTable}
use Rattle.schema_tables.specs.TableData.{ColumnData, RowKeyData, TableData}
use Rattle.schema_keys.proofs.MissingLemmas.{one_missing}
use Rattle.schema_keys.proofs.NameLemmas.{one_place, same_test}
use Rattle.schema_keys.proofs.TypeLemmas.{one_type, same_words}
use Rattle.sql_reader_syntax.specs.Tree.{Name}
use Rattle.schema_tables.proofs.ZipLemmas.{zip_same}

one_column : (options : List TableOption) (keys : List KeyData) (tree : ColumnTree) (a b : ColumnData) → IsColumn options keys tree a
    → IsColumn options keys tree b → a ≡ b
one_column options keys tree a b p q =
    let name : a.name ≡ b.name = p.name_is ∙ sym q.name_is in
    let ty : a.ty ≡ b.ty = one_type tree.ty a.ty b.ty p.ty_is q.ty_is in
    let not_null : a.not_null ≡ b.not_null = same_test a.not_null b.not_null _ p.not_null_is q.not_null_is in
    let missing : a.missing ≡ b.missing = one_missing tree.constraints a.missing b.missing p.missing_is q.missing_is in
    λ i. record { name = name i; ty = ty i; not_null = not_null i; missing = missing i }

-- one column is the rowid
module _ (options : List TableOption) (columns : List ColumnTree) (keys : List KeyData) (distinct : AreDistinct (column_names columns))
    (apart : AreApart Clash keys) where
  -- the one PRIMARY KEY is alone of columns of one name
  same_key : (a b : Name) → Any (IsLonePrimaryKey a) keys → Any (IsLonePrimaryKey b) keys → IsSameName a b
  same_key a b (i, x, within, is, p) (j, y, inside, at, q) = go (cases_order i j)
    where
      first : slice_get keys i ≡ Some x
      first = slice_get-get_or keys i x within ∙ ap Some is

      second : slice_get keys j ≡ Some y
      second = slice_get-get_or keys j y inside ∙ ap Some at

      go : (i ≡ j) ⊎ ((i < j) ⊎ (j < i)) → IsSameName a b
      go (inl e) =
          let both : Some x ≡ Some y = sym first ∙ (ap (slice_get keys) e ∙ second) in
          let one : x ≡ y = cc in
          same_words y.columns a b (subst (λ (k : KeyData). AllZip IsSameName k.columns (a ∷ [])) one p.1) q.1
      go (inr (inl less)) = absurd (apart i j x y less first second (inl (p.0, q.0)))
      go (inr (inr less)) = absurd (apart j i y x less second first (inl (q.0, p.0)))

  named_at : (i : ℕ) (column : ColumnTree) → slice_get columns i ≡ Some column
      → slice_get (map (λ (c : ColumnTree). c.name) columns) i ≡ Some column.name
  named_at i column at =
      slice_get-map (λ (c : ColumnTree). c.name) columns i ∙ ap (option_map (λ (c : ColumnTree). c.name)) at

  no_place : (at : ℕ) → IsRowidPlace options keys columns None → IsRowidPlace options keys columns (Some at) → ⊥
  no_place at none (column, is, rowid) =
      none at column (slice_get_within columns at column is)
      (subst (IsRowid options keys) (sym (get_or_from_slice_get columns at column column is)) rowid)

  one_rowid : (a b : Option ℕ) → IsRowidPlace options keys columns a → IsRowidPlace options keys columns b → a ≡ b
  one_rowid None None p q = refl
  one_rowid None (Some j) p q = absurd (no_place j p q)
  one_rowid (Some i) None p q = absurd (no_place i q p)
  one_rowid (Some i) (Some j) p q = go (cases_order i j)
    where
      same : IsSameName p.0.name q.0.name
      same = same_key p.0.name q.0.name p.2.2 q.2.2

      go : (i ≡ j) ⊎ ((i < j) ⊎ (j < i)) → Some i ≡ Some j
      go (inl e) = ap Some e
      go (inr (inl less)) = absurd (distinct i j p.0.name q.0.name less (named_at i p.0 p.1) (named_at j q.0 q.1) same)
      go (inr (inr less)) = absurd (distinct j i q.0.name p.0.name less (named_at j q.0 q.1) (named_at i p.0 p.1) (sym same))

  -- and rows are found in one way
  one_row_key : (a b : RowKeyData) → IsRowKey options keys columns a → IsRowKey options keys columns b → a ≡ b
  one_row_key (RowKeyData.Rowid i) (RowKeyData.Rowid j) p q = ap RowKeyData.Rowid (one_rowid i j p.1 q.1)
  one_row_key (RowKeyData.Rowid i) (RowKeyData.Primary ys) p q = absurd (p.0 q.0)
  one_row_key (RowKeyData.Primary xs) (RowKeyData.Rowid j) p q = absurd (q.0 p.0)
  one_row_key (RowKeyData.Primary xs) (RowKeyData.Primary ys) p q =
      let both : p.1.key ∷ [] ≡ q.1.key ∷ [] = sym p.1.primary.0 ∙ q.1.primary.0 in
      let same : p.1.key ≡ q.1.key = cc in
      ap RowKeyData.Primary
      (zip_same (IsNameAt (column_names columns)) (one_place (column_names columns) distinct) q.1.key.columns xs ys
      (subst (λ (k : KeyData). AllZip (IsNameAt (column_names columns)) k.columns xs) same p.1.places_are) q.1.places_are)

one_created : (tree : TableTree) (a b : TableData) → IsTable tree a → IsTable tree b → a.root ≡ b.root → a ≡ b
one_created tree a b p q root =
    let name : a.name ≡ b.name = p.name_is ∙ sym q.name_is in
    let keys = keys_of tree in
    let columns : a.columns ≡ b.columns =
    zip_same (IsColumn tree.options keys) (one_column tree.options keys) tree.columns a.columns b.columns p.columns_are q.columns_are in
    let key : a.key ≡ b.key =
    one_row_key tree.options tree.columns keys p.distinct p.keys_are.apart a.key b.key p.key_is q.key_is in
    λ i. record { name = name i; root = root i; columns = columns i; key = key i }

pub one_table : (pages : ℕ) (row : Row) (a b : TableData) → SaysTable pages row a → SaysTable pages row b → a ≡ b
one_table pages row a b x y =
    let same : text (codes "table") ∷ text x.name ∷ text x.owner ∷ int (pos a.root) ∷ text x.sql ∷ []
    ≡ text (codes "table") ∷ text y.name ∷ text y.owner ∷ int (pos b.root) ∷ text y.sql ∷ [] = sym x.row_is ∙ y.row_is in
    let root : a.root ≡ b.root = cc in
    let sql : y.sql ≡ x.sql = cc in
    let tree : y.tree ≡ x.tree = one_create x.sql y.tree x.tree (subst (λ s. SpellsCreate s y.tree) sql y.spelt) x.spelt in
    one_created x.tree a b x.created (subst (λ t. IsTable t b) tree y.created) root
