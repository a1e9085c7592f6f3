-- Rows say one catalog at most, and such rows are refused for no reason.
use Rattle.std.proofs.Common.{◌≡◌, ℕ, pos, ◌<◌, ◌≤◌, ◌⊎◌, inl, inr, Contains, List, [], ◌∷◌, map, None, Some, string_bytes, refl, sym, ap, ◌∙◌, subst, arith}
use Rattle.std.specs.Char.{to_ascii_lowercase}
use Rattle.std.specs.List.{AllZip}
use Rattle.values.specs.Row.{Row}
use Rattle.values.specs.declared.fault.Fault.{Fault}
use Rattle.values.specs.declared.fault.Fault.TheVariants as f
use Rattle.sql_reader_creates.proofs.CreateTexts.{one_create}
use Rattle.sql_reader_creates.proofs.IndexTexts as texts
use Rattle.sql_reader_creates.specs.CreateGrammar.{SpellsCreate}
use Rattle.sql_reader_creates.specs.IndexTexts.{IsTooMuch as IsIndexTooMuch, SpellsIndex, SpellsNoIndex}
use Rattle.sql_reader_grammar.specs.phrases.Texts.{AreWithinLimits, max_columns}
use Rattle.sql_reader_grammar.specs.create_trees.CreateTrees.{ColumnTree, IndexTree, TableTree, columns_of_index, columns_of_table}
use Rattle.sql_reader_grammar.specs.declared.create_trees.create.TableOption.{TableOption}
use Rattle.schema_keys.specs.declared_keys.Keys.{KeyData, keys_of}
use Rattle.schema.proofs.lemmas.indexes.IndexLemmas.{one_index}
use Rattle.schema.proofs.lemmas.indexes.KeyIndexLemmas.{one_key_index}
use Rattle.schema.specs.indexes.IndexData.{IndexData}
use Rattle.schema.specs.indexes.Indexed.{IsIndex}
use Rattle.schema.specs.indexes.KeyIndexes.{IsKeyIndex, automatic_name, rooted}
use Rattle.schema_keys.proofs.OneLemmas.{one_table}
use Rattle.schema_keys.specs.Created.{IsColumn, IsTable}
use Rattle.schema_keys.specs.Names.{AreDistinct, IsSameName}
use Rattle.schema_keys.specs.Rows.{SaysTable}
use Rattle.schema_tables.specs.TableData.{ColumnData, TableData}
use Rattle.sql_reader_syntax.specs.Tree.{Name}
use Rattle.schema_keys.specs.table_keys.Automatic.{AutomaticData}
use Rattle.schema.specs.CatalogData.{CatalogData}
use Rattle.schema.specs.Objects.{ObjectData, object_row}
use Rattle.schema.specs.Picks.{Picks}
use Rattle.schema.specs.Refused.{HasObject, HasText, IsBadObject, IsBadSchema, IsBrokenSchema, IsLeftOut, IsTableTooMuch, IsUnread}
use Rattle.schema.specs.Says.{AreTablesOf, Doubled, HasTree, IsCatalog, IsNoIndex, IsNoTable, SaysAnyIndex, SaysIndex, SaysKeyIndex}
use Rattle.schema.specs.Wanted.{IsKeyRow, WantsIndex}
use Rattle.schema.specs.declared.objects.Kind.{Kind}
use Rattle.schema.specs.declared.objects.Kind.TheVariants as k
use Rattle.schema.proofs.KeyedLemmas.{one_automatic}
use Rattle.schema.proofs.KindLemmas.{index_apart, kind_of, object_of, one_object, table_apart, table_kind, trigger_kind}
use Rattle.schema.proofs.NameLemmas.{same_number}
use Rattle.schema.proofs.PickLemmas.{picks_from, picks_has}
use Rattle.schema.proofs.TableLemmas.{row_name, same_row, same_table}

same_index : (sql : List ℕ) (a b : IndexTree) → SpellsIndex sql a → SpellsIndex sql b → a ≡ b
same_index sql a b x y = texts.one_index sql x.levels y.levels a b x.spelt y.spelt

-- a text that is beyond a limit spells no more than may be
index_unread : (sql : List ℕ) (tree : IndexTree) → SpellsNoIndex sql → ¬ SpellsIndex sql tree
index_unread sql tree none spelt = none spelt.levels tree spelt.spelt

index_within : (sql : List ℕ) (tree : IndexTree) → SpellsIndex sql tree → AreWithinLimits columns_of_index sql tree
    → ¬ IsIndexTooMuch sql
index_within sql tree spelt within much =
    let memory : f.Limit ≡ f.NoMemory = texts.only_memory sql tree f.Limit spelt within much in cc

table_within : (sql : List ℕ) (tree : TableTree) → SpellsCreate sql tree → AreWithinLimits columns_of_table sql tree
    → ¬ IsTableTooMuch sql
table_within sql tree spelt within (inl long) = let short = within.0 in omega (arith, long, short)
table_within sql tree spelt within (inr (other, there, wide)) =
    let few = within.1 in
    let same = one_create sql other tree there spelt in
    let w = subst (λ t. max_columns < columns_of_table t) same wide in omega (arith, few, w)

-- ---- Rows say one list of things at most

module _ {X : Type 0} (Says : Row → X → Type 0) (IsOther : Row → Type 0)
    (one : (row : Row) (a b : X) → Says row a → Says row b → a ≡ b) (apart : (row : Row) (a : X) → Says row a → ¬ IsOther row) where
  picks_one : (rows : List Row) (xs ys : List X) → Picks Says IsOther rows xs → Picks Says IsOther rows ys → xs ≡ ys
  picks_one [] _ _ Picks.end Picks.end = refl
  picks_one (row ∷ rows) _ _ (Picks.here {x = a} {xs = xs} p rest) (Picks.here {x = b} {xs = ys} q others) =
      ap (λ x. x ∷ xs) (one row a b p q) ∙ ap (λ xs. b ∷ xs) (picks_one rows xs ys rest others)
  picks_one (row ∷ rows) _ _ (Picks.here {x = a} p rest) (Picks.other q others) = absurd (apart row a p q)
  picks_one (row ∷ rows) _ _ (Picks.other p rest) (Picks.here {x = b} q others) = absurd (apart row b q p)
  picks_one (row ∷ rows) _ _ (Picks.other {xs = xs} p rest) (Picks.other {xs = ys} q others) = picks_one rows xs ys rest others

-- ---- Columns and indexes

names_of : (options : List TableOption) (keys : List KeyData) (trees : List ColumnTree) (columns : List ColumnData)
    → AllZip (IsColumn options keys) trees columns → map (λ c. c.name) trees ≡ map (λ (c : ColumnData). c.name) columns
names_of options keys [] [] are = refl
names_of options keys [] (c ∷ columns) are = absurd are
names_of options keys (t ∷ trees) [] are = absurd are
names_of options keys (t ∷ trees) (c ∷ columns) are =
    ap (λ n. n ∷ map (λ t. t.name) trees) (sym are.0.name_is)
    ∙ ap (λ ns. c.name ∷ ns) (names_of options keys trees columns are.1)

distinct_columns : {pages : ℕ} {row : Row} (t : TableData) → SaysTable pages row t → AreDistinct (map (λ c. c.name) t.columns)
distinct_columns t says =
    subst AreDistinct (names_of says.tree.options (keys_of says.tree) says.tree.columns t.columns says.created.columns_are) says.created.distinct

module _ (pages : ℕ) (rows : List Row) (apart : ¬ Doubled rows) where
  -- a row says one index for a key
  one_key_said : (row : Row) (a b : IndexData) → SaysKeyIndex pages rows row a → SaysKeyIndex pages rows row b → a ≡ b
  one_key_said row a b x y =
      let object : x.key_row.object ≡ y.key_row.object =
      one_object x.key_row.object y.key_row.object (sym x.key_row.row_is ∙ y.key_row.row_is) in
      let roots : Some (pos a.root) ≡ Some (pos b.root) = sym x.root_is ∙ (ap (λ (o : ObjectData). o.root) object ∙ y.root_is) in
      let root : a.root ≡ b.root = cc in
      let owners : IsSameName x.table.name y.table.name =
      sym x.key_row.owner_is ∙ (ap (λ (o : ObjectData). map to_ascii_lowercase o.owner) object ∙ y.key_row.owner_is) in
      let table : x.table ≡ y.table =
      same_table pages rows apart x.table_row y.table_row x.table y.table x.stands y.stands x.wants.says y.wants.says owners in
      let one : y.table_row ≡ x.table_row =
      same_row pages rows apart x.table_row y.table_row x.table y.table x.stands y.stands x.wants.says y.wants.says owners in
      let names : IsSameName (automatic_name x.table.name x.automatic.number) (automatic_name y.table.name y.automatic.number) =
      sym x.key_row.name_is ∙ (ap (λ (o : ObjectData). map to_ascii_lowercase o.name) object ∙ y.key_row.name_is) in
      let number : x.automatic.number ≡ y.automatic.number =
      same_number x.table.name x.automatic.number y.automatic.number x.made.fits y.made.fits
      (subst (λ (t : TableData). IsSameName (automatic_name x.table.name x.automatic.number) (automatic_name t.name y.automatic.number)) (sym table) names) in
      let automatic : x.automatic ≡ y.automatic =
      one_automatic pages x.table_row x.table y.table x.automatic y.automatic x.wants
      (subst (λ r. WantsIndex pages r y.table y.automatic) one y.wants) number in
      let made : IsKeyIndex x.table x.automatic y.key_index =
      subst (λ t. IsKeyIndex t x.automatic y.key_index) (sym table) (subst (λ m. IsKeyIndex y.table m y.key_index) (sym automatic) y.made) in
      let key_index : x.key_index ≡ y.key_index =
      one_key_index x.table x.automatic x.key_index y.key_index (distinct_columns x.table x.wants.says) x.made made in
      x.index_is
      ∙ (ap (λ i. rooted i x.table.name a.root) key_index
      ∙ (ap (λ (t : TableData). rooted y.key_index t.name a.root) table
      ∙ (ap (rooted y.key_index y.table.name) root
      ∙ sym y.index_is)))

  module _ (tables : List TableData) (are : AreTablesOf pages rows tables) where
    -- the row of a table
    table_row_of : (t : TableData) → Contains tables t → (row : Row) × Contains rows row × SaysTable pages row t
    table_row_of = picks_from (SaysTable pages) IsNoTable are

    same_owner : (a b : TableData) → Contains tables a → Contains tables b → IsSameName a.name b.name → a ≡ b
    same_owner a b p q same =
        let x = table_row_of a p in let y = table_row_of b q in
        same_table pages rows apart x.0 y.0 a b x.1 y.1 x.2 y.2 same

    -- an index has a text, or none
    text_apart : {row : Row} {a b : IndexData} → SaysIndex pages tables row a → SaysKeyIndex pages rows row b → ⊥
    text_apart x y =
        let object = one_object x.object y.key_row.object (sym x.row_is ∙ y.key_row.row_is) in
        let some : Some x.sql ≡ None = sym x.sql_is ∙ (ap (λ (o : ObjectData). o.sql) object ∙ y.key_row.sql_is) in cc

    one_text_said : (row : Row) (a b : IndexData) → SaysIndex pages tables row a → SaysIndex pages tables row b → a ≡ b
    one_text_said row a b x y =
        let object : x.object ≡ y.object = one_object x.object y.object (sym x.row_is ∙ y.row_is) in
        let roots : Some (pos a.root) ≡ Some (pos b.root) =
        sym x.root_is ∙ (ap (λ (o : ObjectData). o.root) object ∙ y.root_is) in
        let texts_are : Some x.sql ≡ Some y.sql = sym x.sql_is ∙ (ap (λ (o : ObjectData). o.sql) object ∙ y.sql_is) in
        let sql : y.sql ≡ x.sql = cc in
        let tree : y.tree ≡ x.tree = same_index x.sql y.tree x.tree (subst (λ s. SpellsIndex s y.tree) sql y.spelt) x.spelt in
        let named : IsSameName y.table.name x.table.name =
        sym y.created.owner_is ∙ (ap (λ (t : IndexTree). map to_ascii_lowercase t.table) tree ∙ x.created.owner_is) in
        let table : y.table ≡ x.table = same_owner y.table x.table y.of_table x.of_table named in
        one_index x.tree x.table a b (distinct_columns x.table (table_row_of x.table x.of_table).2) x.created
        (subst (λ t. IsIndex x.tree t b) table (subst (λ t. IsIndex t y.table b) tree y.created)) cc

    one_said : (row : Row) (a b : IndexData) → SaysAnyIndex pages rows tables row a → SaysAnyIndex pages rows tables row b → a ≡ b
    one_said row a b (inl x) (inl y) = one_text_said row a b x y
    one_said row a b (inr x) (inr y) = one_key_said row a b x y
    one_said row a b (inl x) (inr y) = absurd (text_apart x y)
    one_said row a b (inr x) (inl y) = absurd (text_apart y x)

pub one_catalog : (pages : ℕ) (rows : List Row) (a b : CatalogData) → IsCatalog pages rows a → IsCatalog pages rows b → a ≡ b
one_catalog pages rows a b p q =
    let tables : a.tables ≡ b.tables =
    picks_one (SaysTable pages) IsNoTable (one_table pages) (table_apart pages) rows a.tables b.tables p.tables_are q.tables_are in
    let others = subst (λ ts. Picks (SaysAnyIndex pages rows ts) IsNoIndex rows b.indexes) (sym tables) q.indexes_are in
    let indexes : a.indexes ≡ b.indexes =
    picks_one (SaysAnyIndex pages rows a.tables) IsNoIndex (one_said pages rows p.distinct a.tables p.tables_are)
    (index_apart pages rows a.tables) rows a.indexes b.indexes p.indexes_are others in
    λ i. record { tables = tables i; indexes = indexes i }

-- ---- A catalog excludes each reason to refuse its rows

module _ (pages : ℕ) (rows : List Row) (catalog : CatalogData) (is : IsCatalog pages rows catalog) where
  -- what the rows of objects of each kind say

  table_at : (o : ObjectData) → Contains rows (object_row o) → o.kind ≡ k.Table
      → (t : TableData) × Contains catalog.tables t × SaysTable pages (object_row o) t
  table_at o has kind = go (picks_has (SaysTable pages) IsNoTable is.tables_are (object_row o) has)
    where
      go : ((t : TableData) × Contains catalog.tables t × SaysTable pages (object_row o) t) ⊎ IsNoTable (object_row o)
          → (t : TableData) × Contains catalog.tables t × SaysTable pages (object_row o) t
      go (inl found) = found
      go (inr (inl index)) = let other = kind_of o k.Index index in absurd cc
      go (inr (inr trigger)) = let other = trigger_kind o trigger in absurd cc

  any_index_at : (o : ObjectData) → Contains rows (object_row o) → o.kind ≡ k.Index
      → (x : IndexData) × Contains catalog.indexes x × SaysAnyIndex pages rows catalog.tables (object_row o) x
  any_index_at o has kind = go (picks_has (SaysAnyIndex pages rows catalog.tables) IsNoIndex is.indexes_are (object_row o) has)
    where
      go : ((x : IndexData) × Contains catalog.indexes x × SaysAnyIndex pages rows catalog.tables (object_row o) x) ⊎ IsNoIndex (object_row o)
          → (x : IndexData) × Contains catalog.indexes x × SaysAnyIndex pages rows catalog.tables (object_row o) x
      go (inl found) = found
      go (inr (inl table)) = let other = kind_of o k.Table table in absurd cc
      go (inr (inr trigger)) = let other = kind_of o k.Trigger trigger in absurd cc

  -- an index with a text
  index_at : (o : ObjectData) (sql : List ℕ) → Contains rows (object_row o) → HasText k.Index sql o
      → (x : IndexData) × Contains catalog.indexes x × SaysIndex pages catalog.tables (object_row o) x
  index_at o sql has t = go (any_index_at o has t.kind_is)
    where
      go : ((x : IndexData) × Contains catalog.indexes x × SaysAnyIndex pages rows catalog.tables (object_row o) x)
          → (x : IndexData) × Contains catalog.indexes x × SaysIndex pages catalog.tables (object_row o) x
      go (x, at, inl says) = (x, at, says)
      go (x, at, inr says) =
          let object = one_object o says.key_row.object says.key_row.row_is in
          let none : Some sql ≡ None = sym t.sql_is ∙ (ap (λ (o : ObjectData). o.sql) object ∙ says.key_row.sql_is) in absurd cc

  no_view : (o : ObjectData) → Contains rows (object_row o) → ¬ (o.kind ≡ k.View)
  no_view o has kind = go (picks_has (SaysTable pages) IsNoTable is.tables_are (object_row o) has)
    where
      go : ((t : TableData) × Contains catalog.tables t × SaysTable pages (object_row o) t) ⊎ IsNoTable (object_row o) → ⊥
      go (inl (t, at, says)) = let other = table_kind pages o t says in cc
      go (inr (inl index)) = let other = kind_of o k.Index index in cc
      go (inr (inr trigger)) = let other = trigger_kind o trigger in cc

  no_textless_trigger : (o : ObjectData) → Contains rows (object_row o) → o.kind ≡ k.Trigger → ¬ (o.sql ≡ None)
  no_textless_trigger o has kind none = go (picks_has (SaysTable pages) IsNoTable is.tables_are (object_row o) has)
    where
      go : ((t : TableData) × Contains catalog.tables t × SaysTable pages (object_row o) t) ⊎ IsNoTable (object_row o) → ⊥
      go (inl (t, at, says)) = let other = table_kind pages o t says in cc
      go (inr (inl index)) = let other = kind_of o k.Index index in cc
      go (inr (inr trigger)) =
          trigger.has_text (sym (ap (λ (o : ObjectData). o.sql) (one_object o trigger.object trigger.row_is)) ∙ none)

  -- the object of a row that says a table is this one
  module _ (o : ObjectData) (t : TableData) (says : SaysTable pages (object_row o) t) where
    same_object : o ≡ object_of says
    same_object = one_object o (object_of says) says.row_is

    root_of : o.root ≡ Some (pos t.root)
    root_of = ap (λ (o : ObjectData). o.root) same_object

    text_of : o.sql ≡ Some says.sql
    text_of = ap (λ (o : ObjectData). o.sql) same_object

    tree_of : (sql : List ℕ) (tree : TableTree) → o.sql ≡ Some sql → SpellsCreate sql tree → tree ≡ says.tree
    tree_of sql tree e spelt =
        let both : Some says.sql ≡ Some sql = sym text_of ∙ e in
        let one : says.sql ≡ sql = cc in
        one_create sql tree says.tree spelt (subst (λ s. SpellsCreate s says.tree) one says.spelt)

    named_so : (tree : TableTree) → tree ≡ says.tree → IsSameName o.name tree.name × IsSameName o.owner tree.name
    named_so tree e =
        let name : o.name ≡ says.name = ap (λ (o : ObjectData). o.name) same_object in
        let owner : o.owner ≡ says.owner = ap (λ (o : ObjectData). o.owner) same_object in
        let there : map to_ascii_lowercase says.tree.name ≡ map to_ascii_lowercase tree.name =
        ap (λ (t : TableTree). map to_ascii_lowercase t.name) (sym e) in (
          ap (map to_ascii_lowercase) name ∙ (says.name_is ∙ there),
          ap (map to_ascii_lowercase) owner ∙ (says.owner_is ∙ there),
        )

  -- and so is that of one that says an index
  module _ (o : ObjectData) (x : IndexData) (says : SaysIndex pages catalog.tables (object_row o) x) where
    same_index_object : o ≡ says.object
    same_index_object = one_object o says.object says.row_is

    index_root_of : o.root ≡ Some (pos x.root)
    index_root_of = ap (λ (o : ObjectData). o.root) same_index_object ∙ says.root_is

    index_text_of : o.sql ≡ Some says.sql
    index_text_of = ap (λ (o : ObjectData). o.sql) same_index_object ∙ says.sql_is

    index_tree_of : (sql : List ℕ) (tree : IndexTree) → o.sql ≡ Some sql → SpellsIndex sql tree → tree ≡ says.tree
    index_tree_of sql tree e spelt =
        let both : Some says.sql ≡ Some sql = sym index_text_of ∙ e in
        let one : says.sql ≡ sql = cc in
        same_index sql tree says.tree spelt (subst (λ s. SpellsIndex s says.tree) one says.spelt)

    index_named_so : (tree : IndexTree) → tree ≡ says.tree → IsSameName o.name tree.name × IsSameName o.owner tree.table
    index_named_so tree e =
        let name : o.name ≡ says.object.name = ap (λ (o : ObjectData). o.name) same_index_object in
        let owner : o.owner ≡ says.object.owner = ap (λ (o : ObjectData). o.owner) same_index_object in (
          ap (map to_ascii_lowercase) name
              ∙ (says.name_is ∙ ap (λ (t : IndexTree). map to_ascii_lowercase t.name) (sym e)),
          ap (map to_ascii_lowercase) owner
              ∙ (says.owner_is ∙ ap (λ (t : IndexTree). map to_ascii_lowercase t.table) (sym e)),
        )

  -- SchemaRow

  has_root : (o : ObjectData) → Contains rows (object_row o) → HasTree o.kind
      → (page : ℕ) × (2 ≤ page) × (page ≤ pages) × (o.root ≡ Some (pos page))
  has_root o has tree = go o.kind refl tree
    where
      index_root : ((x : IndexData) × Contains catalog.indexes x × SaysAnyIndex pages rows catalog.tables (object_row o) x)
          → (page : ℕ) × (2 ≤ page) × (page ≤ pages) × (o.root ≡ Some (pos page))
      index_root (x, at, inl says) = (x.root, says.least, says.most, index_root_of o x says)
      index_root (x, at, inr says) = (
        x.root,
        says.least,
        says.most,
        ap (λ (o : ObjectData). o.root) (one_object o says.key_row.object says.key_row.row_is) ∙ says.root_is,
      )

      go : (kind : Kind) → o.kind ≡ kind → HasTree kind → (page : ℕ) × (2 ≤ page) × (page ≤ pages) × (o.root ≡ Some (pos page))
      go k.Table e h =
          let found = table_at o has e in (found.0.root, found.2.least, found.2.most, root_of o found.0 found.2)
      go k.Index e h = index_root (any_index_at o has e)
      go _ e h = absurd h

  has_sql : (o : ObjectData) → Contains rows (object_row o) → ¬ (o.kind ≡ k.Index) → ¬ (o.sql ≡ None)
  has_sql o has other none = go o.kind refl
    where
      go : (kind : Kind) → o.kind ≡ kind → ⊥
      go k.Table e = let found = table_at o has e in let there = text_of o found.0 found.2 in cc
      go k.Index e = other e
      go k.View e = no_view o has e
      go k.Trigger e = no_textless_trigger o has e none

  no_bad_object : (o : ObjectData) → Contains rows (object_row o) → ¬ IsBadObject pages o
  no_bad_object o has (IsBadObject.rootless tree none) =
      let root = has_root o has tree in none root.0 root.1 root.2 root.3
  no_bad_object o has (IsBadObject.textless none other) = has_sql o has other none
  no_bad_object o has (IsBadObject.table_names sql tree t spelt other) =
      let found = table_at o has t.kind_is in
      other (named_so o found.0 found.2 tree (tree_of o found.0 found.2 sql tree t.sql_is spelt))
  no_bad_object o has (IsBadObject.index_names sql tree t spelt other) =
      let found = index_at o sql has t in
      other (index_named_so o found.0 found.2 tree (index_tree_of o found.0 found.2 sql tree t.sql_is spelt))

  -- an index's row names a table's
  has_owner : (o : ObjectData) → Contains rows (object_row o) → o.kind ≡ k.Index
      → (t : ObjectData) × Contains rows (object_row t) × (t.kind ≡ k.Table) × IsSameName o.owner t.name
  has_owner o has kind = go (any_index_at o has kind)
    where
      go : ((x : IndexData) × Contains catalog.indexes x × SaysAnyIndex pages rows catalog.tables (object_row o) x)
          → (t : ObjectData) × Contains rows (object_row t) × (t.kind ≡ k.Table) × IsSameName o.owner t.name
      go (x, at, inl says) =
          let from = picks_from (SaysTable pages) IsNoTable is.tables_are says.table says.of_table in
          let table = from.2 in
          let owner : o.owner ≡ says.object.owner = ap (λ (o : ObjectData). o.owner) (same_index_object o x says) in (
            object_of table,
            subst (Contains rows) table.row_is from.1,
            refl,
            ap (map to_ascii_lowercase) owner ∙ (says.owner_is ∙ (says.created.owner_is ∙ sym (row_name table))),
          )
      go (x, at, inr says) =
          let table = says.wants.says in
          let object = one_object o says.key_row.object says.key_row.row_is in (
            object_of table,
            subst (Contains rows) table.row_is says.stands,
            refl,
            ap (λ (o : ObjectData). map to_ascii_lowercase o.owner) object ∙ (says.key_row.owner_is ∙ sym (row_name table)),
          )

  -- an index without a text is one that a key wants
  no_unwanted : (o : ObjectData) → Contains rows (object_row o) → o.kind ≡ k.Index → o.sql ≡ None
      → ((row : Row) (table : TableData) (automatic : AutomaticData) → Contains rows row → WantsIndex pages row table automatic
      → ¬ IsKeyRow table.name (automatic_name table.name automatic.number) (object_row o)) → ⊥
  no_unwanted o has kind none unwanted = go (any_index_at o has kind)
    where
      go : ((x : IndexData) × Contains catalog.indexes x × SaysAnyIndex pages rows catalog.tables (object_row o) x) → ⊥
      go (x, at, inl says) = let there = index_text_of o x says in let clash : Some says.sql ≡ None = sym there ∙ none in cc
      go (x, at, inr says) = unwanted says.table_row says.table says.automatic says.stands says.wants says.key_row

  pub no_bad_schema : ¬ IsBadSchema pages rows
  no_bad_schema (IsBadSchema.row row has none) = go (picks_has (SaysTable pages) IsNoTable is.tables_are row has)
    where
      go : ((t : TableData) × Contains catalog.tables t × SaysTable pages row t) ⊎ IsNoTable row → ⊥
      go (inl (t, at, says)) = none (object_of says) says.row_is
      go (inr (inl index)) = none index.object index.row_is
      go (inr (inr trigger)) = none trigger.object trigger.row_is
  no_bad_schema (IsBadSchema.object o has bad) = no_bad_object o has bad
  no_bad_schema (IsBadSchema.ownerless o has kind none) =
      let found = has_owner o has kind in none found.0 found.1 found.2 found.3
  no_bad_schema (IsBadSchema.unwanted o tables has kind none are unwanted) = no_unwanted o has kind none unwanted
  no_bad_schema (IsBadSchema.lacking row table automatic has wants none) = none (is.kept row table automatic has wants)
  no_bad_schema (IsBadSchema.doubled doubled) = is.distinct doubled

  -- SchemaText

  no_unread : (o : ObjectData) → Contains rows (object_row o) → ¬ IsUnread o
  no_unread o has (IsUnread.table sql t none) =
      let found = table_at o has t.kind_is in
      let both : Some found.2.sql ≡ Some sql = sym (text_of o found.0 found.2) ∙ t.sql_is in
      let one : found.2.sql ≡ sql = cc in
      none found.2.tree (subst (λ s. SpellsCreate s found.2.tree) one found.2.spelt)
  no_unread o has (IsUnread.index sql t none) =
      let found = index_at o sql has t in
      let both : Some found.2.sql ≡ Some sql = sym (index_text_of o found.0 found.2) ∙ t.sql_is in
      let one : found.2.sql ≡ sql = cc in
      index_unread sql found.2.tree none (subst (λ s. SpellsIndex s found.2.tree) one found.2.spelt)

  pub no_unread_object : (name : Name) → ¬ HasObject IsUnread rows name
  no_unread_object name found = no_unread found.object found.stands found.is

  -- UnsupportedObject

  no_left_out : (o : ObjectData) → Contains rows (object_row o) → ¬ IsLeftOut pages rows o
  no_left_out o has (IsLeftOut.view kind) = no_view o has kind
  no_left_out o has (IsLeftOut.table_limit sql t much) =
      let found = table_at o has t.kind_is in
      let both : Some found.2.sql ≡ Some sql = sym (text_of o found.0 found.2) ∙ t.sql_is in
      let one : found.2.sql ≡ sql = cc in
      table_within sql found.2.tree (subst (λ s. SpellsCreate s found.2.tree) one found.2.spelt)
      (subst (λ s. AreWithinLimits columns_of_table s found.2.tree) one found.2.within) much
  no_left_out o has (IsLeftOut.index_limit sql t much) =
      let found = index_at o sql has t in
      let both : Some found.2.sql ≡ Some sql = sym (index_text_of o found.0 found.2) ∙ t.sql_is in
      let one : found.2.sql ≡ sql = cc in
      index_within sql found.2.tree (subst (λ s. SpellsIndex s found.2.tree) one found.2.spelt)
      (subst (λ s. AreWithinLimits columns_of_index s found.2.tree) one found.2.within) much
  no_left_out o has (IsLeftOut.table sql tree t spelt none) =
      let found = table_at o has t.kind_is in
      let same = tree_of o found.0 found.2 sql tree t.sql_is spelt in
      none found.0 (subst (λ t. IsTable t found.0) (sym same) found.2.created)
  no_left_out o has (IsLeftOut.index sql tree row table t spelt at says named none) =
      let found = index_at o sql has t in
      let index = found.2 in
      let same = index_tree_of o found.0 index sql tree t.sql_is spelt in
      let from = picks_from (SaysTable pages) IsNoTable is.tables_are index.table index.of_table in
      let owner : IsSameName index.table.name table.name =
      sym index.created.owner_is ∙ (ap (λ (t : IndexTree). map to_ascii_lowercase t.table) (sym same) ∙ named) in
      let one = same_table pages rows is.distinct from.0 row index.table table from.1 at from.2 says owner in
      none found.0
      (subst (λ tree. IsIndex tree table found.0) (sym same) (subst (λ t. IsIndex index.tree t found.0) one index.created))

  pub no_left_out_object : (name : Name) → ¬ HasObject (IsLeftOut pages rows) rows name
  no_left_out_object name found = no_left_out found.object found.stands found.is

  pub no_broken_schema : (fault : Fault) → ¬ IsBrokenSchema pages rows fault
  no_broken_schema f.SchemaRow bad = no_bad_schema bad
  no_broken_schema (f.SchemaText name) unread = no_unread_object (string_bytes name) unread
  no_broken_schema (f.UnsupportedObject name) out = no_left_out_object (string_bytes name) out
  no_broken_schema fault none = none

  -- what one of the rows says is one of the tables
  pub said_of_them : (row : Row) → Contains rows row → (t : TableData) → SaysTable pages row t → Contains catalog.tables t
  said_of_them row has t says = go (picks_has (SaysTable pages) IsNoTable is.tables_are row has)
    where
      go : ((other : TableData) × Contains catalog.tables other × SaysTable pages row other) ⊎ IsNoTable row → Contains catalog.tables t
      go (inl (other, at, too)) = subst (Contains catalog.tables) (one_table pages row other t too says) at
      go (inr none) = absurd (table_apart pages row t says none)

  -- and each of them is said by a row
  pub row_of_table : (t : TableData) → Contains catalog.tables t → (row : Row) × Contains rows row × SaysTable pages row t
  row_of_table = picks_from (SaysTable pages) IsNoTable is.tables_are
