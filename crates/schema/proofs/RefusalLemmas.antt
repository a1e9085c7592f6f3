-- Why an object was refused, and what its row says otherwise.
use Rattle.std.proofs.Common.{◌≡◌, ℕ, pos, ◌≤◌, ◌⊎◌, inl, inr, Bool, true, false, IsTrue, ◌↔◌, not, All, Bor, Contains, List, map, is_some, Option, None, Some, option_map, refl, sym, ap, ◌∙◌, subst}
use Rattle.std.specs.Char.{to_ascii_lowercase}
use Rattle.std.specs.List.{Any}
use Rattle.values.specs.Row.{Row}
use Rattle.values.specs.declared.fault.Fault.{Fault}
use Rattle.values.specs.declared.fault.Fault.TheVariants as f
use Rattle.sql_reader_creates.specs.CreateGrammar.{SpellsCreate}
use Rattle.sql_reader_creates.specs.IndexTexts.{SpellsIndex, SpellsNoIndex}
use Rattle.sql_reader_creates.specs.IndexTexts as index_texts
use Rattle.sql_reader_grammar.specs.phrases.Texts.{AreWithinLimits}
use Rattle.sql_reader_grammar.specs.create_trees.CreateTrees.{IndexTree, TableTree, columns_of_index, columns_of_table}
use Rattle.schema.specs.indexes.IndexData.{IndexData}
use Rattle.schema.specs.indexes.Indexed.{IsIndex}
use Rattle.schema.specs.indexes.KeyIndexes.{KeyIndexData, automatic_name, rooted}
use Rattle.schema.specs.indexes.Refused.{IsUnmadeObject}
use Rattle.schema_keys.specs.Created.{IsTable}
use Rattle.schema_keys.specs.Names.{IsSameName}
use Rattle.schema_keys.specs.Rows.{SaysTable}
use Rattle.schema_tables.specs.TableData.{TableData}
use Rattle.schema_keys.specs.table_keys.Automatic.{AutomaticData}
use Rattle.schema.specs.Keyed.{AreKeyedOf, IsMadeTable, IsNotWanted, IsRootedAs, KeyedData, SaysKeyed, tables_in}
use Rattle.schema.specs.Objects.{ObjectData, object_row}
use Rattle.schema.specs.Refused.{HasText, IsBadObject, IsBadSchema, IsLeftOut, IsRefusedSchema, IsTableTooMuch, IsUnread, SpellsNoTable}
use Rattle.schema.specs.Says.{AreTablesOf, Doubled, HasTree, IsNoTable, IsOfKind, SaysIndex, SaysKeyIndex}
use Rattle.schema.specs.TextRefused.{IsTextRefused}
use Rattle.schema.specs.Wanted.{IsKeyRow, WantsIndex}
use Rattle.schema.specs.declared.objects.Kind.{Kind}
use Rattle.schema.specs.declared.objects.Kind.TheVariants as k
use Rattle.schema.proofs.KeyedLemmas.{all_at, tables_said, wanted_at, wanted_by}
use Rattle.schema.proofs.KindLemmas.{one_object}
use Rattle.schema.proofs.ObjectLemmas.{one_kind, one_name, table_parts, table_row}
use Rattle.schema.proofs.PickLemmas.{picks_from, picks_has}
use Rattle.schema.proofs.TableLemmas.{same_row, same_table}

-- the text of an object
pub text_none : (sql : Option (Bor (List ℕ))) → sql ≡ None → option_map (λ (t : Bor (List ℕ)). t.now) sql ≡ None
text_none sql e = ap (option_map (λ (t : Bor (List ℕ)). t.now)) e

pub text_some : (sql : Option (Bor (List ℕ))) (t : Bor (List ℕ)) → sql ≡ Some t
    → option_map (λ (t : Bor (List ℕ)). t.now) sql ≡ Some t.now
text_some sql t e = ap (option_map (λ (t : Bor (List ℕ)). t.now)) e

pub none_told : (sql : Option (Bor (List ℕ))) (found : Bool) → is_some sql ≡ not found → found ≡ true → sql ≡ None
none_told None found e t = refl
none_told (Some x) true e t = absurd cc
none_told (Some x) false e t = absurd cc

pub some_told : (sql : Option (Bor (List ℕ))) (found : Bool) → is_some sql ≡ not found → found ≡ false
    → ¬ (option_map (λ (t : Bor (List ℕ)). t.now) sql ≡ None)
some_told None false e t = absurd cc
some_told None true e t = absurd cc
some_told (Some x) found e t = λ none. cc

-- a fault that isn't want of memory says that nothing was made
pub no_index : (tree : IndexTree) (table : TableData) (name : List ℕ) (fault : Fault) → IsUnmadeObject (IsIndex tree table) name fault
    → (fault ≡ f.NoMemory → ⊥) → (index : IndexData) → ¬ IsIndex tree table index
no_index tree table name f.NoMemory h other index = absurd (other refl)
no_index tree table name (f.UnsupportedObject told) h other index = h.1 index
no_index tree table name _ h other index = absurd h

module _ (pages : ℕ) (o : ObjectData) where
  -- an object of the rows that is refused
  module _ (rows : List Row) (has : Contains rows (object_row o)) where
    pub rootless : HasTree o.kind → ((page : ℕ) → 2 ≤ page → page ≤ pages → ¬ (o.root ≡ Some (pos page))) → IsBadSchema pages rows
    rootless tree none = IsBadSchema.object o has (IsBadObject.rootless tree none)

    pub textless : o.sql ≡ None → ¬ (o.kind ≡ k.Index) → IsBadSchema pages rows
    textless none other = IsBadSchema.object o has (IsBadObject.textless none other)

    module _ (sql : List ℕ) (text : HasText k.Table sql o) where
      pub table_text : (fault : Fault) → IsTextRefused (SpellsNoTable sql) (IsTableTooMuch sql) o.name fault → IsRefusedSchema pages rows fault
      table_text f.NoMemory h = tt
      table_text (f.SchemaText told) h = record { object = o; stands = has; name_is = h.0; is = IsUnread.table sql text h.1 }
      table_text (f.UnsupportedObject told) h =
          record { object = o; stands = has; name_is = h.0; is = IsLeftOut.table_limit sql text h.1 }
      table_text _ h = absurd h

      module _ (tree : TableTree) (spelt : SpellsCreate sql tree) where
        pub table_names : ¬ (IsSameName o.name tree.name × IsSameName o.owner tree.name) → IsBadSchema pages rows
        table_names other = IsBadSchema.object o has (IsBadObject.table_names sql tree text spelt other)

        pub table_unmade : (fault : Fault) → IsUnmadeObject (IsTable tree) o.name fault → IsRefusedSchema pages rows fault
        table_unmade f.NoMemory h = tt
        table_unmade (f.UnsupportedObject told) h =
            record { object = o; stands = has; name_is = h.0; is = IsLeftOut.table sql tree text spelt h.1 }
        table_unmade _ h = absurd h

    module _ (sql : List ℕ) (text : HasText k.Index sql o) where
      pub index_text : (fault : Fault) → IsTextRefused (SpellsNoIndex sql) (index_texts.IsTooMuch sql) o.name fault → IsRefusedSchema pages rows fault
      index_text f.NoMemory h = tt
      index_text (f.SchemaText told) h = record { object = o; stands = has; name_is = h.0; is = IsUnread.index sql text h.1 }
      index_text (f.UnsupportedObject told) h =
          record { object = o; stands = has; name_is = h.0; is = IsLeftOut.index_limit sql text h.1 }
      index_text _ h = absurd h

      module _ (tree : IndexTree) (spelt : SpellsIndex sql tree) where
        pub index_names : ¬ (IsSameName o.name tree.name × IsSameName o.owner tree.table) → IsBadSchema pages rows
        index_names other = IsBadSchema.object o has (IsBadObject.index_names sql tree text spelt other)

        pub index_unmade : (tables : List TableData) (table : TableData) → AreTablesOf pages rows tables → Contains tables table
            → IsSameName tree.table table.name → (fault : Fault) → IsUnmadeObject (IsIndex tree table) o.name fault
            → IsRefusedSchema pages rows fault
        index_unmade tables table are at same f.NoMemory h = tt
        index_unmade tables table are at same (f.UnsupportedObject told) h =
            let found = picks_from (SaysTable pages) IsNoTable are table at in
            record {
              object = o;
              stands = has;
              name_is = h.0;
              is = IsLeftOut.index sql tree found.0 table text spelt found.1 found.2 same h.1;
            }
        index_unmade tables table are at same _ h = absurd h

    -- an index whose table none of the tables is
    pub ownerless : (keyed : List KeyedData) → o.kind ≡ k.Index → AreKeyedOf pages rows keyed
        → All (λ k. ¬ IsSameName k.table.name o.owner) keyed → IsBadSchema pages rows
    ownerless keyed kind are none = IsBadSchema.ownerless o has kind other
      where
        other : (t : ObjectData) → Contains rows (object_row t) → t.kind ≡ k.Table → ¬ IsSameName o.owner t.name
        other t there is same = go (picks_has (SaysKeyed pages) IsNoTable are (object_row t) there)
          where
            no_kind : (kind : Kind) → IsOfKind kind (object_row t) → ¬ (kind ≡ k.Table) → ⊥
            no_kind kind other not_table = not_table (sym other.kind_is ∙ (sym (one_kind t other.object other.row_is) ∙ is))

            go : ((x : KeyedData) × Contains keyed x × SaysKeyed pages (object_row t) x) ⊎ IsNoTable (object_row t) → ⊥
            go (inl (x, at, keys)) =
                let says = keys.says in
                let parts = table_parts t says.name says.owner says.sql (pos x.table.root) says.row_is in
                let named : IsSameName x.table.name o.owner =
                ap (map to_ascii_lowercase) says.created.name_is
                ∙ (sym says.name_is ∙ (ap (map to_ascii_lowercase) (sym parts.1) ∙ sym same)) in
                subst (λ (z : KeyedData). ¬ IsSameName z.table.name o.owner) at.2 (none at.0 x at.1) named
            go (inr (inl index)) = no_kind k.Index index (λ e. absurd cc)
            go (inr (inr trigger)) =
                no_kind k.Trigger (record { object = trigger.object; row_is = trigger.row_is; kind_is = trigger.kind_is })
                (λ e. absurd cc)

    -- an index without a text that no key of its table wants
    unwanted : (keyed : List KeyedData) (x : KeyedData) → o.kind ≡ k.Index → o.sql ≡ None → AreKeyedOf pages rows keyed
        → ¬ Doubled rows → Contains keyed x → IsSameName x.table.name o.owner
        → All (λ (w : KeyIndexData). ¬ IsSameName o.name w.name) x.wanted → IsBadSchema pages rows
    unwanted keyed x kind none are apart at owner unlike =
        IsBadSchema.unwanted o (tables_in keyed) has kind none (tables_said pages are) other
      where
        from : (row : Row) × Contains rows row × SaysKeyed pages row x
        from = picks_from (SaysKeyed pages) IsNoTable are x at

        other : (row : Row) (table : TableData) (a : AutomaticData) → Contains rows row → WantsIndex pages row table a
            → ¬ IsKeyRow table.name (automatic_name table.name a.number) (object_row o)
        other row table a there wants key =
            let object = one_object key.object o (sym key.row_is) in
            let owners : IsSameName x.table.name table.name =
            owner ∙ (ap (λ (o : ObjectData). map to_ascii_lowercase o.owner) (sym object) ∙ key.owner_is) in
            let one = same_row pages rows apart from.0 row x.table table from.1 there from.2.says wants.says owners in
            let table_is : x.table ≡ table =
            same_table pages rows apart from.0 row x.table table from.1 there from.2.says wants.says owners in
            let w = wanted_at pages from.0 x table a from.2 (subst (λ r. WantsIndex pages r table a) one wants) in
            all_at (λ (w : KeyIndexData). ¬ IsSameName o.name w.name) x.wanted w.0 unlike w.1
            (ap (λ (o : ObjectData). map to_ascii_lowercase o.name) (sym object)
            ∙ (key.name_is
            ∙ (ap (λ (t : TableData). map to_ascii_lowercase (automatic_name t.name a.number)) (sym table_is)
            ∙ ap (map to_ascii_lowercase) (sym w.2.name_is))))

    pub key_refused : (keyed : List KeyedData) (x : KeyedData) → o.kind ≡ k.Index → o.sql ≡ None → AreKeyedOf pages rows keyed
        → ¬ Doubled rows → Contains keyed x → IsSameName x.table.name o.owner → (fault : Fault) → IsNotWanted o.name x.wanted fault
        → IsRefusedSchema pages rows fault
    key_refused keyed x kind none are apart at owner f.NoMemory unlike = tt
    key_refused keyed x kind none are apart at owner f.SchemaRow unlike = unwanted keyed x kind none are apart at owner unlike
    key_refused keyed x kind none are apart at owner _ unlike = absurd unlike

  -- an object that says a table
  pub says_keyed : (sql : List ℕ) (tree : TableTree) (root : ℕ) (keyed : KeyedData) → HasText k.Table sql o
      → (o.root ≡ Some (pos root)) × (2 ≤ root) × (root ≤ pages) → SpellsCreate sql tree → AreWithinLimits columns_of_table sql tree
      → IsSameName o.name tree.name → IsSameName o.owner tree.name → IsMadeTable tree root keyed → SaysKeyed pages (object_row o) keyed
  says_keyed sql tree root keyed text at spelt within name owner made = record {
    says = record {
      name = o.name;
      owner = o.owner;
      sql = sql;
      tree = tree;
      row_is = table_row o keyed.table.root sql text.kind_is (at.0 ∙ ap (λ (n : ℕ). Some (pos n)) (sym made.root_is)) text.sql_is;
      spelt = spelt;
      within = within;
      name_is = name;
      owner_is = owner;
      least = subst (λ n. 2 ≤ n) (sym made.root_is) at.1;
      most = subst (λ n. n ≤ pages) (sym made.root_is) at.2;
      created = made.made;
    };
    automatic = made.automatic;
    want = made.want;
    are = made.are;
  }

  -- an object that says an index
  pub says_index : (tables : List TableData) (table : TableData) (sql : List ℕ) (tree : IndexTree) (root : ℕ) (index : IndexData)
      → HasText k.Index sql o → (o.root ≡ Some (pos root)) × (2 ≤ root) × (root ≤ pages) → SpellsIndex sql tree
      → AreWithinLimits columns_of_index sql tree → IsSameName o.name tree.name → IsSameName o.owner tree.table → Contains tables table
      → IsIndex tree table index × (index.root ≡ root) → SaysIndex pages tables (object_row o) index
  says_index tables table sql tree root index text at spelt within name owner of_table made = record {
    object = o;
    sql = sql;
    tree = tree;
    table = table;
    row_is = refl;
    kind_is = text.kind_is;
    root_is = at.0 ∙ ap (λ (n : ℕ). Some (pos n)) (sym made.1);
    sql_is = text.sql_is;
    spelt = spelt;
    within = within;
    name_is = name;
    owner_is = owner;
    of_table = of_table;
    least = subst (λ n. 2 ≤ n) (sym made.1) at.1;
    most = subst (λ n. n ≤ pages) (sym made.1) at.2;
    created = made.0;
  }

  -- an object that says an index for a key
  pub says_key_index : (rows : List Row) (keyed : List KeyedData) (x : KeyedData) (root : ℕ) (index : IndexData)
      → AreKeyedOf pages rows keyed → Contains keyed x → IsSameName x.table.name o.owner → o.kind ≡ k.Index → o.sql ≡ None
      → (o.root ≡ Some (pos root)) × (2 ≤ root) × (root ≤ pages) → Any (IsRootedAs o.name x.table.name root index) x.wanted
      → SaysKeyIndex pages rows (object_row o) index
  says_key_index rows keyed x root index are at owner kind none root_is (i, w, within, is, same) =
      let found = wanted_by pages rows keyed are x w at (i, within, is) in
      let a = found.2.0 in
      let here : index.root ≡ root = ap (λ (i : IndexData). i.root) same.1 in
      record {
        table_row = found.0;
        stands = found.1;
        table = x.table;
        automatic = a;
        wants = found.2.1;
        key_index = w;
        made = found.2.2;
        key_row = record {
          object = o;
          row_is = refl;
          kind_is = kind;
          sql_is = none;
          owner_is = sym owner;
          name_is = same.0 ∙ ap (map to_ascii_lowercase) found.2.2.name_is;
        };
        root_is = root_is.0 ∙ ap (λ (n : ℕ). Some (pos n)) (sym here);
        least = subst (λ n. 2 ≤ n) (sym here) root_is.1;
        most = subst (λ n. n ≤ pages) (sym here) root_is.2;
        index_is = same.1 ∙ ap (rooted w x.table.name) (sym here);
      }

-- a row of an object without a text, where its last name was tested
pub key_row_told : (table name : List ℕ) (row : Row) (o : ObjectData) (found : Bool) → row ≡ object_row o → o.kind ≡ k.Index → o.sql ≡ None
    → IsSameName o.owner table → IsTrue found ↔ IsSameName o.name name → IsTrue found ↔ IsKeyRow table name row
key_row_told table name row o found is kind none owner tested = (
  (λ e. record { object = o; row_is = is; kind_is = kind; sql_is = none; owner_is = owner; name_is = tested.0 e }),
  (λ key. tested.1 (ap (map to_ascii_lowercase) (one_name o key.object (sym is ∙ key.row_is)) ∙ key.name_is)),
)
