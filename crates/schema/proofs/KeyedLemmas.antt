-- Tables, with the indexes that their keys want.
use Rattle.std.proofs.Common.{◌≡◌, ℕ, zero, suc, pos, ◌+◌, ◌<◌, ◌≤◌, ◌⊎◌, inl, inr, All, Contains, List, [], ◌∷◌, ◌++◌, codes, length, get_or, map, take, refl, sym, ap, ◌∙◌, subst, arith}
use Rattle.std.proofs.lemmas.List.{map_push, take_all}
use Rattle.std.proofs.lemmas.List.Elements.{All-cons, All-nil}
use Rattle.std.specs.Char.{to_ascii_lowercase}
use Rattle.std.specs.List.{AllZip, Any}
use Rattle.values.specs.Row.{Row}
use Rattle.values.specs.Datum.{int, text}
use Rattle.sql_reader_creates.proofs.CreateTexts.{one_create}
use Rattle.sql_reader_creates.specs.CreateGrammar.{SpellsCreate}
use Rattle.sql_reader_grammar.specs.create_trees.CreateTrees.{ColumnTree, TableTree}
use Rattle.sql_reader_grammar.specs.declared.create_trees.create.TableOption.{TableOption}
use Rattle.schema_keys.specs.declared_keys.Keys.{KeyData, keys_of}
use Rattle.schema.specs.indexes.KeyIndexes.{HasColumn, IsKeyIndex, KeyIndexData, automatic_name}
use Rattle.schema.specs.indexes.KeyIndexView.{key_index_data}
use Rattle.schema.specs.declared.indexes.key_indexes.KeyIndex.{KeyIndex}
use Rattle.schema_keys.proofs.ListLemmas.{all_from_map, all_zip_push, map_next}
use Rattle.schema_keys.proofs.OneLemmas.{one_table}
use Rattle.schema_keys.specs.Created.{IsColumn, IsNamedIn, IsTable}
use Rattle.schema_keys.specs.Rows.{SaysTable}
use Rattle.schema_tables.specs.TableData.{ColumnData, TableData}
use Rattle.sql_reader_syntax.specs.Tree.{Name}
use Rattle.schema_keys.proofs.lemmas.table_keys.AutomaticLemmas.{one_list}
use Rattle.schema_keys.specs.table_keys.Automatic.{AutomaticData, WantIndexes}
use Rattle.schema_keys.specs.table_keys.AutomaticView.{automatic_data}
use Rattle.schema_keys.specs.declared.table_keys.automatic.AutomaticIndex.{AutomaticIndex}
use Rattle.schema.specs.Keyed.{AreKeyedOf, HasKeyRows, KeyedData, LacksRow, SaysKeyed, tables_in}
use Rattle.schema.specs.KeyedView.{keyed_data}
use Rattle.schema.specs.declared.keyed.KeyedTable.{KeyedTable}
use Rattle.schema.specs.Picks.{Picks}
use Rattle.schema.specs.Says.{AreKept, AreTablesOf, IsNoTable}
use Rattle.schema.specs.Wanted.{HasKeyRow, WantsIndex}
use Rattle.schema.proofs.KindLemmas.{table_apart}
use Rattle.schema.proofs.PickLemmas.{picks_from, picks_has}

-- ---- What keys want

want_all : (tree : TableTree) (P : List Name → Type 0) (number : ℕ) (keys : List KeyData) (automatic : List AutomaticData)
    → WantIndexes tree number keys automatic → All (λ (k : KeyData). P k.columns) keys → All (λ (a : AutomaticData). P a.columns) automatic
want_all tree P number _ _ WantIndexes.end all = All-nil _
want_all tree P number _ _ (WantIndexes.index {key = key} {keys = keys} {indexes = indexes} r t rest) all =
    All-cons (λ (a : AutomaticData). P a.columns) (record { number = number; columns = key.columns }) indexes (all 0 key (omega arith))
    (want_all tree P (number + 1) keys indexes rest (λ k d within. all (suc k) d (omega (arith, within))))
want_all tree P number _ _ (WantIndexes.table {keys = keys} {indexes = indexes} t rest) all =
    want_all tree P (number + 1) keys indexes rest (λ k d within. all (suc k) d (omega (arith, within)))
want_all tree P number _ _ (WantIndexes.integer {keys = keys} {indexes = indexes} r rest) all =
    want_all tree P number keys indexes rest (λ k d within. all (suc k) d (omega (arith, within)))

-- a column that is named is one of the table's
has_column : (options : List TableOption) (keys : List KeyData) (trees : List ColumnTree) (columns : List ColumnData) (name : Name)
    → AllZip (IsColumn options keys) trees columns → IsNamedIn trees name → HasColumn columns name
has_column options keys [] columns name all (k, c, within, is, same) = absurd (omega (arith, within))
has_column options keys (t ∷ trees) [] name all named = absurd all
has_column options keys (t ∷ trees) (c ∷ columns) name all (zero, x, within, is, same) =
    (0, c, omega arith, refl, ap (map to_ascii_lowercase) (all.0.name_is ∙ ap (λ (t : ColumnTree). t.name) is) ∙ same)
has_column options keys (t ∷ trees) (c ∷ columns) name all (suc k, x, within, is, same) =
    let rest = has_column options keys trees columns name all.1 (k, x, omega (arith, within), is, same) in
    (suc rest.0, rest.1, omega (arith, rest.2), rest.3, rest.4)

pub have_columns : (tree : TableTree) (table : TableData) (automatic : List AutomaticData) → IsTable tree table
    → WantIndexes tree 1 (keys_of tree) automatic → All (λ (a : AutomaticData). All (HasColumn table.columns) a.columns) automatic
have_columns tree table automatic is want =
    want_all tree (λ names. All (HasColumn table.columns) names) 1 (keys_of tree) automatic want
    (λ k d within i n inside.
    has_column tree.options (keys_of tree) tree.columns table.columns _ is.columns_are ((is.keys_are.columns_are k d within).named i n inside))

-- ---- Lists side by side

zip_left : {X Y : Type 0} (R : X → Y → Type 0) (xs : List X) (ys : List Y) (x : X) → AllZip R xs ys → Contains xs x
    → (y : Y) × Contains ys y × R x y
zip_left R [] ys x all (k, within, is) = absurd (omega (arith, within))
zip_left R (a ∷ xs) [] x all at = absurd all
zip_left R (a ∷ xs) (b ∷ ys) x all (zero, within, is) = (b, (0, omega arith, refl), subst (λ z. R z b) is all.0)
zip_left R (a ∷ xs) (b ∷ ys) x all (suc k, within, is) =
    let rest = zip_left R xs ys x all.1 (k, omega (arith, within), is) in
    let there = rest.1 in let less = there.1 in (rest.0, (suc there.0, omega (arith, less), there.2), rest.2)

zip_right : {X Y : Type 0} (R : X → Y → Type 0) (xs : List X) (ys : List Y) (y : Y) → AllZip R xs ys → Contains ys y
    → (x : X) × Contains xs x × R x y
zip_right R xs [] y all (k, within, is) = absurd (omega (arith, within))
zip_right R [] (b ∷ ys) y all at = absurd all
zip_right R (a ∷ xs) (b ∷ ys) y all (zero, within, is) = (a, (0, omega arith, refl), subst (R a) is all.0)
zip_right R (a ∷ xs) (b ∷ ys) y all (suc k, within, is) =
    let rest = zip_right R xs ys y all.1 (k, omega (arith, within), is) in
    let there = rest.1 in let less = there.1 in (rest.0, (suc there.0, omega (arith, less), there.2), rest.2)

-- ---- The tables of rows

pub contains_map : {X Y : Type 0} (f : X → Y) (xs : List X) (x : X) → Contains xs x → Contains (map f xs) (f x)
contains_map f [] x (k, within, is) = absurd (omega (arith, within))
contains_map f (y ∷ xs) x (zero, within, is) = (0, omega arith, ap f is)
contains_map f (y ∷ xs) x (suc k, within, is) =
    let rest = contains_map f xs x (k, omega (arith, within), is) in let less = rest.1 in (suc rest.0, omega (arith, less), rest.2)

pub tables_alone : (tables : List KeyedTable) → tables_in (map keyed_data tables) ≡ map (λ (k : KeyedTable). (keyed_data k).table) tables
tables_alone [] = refl
tables_alone (k ∷ tables) = ap (λ ts. (keyed_data k).table ∷ ts) (tables_alone tables)

-- one row spells one tree
same_tree : (pages : ℕ) (row : Row) (a b : TableData) (x : SaysTable pages row a) (y : SaysTable pages row b) → y.tree ≡ x.tree
same_tree pages row a b x y =
    let same : text (codes "table") ∷ text x.name ∷ text x.owner ∷ int (pos a.root) ∷ text x.sql ∷ []
    ≡ text (codes "table") ∷ text y.name ∷ text y.owner ∷ int (pos b.root) ∷ text y.sql ∷ [] = sym x.row_is ∙ y.row_is in
    let sql : y.sql ≡ x.sql = cc in
    one_create x.sql y.tree x.tree (subst (λ s. SpellsCreate s y.tree) sql y.spelt) x.spelt

-- and wants one list of indexes
pub one_wanted : (pages : ℕ) (row : Row) (a b : TableData) (x : SaysTable pages row a) (y : SaysTable pages row b)
    (first second : List AutomaticData) → WantIndexes x.tree 1 (keys_of x.tree) first → WantIndexes y.tree 1 (keys_of y.tree) second
    → first ≡ second
one_wanted pages row a b x y first second p q =
    one_list x.tree 1 (keys_of x.tree) first second p
    (subst (λ t. WantIndexes t 1 (keys_of t) second) (same_tree pages row a b x y) q)

-- their numbers ascend
at_least : (tree : TableTree) (number : ℕ) (keys : List KeyData) (automatic : List AutomaticData) → WantIndexes tree number keys automatic
    → (a : AutomaticData) → Contains automatic a → number ≤ a.number
at_least tree number _ _ WantIndexes.end a (k, within, is) = absurd (omega (arith, within))
at_least tree number _ _ (WantIndexes.index r t rest) a (zero, within, is) =
    subst (λ (x : AutomaticData). number ≤ x.number) is (omega arith)
at_least tree number _ _ (WantIndexes.index {keys = keys} {indexes = indexes} r t rest) a (suc k, within, is) =
    let more = at_least tree (number + 1) keys indexes rest a (k, omega (arith, within), is) in omega (arith, more)
at_least tree number _ _ (WantIndexes.table {keys = keys} {indexes = indexes} t rest) a at =
    let more = at_least tree (number + 1) keys indexes rest a at in omega (arith, more)
at_least tree number _ _ (WantIndexes.integer {keys = keys} {indexes = indexes} r rest) a at =
    at_least tree number keys indexes rest a at

one_numbered : (tree : TableTree) (number : ℕ) (keys : List KeyData) (automatic : List AutomaticData) → WantIndexes tree number keys automatic
    → (a b : AutomaticData) → Contains automatic a → Contains automatic b → a.number ≡ b.number → a ≡ b
one_numbered tree number _ _ WantIndexes.end a b (k, within, is) q same = absurd (omega (arith, within))
one_numbered tree number _ _ (WantIndexes.index r t rest) a b (zero, within, is) (zero, inside, at) same = sym is ∙ at
one_numbered tree number _ _ (WantIndexes.index {keys = keys} {indexes = indexes} r t rest) a b (zero, within, is) (suc j, inside, at) same =
    let more = at_least tree (number + 1) keys indexes rest b (j, omega (arith, inside), at) in
    let first : number ≡ a.number = ap (λ (x : AutomaticData). x.number) is in absurd (omega (arith, more, first, same))
one_numbered tree number _ _ (WantIndexes.index {keys = keys} {indexes = indexes} r t rest) a b (suc k, within, is) (zero, inside, at) same =
    let more = at_least tree (number + 1) keys indexes rest a (k, omega (arith, within), is) in
    let first : number ≡ b.number = ap (λ (x : AutomaticData). x.number) at in absurd (omega (arith, more, first, same))
one_numbered tree number _ _ (WantIndexes.index {keys = keys} {indexes = indexes} r t rest) a b (suc k, within, is) (suc j, inside, at) same =
    one_numbered tree (number + 1) keys indexes rest a b (k, omega (arith, within), is) (j, omega (arith, inside), at) same
one_numbered tree number _ _ (WantIndexes.table {keys = keys} {indexes = indexes} t rest) a b p q same =
    one_numbered tree (number + 1) keys indexes rest a b p q same
one_numbered tree number _ _ (WantIndexes.integer {keys = keys} {indexes = indexes} r rest) a b p q same =
    one_numbered tree number keys indexes rest a b p q same

pub one_automatic : (pages : ℕ) (row : Row) (t u : TableData) (a b : AutomaticData) → WantsIndex pages row t a → WantsIndex pages row u b
    → a.number ≡ b.number → a ≡ b
one_automatic pages row t u a b x y same =
    let one = one_wanted pages row t u x.says y.says x.wanted y.wanted x.want y.want in
    one_numbered x.says.tree 1 (keys_of x.says.tree) x.wanted x.want a b x.among (subst (λ xs. Contains xs b) (sym one) y.among) same

-- each index that a key of a row's table wants is among those of the table that the row says
pub wanted_at : (pages : ℕ) (row : Row) (k : KeyedData) (table : TableData) (a : AutomaticData) → SaysKeyed pages row k
    → WantsIndex pages row table a → (w : KeyIndexData) × Contains k.wanted w × IsKeyIndex k.table a w
wanted_at pages row k table a says wants =
    let one = one_wanted pages row table k.table wants.says says.says wants.wanted says.automatic wants.want says.want in
    zip_left (IsKeyIndex k.table) says.automatic k.wanted a says.are (subst (λ xs. Contains xs a) one wants.among)

pub all_at : {X : Type 0} (P : X → Type 0) (xs : List X) (x : X) → All P xs → Contains xs x → P x
all_at P xs x all (k, within, is) = subst P is (all k x within)

module _ (pages : ℕ) where
  pub tables_said : {rows : List Row} {keyed : List KeyedData} → AreKeyedOf pages rows keyed → AreTablesOf pages rows (tables_in keyed)
  tables_said Picks.end = Picks.end
  tables_said (Picks.here s rest) = Picks.here s.says (tables_said rest)
  tables_said (Picks.other o rest) = Picks.other o (tables_said rest)

  module _ (rows : List Row) (keyed : List KeyedData) (are : AreKeyedOf pages rows keyed) where
    -- a key wants each of the indexes
    pub wanted_by : (k : KeyedData) (w : KeyIndexData) → Contains keyed k → Contains k.wanted w
        → (row : Row) × Contains rows row × ((a : AutomaticData) × WantsIndex pages row k.table a × IsKeyIndex k.table a w)
    wanted_by k w at among =
        let from = picks_from (SaysKeyed pages) IsNoTable are k at in
        let says = from.2 in
        let found = zip_right (IsKeyIndex k.table) says.automatic k.wanted w says.are among in (
          from.0,
          from.1,
          (found.0, record { says = says.says; wanted = says.automatic; want = says.want; among = found.1 }, found.2),
        )

    -- and they are all that keys want
    pub wanted_in : (row : Row) (table : TableData) (a : AutomaticData) → Contains rows row → WantsIndex pages row table a
        → (k : KeyedData) × Contains keyed k × (k.table ≡ table) × ((w : KeyIndexData) × Contains k.wanted w × IsKeyIndex k.table a w)
    wanted_in row table a at wants = go (picks_has (SaysKeyed pages) IsNoTable are row at)
      where
        go : ((k : KeyedData) × Contains keyed k × SaysKeyed pages row k) ⊎ IsNoTable row
            → (k : KeyedData) × Contains keyed k × (k.table ≡ table) × ((w : KeyIndexData) × Contains k.wanted w × IsKeyIndex k.table a w)
        go (inl (k, there, says)) =
            (k, there, one_table pages row k.table table says.says wants.says, wanted_at pages row k table a says wants)
        go (inr none) = absurd (table_apart pages row table wants.says none)

    -- each of them has a row, where each was found
    pub are_kept : All (HasKeyRows rows) keyed → AreKept pages rows
    are_kept all row table a at wants =
        let found = wanted_in row table a at wants in
        let k = found.0 in
        let same = found.2 in
        let w = found.3.0 in
        let is = found.3.2 in
        let has : HasKeyRow rows k.table.name w.name =
        all_at (λ (w : KeyIndexData). HasKeyRow rows k.table.name w.name) k.wanted w (all_at (HasKeyRows rows) keyed k all found.1) found.3.1 in
        subst (λ (t : TableData). HasKeyRow rows t.name (automatic_name t.name a.number)) same
        (subst (HasKeyRow rows k.table.name) is.name_is has)

    -- one has none, where one was missed
    pub one_lacks : Any (LacksRow rows) keyed
        → (row : Row) × (table : TableData) × (a : AutomaticData) × Contains rows row × WantsIndex pages row table a
        × (¬ HasKeyRow rows table.name (automatic_name table.name a.number))
    one_lacks (i, k, within, is, (j, w, inside, here, none)) =
        let found = wanted_by k w (i, within, is) (j, inside, here) in
        let a = found.2.0 in (
          found.0,
          k.table,
          a,
          found.1,
          found.2.1,
          (λ has. none (subst (HasKeyRow rows k.table.name) (sym found.2.2.name_is) has)),
        )

-- ---- The indexes for keys, one after the other
module _ (table : TableData) (automatic : List AutomaticIndex) where
  abbrev pub KeyIndexesSoFar : ℕ → List KeyIndex → Type 0
  KeyIndexesSoFar count all = AllZip (IsKeyIndex table) (map automatic_data (take count automatic)) (map key_index_data all)

  pub all_key_indexes : (count : ℕ) (all : List KeyIndex) → length automatic ≤ count → KeyIndexesSoFar count all
      → AllZip (IsKeyIndex table) (map automatic_data automatic) (map key_index_data all)
  all_key_indexes count all end =
      subst (λ xs. KeyIndexesSoFar count all → AllZip (IsKeyIndex table) (map automatic_data xs) (map key_index_data all))
      (take_all count automatic end) (λ far. far)

  module _ (i : ℕ) (x : AutomaticIndex) (within : i < length automatic) (is : x ≡ get_or automatic i x) where
    pub columns_at : All (λ (a : AutomaticData). All (HasColumn table.columns) a.columns) (map automatic_data automatic)
        → All (HasColumn table.columns) (automatic_data x).columns
    columns_at all =
        subst (λ x. All (HasColumn table.columns) (automatic_data x).columns) (sym is)
        (all_from_map (λ (a : AutomaticData). All (HasColumn table.columns) a.columns) automatic_data automatic all i x within)

    pub key_index_more : (all more : List KeyIndex) (next : KeyIndex) → IsKeyIndex table (automatic_data x) (key_index_data next)
        → more ≡ all ++ next ∷ [] → KeyIndexesSoFar i all → KeyIndexesSoFar (i + 1) more
    key_index_more all more next here e far =
        subst (KeyIndexesSoFar (i + 1)) (sym e)
        (subst (λ xs. AllZip (IsKeyIndex table) xs (map key_index_data (all ++ next ∷ []))) (sym (map_next automatic_data automatic i x within is))
        (subst (AllZip (IsKeyIndex table) (map automatic_data (take i automatic) ++ automatic_data x ∷ [])) (sym (map_push key_index_data all next))
        (all_zip_push (IsKeyIndex table) (map automatic_data (take i automatic)) (map key_index_data all) (automatic_data x) (key_index_data next) far here)))
