-- The index that a CREATE INDEX makes.
use Rattle.std.proofs.Common.{◌≡◌, ℕ, suc, zero, ◌+◌, ◌<◌, ◌≤◌, Bool, true, false, IsTrue, ◌↔◌, List, [], ◌∷◌, ◌++◌, length, get_or, map, take, slice_get, Option, Some, None, refl, sym, ap, ◌∙◌, subst, arith}
use Rattle.std.proofs.lemmas.Option.{slice_get-get_or, slice_get-map, slice_get_within}
use Rattle.std.proofs.lemmas.List.{length-map, take_all}
use Rattle.std.specs.List.{AllZip}
use Rattle.std.specs.Option.{option_map}
use Rattle.sql_reader_grammar.specs.create_trees.CreateTrees.{IndexedColumnTree, IndexTree}
use Rattle.sql_reader_grammar.specs.create_trees.CreateView.{indexed_of}
use Rattle.sql_reader_grammar.specs.declared.create_trees.create.IndexedColumn.{IndexedColumn}
use Rattle.expr.specs.Term.{Term}
use Rattle.schema.specs.indexes.Condition.{IsIndexCondition}
use Rattle.schema.specs.indexes.IndexData.{IndexData, IndexedData}
use Rattle.schema.specs.indexes.Indexed.{AreIndexed, IsIndex, IsIndexed}
use Rattle.schema.specs.indexes.Others.{others_of}
use Rattle.schema_keys.proofs.ListLemmas.{all_zip_push, map_next}
use Rattle.schema_keys.proofs.NameLemmas.{one_place}
use Rattle.schema_tables.proofs.ZipLemmas.{zip_same}
use Rattle.schema_keys.specs.Names.{AreDistinct, IsNameAt, IsSameName}
use Rattle.schema_tables.specs.TableData.{ColumnData, TableData}
use Rattle.sql_reader_syntax.specs.ExprTree.{ExprTree}
use Rattle.sql_reader_syntax.specs.Tree.{Name}

-- The place of a column, where it was tested whether this one has the name
module _ (columns : List ColumnData) (name : Name) (i : ℕ) (x : ColumnData) (given : Name) (found : Bool) (within : i < length columns)
    (is : x ≡ get_or columns i x) (e : given ≡ x.name) (tested : IsTrue found ↔ IsSameName given name) where
  stands : slice_get (map (λ (c : ColumnData). c.name) columns) i ≡ Some x.name
  stands =
      slice_get-map (λ (c : ColumnData). c.name) columns i
      ∙ ap (option_map (λ (c : ColumnData). c.name)) (slice_get-get_or columns i x within ∙ ap Some (sym is))

  pub place_here : found ≡ true → IsNameAt (map (λ c. c.name) columns) name i
  place_here some = record { other = x.name; stands = stands; named = subst (λ n. IsSameName n name) e (tested.0 some) }

  pub place_not_here : found ≡ false → ¬ IsNameAt (map (λ c. c.name) columns) name i
  place_not_here none place =
      let same : place.other ≡ x.name = let p = place.stands in let q = stands in cc in
      let h : found ≡ true = tested.1 (subst (λ n. IsSameName n name) (same ∙ sym e) place.named) in
      cc

pub no_place : (columns : List ColumnData) (name : Name) (count : ℕ) → length columns ≤ count
    → ((k : ℕ) → k < count → ¬ IsNameAt (map (λ c. c.name) columns) name k) → (place : ℕ) → ¬ IsNameAt (map (λ c. c.name) columns) name place
no_place columns name count all none place is =
    let within = slice_get_within (map (λ (c : ColumnData). c.name) columns) place is.other is.stands in
    let long = length-map columns (λ (c : ColumnData). c.name) in
    none place (omega (arith, all, within, long)) is

-- one index

one_indexed : (columns : List ColumnData) → AreDistinct (map (λ c. c.name) columns) → (tree : IndexedColumnTree) (a b : IndexedData)
    → IsIndexed columns tree a → IsIndexed columns tree b → a ≡ b
one_indexed columns distinct tree a b p q =
    let place : a.place ≡ b.place = one_place (map (λ c. c.name) columns) distinct tree.name a.place b.place p.place_is q.place_is in
    let order : a.order ≡ b.order = p.order_is ∙ sym q.order_is in
    λ i. record { place = place i; order = order i }

one_condition : (table : TableData) (tree : Option ExprTree) (a b : Option Term) → IsIndexCondition table tree a → IsIndexCondition table tree b
    → a ≡ b
one_condition table None None None p q = refl
one_condition table None None (Some b) p q = absurd q
one_condition table None (Some a) b p q = absurd p
one_condition table (Some e) None b p q = absurd p
one_condition table (Some e) (Some a) None p q = absurd q
one_condition table (Some e) (Some a) (Some b) p q =
    let same : a ≡ b = let x = p.term_is in let y = q.term_is in cc in ap Some same

pub one_index : (tree : IndexTree) (table : TableData) (a b : IndexData) → AreDistinct (map (λ c. c.name) table.columns)
    → IsIndex tree table a → IsIndex tree table b → a.root ≡ b.root → a ≡ b
one_index tree table a b distinct p q root =
    let name : a.name ≡ b.name = p.name_is ∙ sym q.name_is in
    let owner : a.table ≡ b.table = p.table_is ∙ sym q.table_is in
    let columns : a.columns ≡ b.columns =
    zip_same (IsIndexed table.columns) (one_indexed table.columns distinct) tree.columns a.columns b.columns p.columns_are.each q.columns_are.each in
    let others : a.others ≡ b.others = p.others_are ∙ (ap (others_of table.key) columns ∙ sym q.others_are) in
    let is_unique : a.is_unique ≡ b.is_unique = p.unique_is ∙ sym q.unique_is in
    let condition : a.condition ≡ b.condition = one_condition table tree.condition a.condition b.condition p.condition_is q.condition_is in
    λ i. record {
      name = name i;
      table = owner i;
      root = root i;
      columns = columns i;
      others = others i;
      is_unique = is_unique i;
      condition = condition i;
    }

-- The columns, one after the other

beside : {X Y Z : Type 0} (R : Y → Z → Type 0) (f : X → Y) (xs : List X) (zs : List Z) (i : ℕ) (x : X) → i < length xs
    → x ≡ get_or xs i x → AllZip R (map f xs) zs → (z : Z) × R (f x) z
beside R f [] zs i x within is all = absurd (omega (arith, within))
beside R f (y ∷ xs) [] i x within is all = absurd all
beside R f (y ∷ xs) (z ∷ zs) zero x within is all = (z, subst (λ y. R (f y) z) (sym is) all.0)
beside R f (y ∷ xs) (z ∷ zs) (suc i) x within is all = beside R f xs zs i x (omega (arith, within)) is all.1

module _ (columns : List ColumnData) (named : List IndexedColumn) where
  -- the columns of an index as far as so many are named
  abbrev pub IndexedSoFar : ℕ → List IndexedData → Type 0
  IndexedSoFar count all = AllZip (IsIndexed columns) (map indexed_of (take count named)) all

  module _ (i : ℕ) (x : IndexedColumn) (within : i < length named) (is : x ≡ get_or named i x) where
    pub indexed_more : (all more : List IndexedData) (next : IndexedData) → IsIndexed columns (indexed_of x) next
        → more ≡ all ++ next ∷ [] → IndexedSoFar i all → IndexedSoFar (i + 1) more
    indexed_more all more next here e far =
        subst (IndexedSoFar (i + 1)) (sym e)
        (subst (λ trees. AllZip (IsIndexed columns) trees (all ++ next ∷ [])) (sym (map_next indexed_of named i x within is))
        (all_zip_push (IsIndexed columns) (map indexed_of (take i named)) all (indexed_of x) next far here))

    pub none_indexed : ((column : IndexedData) → ¬ IsIndexed columns (indexed_of x) column) → (all : List IndexedData)
        → ¬ AreIndexed columns (map indexed_of named) all
    none_indexed none all are =
        let found = beside (IsIndexed columns) indexed_of named all i x within is are.each in none found.0 found.1

  names_of : (columns : List IndexedColumn)
      → map (λ c. c.name) (map indexed_of columns) ≡ map (λ (c : IndexedColumn). (indexed_of c).name) columns
  names_of [] = refl
  names_of (c ∷ columns) = ap (λ names. (indexed_of c).name ∷ names) (names_of columns)

  module _ (distinct : Bool) (tested : IsTrue distinct ↔ AreDistinct (map (λ (c : IndexedColumn). (indexed_of c).name) named)) where
    pub named_twice_refused : distinct ≡ false → (all : List IndexedData) → ¬ AreIndexed columns (map indexed_of named) all
    named_twice_refused none all are =
        let h : distinct ≡ true = tested.1 (subst AreDistinct (names_of named) are.distinct) in cc

    pub are_indexed : (count : ℕ) (all : List IndexedData) → distinct ≡ true → length named ≤ count → IndexedSoFar count all
        → AreIndexed columns (map indexed_of named) all
    are_indexed count all some end far = record {
      each = subst (λ xs. AllZip (IsIndexed columns) (map indexed_of xs) all) (take_all count named end) far;
      distinct = subst AreDistinct (sym (names_of named)) (tested.0 some);
    }
