-- The row of a table without rowids that has a key.
use Rattle.std.proofs.Common.{◌≡◌, ◌∙◌, ◌<◌, ◌≤◌, ℕ, zero, suc, Contains, Bool, true, false, List, [], ◌∷◌, Some, length, take, slice_get, refl, sym, ap, subst, ⊎_elim, arith}
use Rattle.std.specs.Prelude.{find}
use Rattle.std.specs.Ordering.{is_eq, is_lt, ordering_then}
use Rattle.std.specs.declared.cmp.Ordering.{Ordering}
use Rattle.std.specs.declared.cmp.Ordering.TheVariants.{Less, Equal, Greater}
use Rattle.std.proofs.lemmas.Bool.{cases_lt}
use Rattle.std.proofs.lemmas.Cmp.{tied_itself}
use Rattle.std.proofs.lemmas.List.{length-map}
use Rattle.values.specs.Datum.{Datum}
use Rattle.values.specs.Order.{datum_cmp}
use Rattle.values.specs.OrderLaws.{datum_cmp_total, datum_cmp-IsAntisymmetric}
use Rattle.values.specs.Row.{Row}
use Rattle.btree.specs.declared.image.kind.TreeKind.TheVariants.{Index}
use Rattle.btree.specs.image.Pages.{Pages}
use Rattle.btree.specs.image.Shape.{HasShape, places_under}
use Rattle.btree.specs.image.Tree.{Place}
use Rattle.btree.proofs.KindLemmas.{one_entry}
use Rattle.btree.proofs.lemmas.image.ListLemmas.{cons_cases, in_head, in_tail, in_none}
use Rattle.btree.proofs.lemmas.image.PlaceLemmas.{sound}
use Rattle.btree_cursor.specs.cursor.Found.{agrees}
use Rattle.btree_cursor.specs.index_entries.Entries.{HasRecord}
use Rattle.btree_cursor.specs.key_ranges.Ranges.{key_cmp}
use Rattle.btree_cursor.proofs.lemmas.index_entries.EntryLemmas.{entry_at_place}
use Rattle.btree_cursor.proofs.lemmas.key_ranges.RunLemmas.{key_never}
use Rattle.schema_tables.specs.TableData.{IsKeyWithin, TableData}
use Rattle.records_tables.specs.primary_rows.Held.{StoresPrimaryRow, key_of_row}
use Rattle.records_tables.specs.primary_rows.Order.{key_order}
use Rattle.records_tables.proofs.lemmas.primary_rows.KeyLemmas.{key_first}
use Rattle.integrity_trees.specs.declared.tree_walk.counts.TreeCounts.{TreeCounts}
use Rattle.integrity_trees.specs.index_walk.Checked.{HasEntryValues}
use Rattle.integrity_trees.specs.index_walk.Widths.{key_of}
use Rattle.integrity_trees.specs.primary_walk.Checked.{IsKeyTree, widths_of}
use Rattle.integrity_trees.proofs.lemmas.entry_prefixes.ListLemmas.{get_of}
use Rattle.integrity_trees.proofs.lemmas.index_walk.ValueLemmas.{has_values}
use Rattle.integrity_trees.proofs.lemmas.primary_walk.RowLemmas.{one_values}
use Rattle.integrity_indexes.proofs.lemmas.index_rows.ListLemmas.{ascend_at}

-- ---- the one element of a list that passes a test

by_test : {P : Type 0} (b : Bool) → (b ≡ true → P) → (b ≡ false → P) → P
by_test true pass fail = pass refl
by_test false pass fail = fail refl

find_here : {X : Type 0} (p : X → Bool) (x : X) (xs : List X) → p x ≡ true → find p (x ∷ xs) ≡ Some x
find_here p x xs e = rw e refl

find_later : {X : Type 0} (p : X → Bool) (x : X) (xs : List X) → p x ≡ false → find p (x ∷ xs) ≡ find p xs
find_later p x xs e = rw e refl

no_truth : false ≡ true → ⊥
no_truth e = cc

find_only : {X : Type 0} (p : X → Bool) (xs : List X) (x : X) → Contains xs x → p x ≡ true → ((y : X) → Contains xs y → p y ≡ true → y ≡ x)
    → find p xs ≡ Some x
find_only p [] x h pass only = absurd (in_none x h)
find_only p (y ∷ xs) x h pass only = by_test (p y)
    (λ first. find_here p y xs first ∙ ap (λ (z : _). Some z) (only y (in_head y xs) first))
    (λ fails. find_later p y xs fails ∙ find_only p xs x
    (⊎_elim
    (λ (is : y ≡ x). let e : false ≡ true = sym fails ∙ ap p is ∙ pass in absurd (no_truth e))
    (λ (there : Contains xs x). there)
    (cons_cases y x xs h))
    pass (λ z there passes. only z (in_tail y z xs there) passes))

-- ---- a key and the entry that begins with it

equal_of : (o : Ordering) → is_eq o ≡ true → o ≡ Equal
equal_of Less e = let f : false ≡ true = e in cc
equal_of Equal e = refl
equal_of Greater e = let f : false ≡ true = e in cc

then_first : (o p : Ordering) → ordering_then o p ≡ Equal → o ≡ Equal
then_first Less p e = cc
then_first Equal p e = refl
then_first Greater p e = cc

then_next : (o p : Ordering) → ordering_then o p ≡ Equal → p ≡ Equal
then_next Less p e = cc
then_next Equal p e = e
then_next Greater p e = cc

begins_equal : (n : ℕ) (entry : List Datum) → key_cmp [] (take n entry) entry ≡ Equal
begins_equal zero entry = refl
begins_equal (suc n) [] = refl
begins_equal (suc n) (x ∷ entry) = rw (tied_itself datum_cmp_total x) (begins_equal n entry)

equal_begins : (key entry : List Datum) → key_cmp [] key entry ≡ Equal → take (length key) entry ≡ key
equal_begins [] entry e = refl
equal_begins (v ∷ key) [] e = cc
equal_begins (v ∷ key) (x ∷ entry) e =
    let first : v ≡ x = datum_cmp-IsAntisymmetric v x (then_first (datum_cmp v x) (key_cmp [] key entry) e) in
    let rest = equal_begins key entry (then_next (datum_cmp v x) (key_cmp [] key entry) e) in
    λ k. sym first k ∷ rest k

-- ---- the row of a table without rowids that has a key

module _ (pages : Pages) (table : TableData) (within : IsKeyWithin table.key (length table.columns)) (counts : TreeCounts)
    (tree : IsKeyTree pages table counts) where
  pub held : HasEntryValues pages (widths_of table) [] table.root
  held = has_values pages (widths_of table) [] table.root counts tree

  module _ (levels : ℕ) (shape : HasShape pages Index levels table.root) where
    abbrev places : List Place
    places = places_under pages Index levels table.root

    -- the key of a row is that of its entry
    key_at : (place : Place) → Contains places place → (row : Row) → StoresPrimaryRow pages table place row
        → key_of_row table row ≡ key_of (widths_of table) (held.values place)
    key_at place among row stores =
        let is = sound pages Index levels table.root shape place among in
        let has = (held.entries is.level place.page is.reaches is.page).each place.index is.within in
        let same = one_entry pages Index place stores.has.cell has.cell
        (entry_at_place pages stores.level place.page place.index stores.has.cell stores.page stores.has.is)
        (entry_at_place pages is.level place.page place.index has.cell is.page has.is) in
        let one = one_values pages has.cell stores.values (held.values place) (subst (λ c. HasRecord pages c stores.values) same stores.has.has) has.has in
        key_first table stores.values row within stores.makes ∙ ap (λ (v : List Datum). take (length (key_order table)) v) one

    less_of : (o : Ordering) → is_lt o ≡ true → o ≡ Less
    less_of Less e = refl
    less_of Equal e = let f : false ≡ true = e in cc
    less_of Greater e = let f : false ≡ true = e in cc

    -- no two entries have one key
    never_same : (i j : ℕ) (x y : Place) → i < j → slice_get places i ≡ Some x → slice_get places j ≡ Some y
        → key_of (widths_of table) (held.values x) ≡ key_of (widths_of table) (held.values y) → ⊥
    never_same i j x y less at_x at_y same =
        let key : Place → List Datum = λ place. key_of (widths_of table) (held.values place) in
        let before = less_of (key_cmp [] (key x) (key y)) (ascend_at [] key places i j x y (held.keys levels shape) less at_x at_y) in
        key_never [] (key y) (subst (λ (k : List Datum). key_cmp [] k (key y) ≡ Less) same before)

    one_place : (x y : Place) → Contains places x → Contains places y
        → key_of (widths_of table) (held.values x) ≡ key_of (widths_of table) (held.values y) → x ≡ y
    one_place x y in_x in_y same =
        let i = get_of places x in_x in
        let j = get_of places y in_y in
        ⊎_elim
        (λ (less : in_x.0 < in_y.0). absurd (never_same in_x.0 in_y.0 x y less i j same))
        (λ (most : in_y.0 ≤ in_x.0). ⊎_elim
        (λ (less : in_y.0 < in_x.0). absurd (never_same in_y.0 in_x.0 y x less j i (sym same)))
        (λ (least : in_x.0 ≤ in_y.0).
        let e : in_x.0 ≡ in_y.0 = omega arith in
        let f : Some x ≡ Some y = sym i ∙ ap (λ (k : ℕ). slice_get places k) e ∙ j in
        cc)
        (cases_lt in_y.0 in_x.0))
        (cases_lt in_x.0 in_y.0)

    -- the first entry that begins with the key of a row is that of the row
    pub first_with : (place : Place) → Contains places place → (row : Row) → StoresPrimaryRow pages table place row
        → find (λ at. agrees [] (key_of_row table row) (held.values at)) places ≡ Some place
    first_with place among row stores =
        let n = length (key_order table) in
        let key = key_of_row table row in
        let is : key ≡ take n (held.values place) = key_at place among row stores in
        let long : length key ≡ n = length-map (key_order table) _ in
        find_only (λ at. agrees [] key (held.values at)) places place among
        (subst (λ (k : List Datum). is_eq (key_cmp [] k (held.values place)) ≡ true) (sym is) (ap is_eq (begins_equal n (held.values place))))
        (λ other there agree.
        one_place other place there among
        (ap (λ (m : ℕ). take m (held.values other)) (sym long)
        ∙ equal_begins key (held.values other) (equal_of (key_cmp [] key (held.values other)) agree) ∙ is))
