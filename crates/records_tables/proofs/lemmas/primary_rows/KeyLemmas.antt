-- A row has the values of its record, and those of its key first.
use Rattle.std.proofs.Common.{◌≡◌, ◌∙◌, ◌<◌, ◌≤◌, ℕ, zero, suc, true, false, List, [], ◌∷◌, ◌++◌, Some, length, map, slice_get, slice_index_or, take, ap, refl, subst, sym, arith}
use Rattle.std.specs.List.{range_with_len}
use Rattle.values.specs.Datum.{Datum, null}
use Rattle.values.specs.Row.{Row}
use Rattle.schema_tables.specs.TableData.{IsKeyWithin, RowKeyData, TableData}
use Rattle.records_tables.proofs.lemmas.stored_rows.FilledLemmas.{filled_at}
use Rattle.records_tables.specs.primary_rows.Firsts.{firsts, has_number}
use Rattle.records_tables.specs.primary_rows.Order.{key_order, primary_of, record_order}
use Rattle.records_tables.specs.primary_rows.Rows.{IsPrimaryRow, told_values}
use Rattle.records_tables.proofs.lemmas.primary_rows.FirstLemmas.{below_all, firsts_append, in_front, only_firsts, place_at}
use Rattle.records_tables.proofs.lemmas.primary_rows.ToldLemmas.{found_at}

some_same : {A : Type 0} (x y : A) → Some x ≡ Some y → x ≡ y
some_same x y e = cc

pub row_has : (table : TableData) (values : List Datum) (row : Row) → IsPrimaryRow table values row → (p c : ℕ) (value : Datum)
    → slice_get (record_order table) p ≡ Some c → c < length table.columns → slice_get values p ≡ Some value → slice_get row c ≡ Some value
row_has table values row makes p c value stands within here =
    let place = place_at [] (primary_of table.key ++ range_with_len 0 (length table.columns)) p c stands in
    filled_at row (told_values table values) c value makes.told (found_at table values c within p value (sym place) here)

within_key : (key : RowKeyData) (count : ℕ) → IsKeyWithin key count → (c : ℕ) → has_number (primary_of key) c ≡ true → c < count
within_key (RowKeyData.Rowid place) count within c has = let e : false ≡ true = has in cc
within_key (RowKeyData.Primary places) count within c has = below_all count places within c has

got_or : (row : Row) (c : ℕ) (value : Datum) → slice_get row c ≡ Some value → slice_index_or row c null ≡ value
got_or [] c value e = cc
got_or (x ∷ row) zero value e = some_same x value e
got_or (x ∷ row) (suc c) value e = got_or row c value e

front_of : (f : ℕ → Datum) (order : List ℕ) (values : List Datum) → length order ≤ length values
    → ((p c : ℕ) (value : Datum) → slice_get order p ≡ Some c → slice_get values p ≡ Some value → f c ≡ value) → map f order ≡ take (length order) values
front_of f [] values few each = refl
front_of f (c ∷ order) [] few each = absurd (omega (arith, few))
front_of f (c ∷ order) (value ∷ values) few each =
    ap (λ (d : Datum). d ∷ map f order) (each 0 c value refl refl)
    ∙ ap (λ (l : List Datum). value ∷ l) (front_of f order values (omega (arith, few)) (λ p d v here there. each (suc p) d v here there))

-- the values of the key's columns are the first ones of the record
pub key_first : (table : TableData) (values : List Datum) (row : Row) → IsKeyWithin table.key (length table.columns) → IsPrimaryRow table values row
    → map (λ c. slice_index_or row c null) (key_order table) ≡ take (length (key_order table)) values
key_first table values row within makes = front_of (λ c. slice_index_or row c null) (key_order table) values makes.least
    (λ p c value here there.
    let places = primary_of table.key in
    let columns = range_with_len 0 (length table.columns) in
    let is_column : c < length table.columns = within_key table.key (length table.columns) within c (only_firsts [] places p c here) in
    let front : slice_get (record_order table) p ≡ Some c =
    subst (λ (l : List ℕ). slice_get l p ≡ Some c) (sym (firsts_append [] places columns)) (in_front (firsts [] places) (firsts ([] ++ firsts [] places) columns) p c here) in
    got_or row c value (row_has table values row makes p c value front is_column there))
