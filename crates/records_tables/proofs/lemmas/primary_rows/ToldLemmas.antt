-- What is in the columns of a record's row.
use Rattle.std.proofs.Common.{◌≡◌, ◌⊎◌, ◌<◌, ◌≤◌, ◌+◌, ℕ, zero, suc, List, [], ◌∷◌, Option, Some, length, map, slice_get, slice_index_or, refl, sym, ◌∙◌, ap, subst, ⊎_elim, arith}
use Rattle.std.proofs.lemmas.Option.{slice_get-get_or, slice_get_past, slice_get_within}
use Rattle.std.proofs.lemmas.List.FromFn.{get_or-map-range_with_len, length-map-range_with_len}
use Rattle.std.proofs.lemmas.List.{length-map}
use Rattle.values.specs.Datum.{Datum}
use Rattle.schema_tables.specs.TableData.{ColumnData, MissingData, TableData}
use Rattle.records_tables.specs.stored_rows.Stored.{Fits, FitsColumn}
use Rattle.records_tables.proofs.lemmas.stored_rows.FilledLemmas.{filled_at}
use Rattle.records_tables.proofs.lemmas.stored_rows.RowLemmas.{all_from_each, each_more, each_of_all}
use Rattle.records_tables.specs.primary_rows.Firsts.{place_of}
use Rattle.records_tables.specs.primary_rows.Order.{record_order, record_places}
use Rattle.records_tables.specs.primary_rows.Rows.{column_told, missing_in, told_by, told_values}

some_same : {A : Type 0} (x y : A) → Some x ≡ Some y → x ≡ y
some_same x y e = cc

missing_is : (columns : List ColumnData) (c : ℕ) (column : ColumnData) → slice_get columns c ≡ Some column
    → slice_index_or (map (λ c. c.missing) columns) c MissingData.Refused ≡ column.missing
missing_is [] c column here = cc
missing_is (first ∷ columns) zero column here = ap (λ (c : ColumnData). c.missing) (some_same first column here)
missing_is (first ∷ columns) (suc c) column here = missing_is columns c column here

-- the place of a column
pub long_places : (table : TableData) (places : List ℕ) → places ≡ record_places table → length places ≡ length table.columns
long_places table places are =
    ap length are ∙ length-map-range_with_len (place_of (record_order table)) 0 (length table.columns)

pub place_in : (table : TableData) (places : List ℕ) (c place : ℕ) → places ≡ record_places table → slice_get places c ≡ Some place
    → place ≡ place_of (record_order table) c
place_in table places c place are here =
    let n = length table.columns in
    let f = place_of (record_order table) in
    let there : slice_get (record_places table) c ≡ Some place = subst (λ (l : List ℕ). slice_get l c ≡ Some place) are here in
    let long : length (record_places table) ≡ n = length-map-range_with_len f 0 n in
    let within : c < n = let w = slice_get_within (record_places table) c place there in omega (arith, w, long) in
    some_same place (f c) (sym there ∙ slice_get-get_or (record_places table) c 0 (omega (arith, within, long))
    ∙ ap (λ (k : ℕ). Some k) (get_or-map-range_with_len f 0 n c c 0 within (omega arith)))

module _ (table : TableData) (values : List Datum) where
  pub long_told : length (told_values table values) ≡ length table.columns
  long_told = length-map-range_with_len (column_told table values) 0 (length table.columns)

  module _ (c : ℕ) (within : c < length table.columns) where
    pub told_here : slice_get (told_values table values) c ≡ Some (column_told table values c)
    told_here =
        slice_get-get_or (told_values table values) c (column_told table values c) (omega (arith, within, long_told))
        ∙ ap (λ (m : MissingData). Some m)
        (get_or-map-range_with_len (column_told table values) 0 (length table.columns) c c (column_told table values c) within (omega arith))

    -- the column of a place that the record has
    pub found_at : (place : ℕ) (value : Datum) → place ≡ place_of (record_order table) c → slice_get values place ≡ Some value
        → slice_get (told_values table values) c ≡ Some (MissingData.Fill value)
    found_at place value is here =
        told_here ∙ ap (λ (o : Option Datum). Some (told_by o (missing_in table c))) (ap (λ (k : ℕ). slice_get values k) (sym is) ∙ here)

    -- and of one that it lacks
    pub lacking_at : (place : ℕ) (column : ColumnData) → place ≡ place_of (record_order table) c → length values ≤ place → slice_get table.columns c ≡ Some column
        → slice_get (told_values table values) c ≡ Some column.missing
    lacking_at place column is past here =
        told_here ∙ ap (λ (o : Option Datum). Some (told_by o (missing_in table c))) (ap (λ (k : ℕ). slice_get values k) (sym is) ∙ slice_get_past values place past)
        ∙ ap (λ (m : MissingData). Some m) (missing_is table.columns c column here)

-- ---- a row whose columns are all known

-- what fills a column is of it
abbrev pub FitsFilled : ColumnData → MissingData → Type 0
FitsFilled column missing = (value : Datum) → missing ≡ MissingData.Fill value → FitsColumn column value

abbrev pub AreKnown : List MissingData → ℕ → Type 0
AreKnown told n = (k : ℕ) → k < n → (value : Datum) × (slice_get told k ≡ Some (MissingData.Fill value))

abbrev pub AreFit : List ColumnData → List MissingData → ℕ → Type 0
AreFit columns told n = (k : ℕ) (column : ColumnData) (missing : MissingData) → k < n → slice_get columns k ≡ Some column → slice_get told k ≡ Some missing
    → FitsFilled column missing

pub known_more : (told : List MissingData) (n : ℕ) (value : Datum) → slice_get told n ≡ Some (MissingData.Fill value) → AreKnown told n → AreKnown told (n + 1)
known_more told n value here known k within = ⊎_elim
    (λ (less : k < n). known k less)
    (λ (same : k ≡ n). (value, subst (λ (j : ℕ). slice_get told j ≡ Some (MissingData.Fill value)) (sym same) here))
    (less_or k n within)
  where
    less_or : (k n : ℕ) → k < n + 1 → (k < n) ⊎ (k ≡ n)
    less_or k n within = grind arith

fill_same : (x y : Datum) → MissingData.Fill x ≡ MissingData.Fill y → x ≡ y
fill_same x y e = cc

pub fit_more : (columns : List ColumnData) (told : List MissingData) (n : ℕ) (column : ColumnData) (value : Datum) → slice_get columns n ≡ Some column
    → slice_get told n ≡ Some (MissingData.Fill value) → FitsColumn column value → AreFit columns told n → AreFit columns told (n + 1)
fit_more columns told n column value is_column is_value now so_far =
    each_more FitsFilled columns told n column (MissingData.Fill value) is_column is_value
    (λ other e. subst (λ (v : Datum). FitsColumn column v) (fill_same value other e) now) so_far

pub fit_before : (columns : List ColumnData) (told : List MissingData) (n : ℕ) → AreFit columns told (n + 1) → AreFit columns told n
fit_before columns told n all k column missing within here there = all k column missing (omega (arith, within)) here there

pub fit_last : (columns : List ColumnData) (told : List MissingData) (n : ℕ) (column : ColumnData) (value : Datum) → slice_get columns n ≡ Some column
    → slice_get told n ≡ Some (MissingData.Fill value) → AreFit columns told (n + 1) → FitsColumn column value
fit_last columns told n column value is_column is_value all = all n column (MissingData.Fill value) (omega arith) is_column is_value value refl

-- the row of what is told
filled : (told : List MissingData) → AreKnown told (length told) → (row : List Datum) × (map MissingData.Fill row ≡ told)
filled [] known = ([], refl)
filled (m ∷ told) known =
    let first = known 0 (omega arith) in
    let rest = filled told (λ k within. known (suc k) (omega (arith, within))) in
    let same : m ≡ MissingData.Fill first.0 = some_same m (MissingData.Fill first.0) first.1 in
    (first.0 ∷ rest.0, ap (λ (x : MissingData). x ∷ map MissingData.Fill rest.0) (sym same) ∙ ap (λ (l : List MissingData). m ∷ l) rest.1)

module _ (table : TableData) (values : List Datum) where
  pub row_of : AreKnown (told_values table values) (length table.columns) → (row : List Datum) × (map MissingData.Fill row ≡ told_values table values)
  row_of known = filled (told_values table values) (λ k within. known k (let l = long_told table values in omega (arith, within, l)))

  module _ (row : List Datum) (is : map MissingData.Fill row ≡ told_values table values) where
    pub long_row : length row ≡ length table.columns
    long_row = sym (length-map row MissingData.Fill) ∙ ap length is ∙ long_told table values

    -- what is told of a column is in the row
    told_of : (k : ℕ) (value : Datum) → slice_get row k ≡ Some value → slice_get (told_values table values) k ≡ Some (MissingData.Fill value)
    told_of k value here = subst (λ (l : List MissingData). slice_get l k ≡ Some (MissingData.Fill value)) is (mapped row k here)
      where
        mapped : (row : List Datum) (k : ℕ) → slice_get row k ≡ Some value → slice_get (map MissingData.Fill row) k ≡ Some (MissingData.Fill value)
        mapped [] k here = cc
        mapped (x ∷ row) zero here = ap (λ (d : Datum). Some (MissingData.Fill d)) (some_same x value here)
        mapped (x ∷ row) (suc k) here = mapped row k here

    pub fits_of : AreFit table.columns (told_values table values) (length table.columns) → Fits table row
    fits_of all = all_from_each FitsColumn table.columns row long_row
        (λ k column value within here there. all k column (MissingData.Fill value) within here (told_of k value there) value refl)

    pub fit_of : Fits table row → AreFit table.columns (told_values table values) (length table.columns)
    fit_of fits k column missing within here there value e =
        each_of_all FitsColumn table.columns row k column value fits here
        (filled_at row (told_values table values) k value is (there ∙ ap (λ (m : MissingData). Some m) e))
