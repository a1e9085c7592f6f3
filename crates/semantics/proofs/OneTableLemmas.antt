-- Queries of columns of one table.
use Rattle.std.proofs.Common.{◌≡◌, ℕ, zero, suc, ◌<◌, List, [], ◌∷◌, ◌++◌, map, length, slice_get, slice_index_or, All, Some, refl, sym, ap, ◌∙◌, subst, inr, arith, append-nil, IsPermutation}
use Rattle.std.specs.List.{AllZip}
use Rattle.std.proofs.lemmas.List.Elements.{All-cons, All-head, All-nil, All-tail}
use Rattle.std.proofs.lemmas.List.Sorted.{IsPermutation-refl}
use Rattle.std.proofs.lemmas.Option.{slice_get_within}
use Rattle.values.specs.Database.{Database}
use Rattle.values.specs.Datum.{Datum}
use Rattle.values.specs.Row.{Row}
use Rattle.values.specs.declared.value.Ty.{Ty}
use Rattle.values.specs.declared.value.Ty.TheVariants.{Null}
use Rattle.expr.specs.Term.{column}
use Rattle.expr.specs.Types.{HasType}
use Rattle.semantics.specs.Query.{columns_of_table, of_columns, only, select, table}
use Rattle.semantics.specs.Sequence.{value_at}
use Rattle.semantics.specs.Valuation.{term_values, with_answers}
use Rattle.semantics.specs.Body.{body_rows}
use Rattle.semantics.specs.Typed.{CallHasType, IsKeyTerm}
use Rattle.semantics.specs.OneTable.{ScanBegins, ScanIsPermitted, ScanIsTyped, ScanNamesColumns, shown}
use Rattle.semantics.proofs.ScanLemmas.{Begins-unordered, scan_rows, unordered_permitted}

-- the values of columns are those at their places
columns_shown : (w : Datum) (places : List ℕ) (row : Row) → term_values (with_answers w []) (map column places) row ≡ shown places row
columns_shown w [] row = refl
columns_shown w (place ∷ places) row = ap (λ rest. value_at row place ∷ rest) (columns_shown w places row)

rows_shown : (w : Datum) (places : List ℕ) (rows : List Row) → map (term_values (with_answers w []) (map column places)) rows ≡ map (shown places) rows
rows_shown w places [] = refl
rows_shown w places (row ∷ rows) = λ i. columns_shown w places row i ∷ rows_shown w places rows i

scan_body : (w : Datum) (db : Database) (at width : ℕ) (places : List ℕ)
    → body_rows w db (select (only (table at width)) (of_columns (map column places))) ≡ map (shown places) (slice_index_or db.tables at [])
scan_body w db at width places = scan_rows w db (table at width) (map column places) ∙ rows_shown w places _

scan_same : (w : Datum) (db : Database) (at width : ℕ) (places : List ℕ)
    → IsPermutation (body_rows w db (columns_of_table at width places).body) (map (shown places) (slice_index_or db.tables at []))
scan_same w db at width places =
    subst (IsPermutation (body_rows w db (columns_of_table at width places).body)) (scan_body w db at width places) (IsPermutation-refl _)

pub scan_is_permitted : ScanIsPermitted
scan_is_permitted w db at width places =
    unordered_permitted w db (columns_of_table at width places) (map (shown places) (slice_index_or db.tables at [])) refl (scan_same w db at width places)

pub scan_begins : ScanBegins
scan_begins w db at width places given rest parts =
    Begins-unordered w db (columns_of_table at width places) (map (shown places) (slice_index_or db.tables at [])) given rest refl (scan_same w db at width places) parts

-- ---- types

type_at : (row : List Ty) (at : ℕ) → at < length row → slice_get row at ≡ Some (slice_index_or row at Null)
type_at [] at within = absurd (omega (arith, within))
type_at (ty ∷ row) zero within = refl
type_at (ty ∷ row) (suc at) within = type_at row at (omega (arith, within))

columns_typed : (row : List Ty) (places : List ℕ) → All (λ at. at < length row) places
    → AllZip (HasType row []) (map column places) (map (λ at. slice_index_or row at Null) places)
columns_typed row [] all = tt
columns_typed row (at ∷ places) all =
    ((slice_index_or row at Null, type_at row at (All-head (λ at. at < length row) at places all), inr refl), columns_typed row places (All-tail (λ at. at < length row) at places all))

pub scan_is_typed : ScanIsTyped
scan_is_typed catalog at width row places found wide within = (
  map (λ at. slice_index_or row at Null) places,
  record {
    body = (
      [],
      row,
      refl,
      ([], row, refl, (found, wide), refl, refl),
      (
        row,
        record { inputs = row; values = []; condition = refl; grouped = refl; windows = tt; types_are = sym (append-nil row) },
        columns_typed row places within,
      ),
    );
    order = All-nil (λ key. IsKeyTerm catalog (columns_of_table at width places).body (map (λ at. slice_index_or row at Null) places) key.by);
  },
)

columns_within : (computed : List Ty) (places : List ℕ) (types : List Ty) → AllZip (HasType computed []) (map column places) types → All (λ at. at < length computed) places
columns_within computed [] types all = All-nil (λ at. at < length computed)
columns_within computed (at ∷ places) [] all = absurd all
columns_within computed (at ∷ places) (ty ∷ types) all =
    All-cons (λ at. at < length computed) at places (slice_get_within computed at all.0.0 all.0.1) (columns_within computed places types all.1)

no_more : (inputs values : List Ty) (answers : List Ty) → AllZip (CallHasType answers inputs) [] values → values ≡ []
no_more inputs [] answers all = refl
no_more inputs (ty ∷ values) answers all = absurd all

some_one : (a b : List Ty) → Some a ≡ Some b → a ≡ b
some_one a b e = cc

pub scan_names_columns : ScanNamesColumns
scan_names_columns catalog at width row places (types, typed) found =
    let answers = typed.body.0 in
    let none : answers ≡ [] = typed.body.2 in
    let from = typed.body.3 in
    let computed = typed.body.4 in
    let same : from.1 ≡ row = some_one from.1 row (sym from.3.0 ∙ found) in
    let row_is : typed.body.1 ≡ row = from.4 ∙ (λ i. from.2 i ++ from.1) ∙ same in
    let inputs : computed.1.inputs ≡ row = computed.1.grouped ∙ row_is in
    let columns : computed.0 ≡ row =
    computed.1.types_are ∙ (λ i. inputs i ++ computed.1.values) ∙ (λ i. row ++ no_more computed.1.inputs computed.1.values answers computed.1.windows i)
    ∙ append-nil row in
    let named : AllZip (HasType computed.0 []) (map column places) types =
    subst (λ left. AllZip (HasType computed.0 left) (map column places) types) none computed.2 in
    (from.3.1 ∙ ap length same, subst (λ c. All (λ at. at < length c) places) columns (columns_within computed.0 places types named))
