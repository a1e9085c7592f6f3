-- From a query over the tables of a catalog with the schema's own behind them to the query over the catalog's.
use Rattle.std.proofs.Common.{◌≡◌, ℕ, List, [], ◌∷◌, length, sym, subst, ◌∙◌}
use Rattle.std.proofs.lemmas.List.{length-map, map-append}
use Rattle.values.specs.Database.{Database}
use Rattle.values.specs.Datum.{Datum}
use Rattle.values.specs.Row.{Row}
use Rattle.values.specs.declared.value.Ty.{Ty}
use Rattle.semantics.specs.Answer.{Permits}
use Rattle.semantics.specs.Hits.{Hits}
use Rattle.semantics.specs.Query.{QueryData}
use Rattle.semantics.specs.Typed.{FitTypes, FitsCatalog, IsTyped}
use Rattle.semantics.proofs.ElementLemmas.{length_all_zip}
use Rattle.semantics_rewrites.proofs.lemmas.schema_sources.HitLemmas.{with_schema_hits}
use Rattle.semantics_rewrites.proofs.lemmas.schema_sources.RowLemmas.{same_answers}
use Rattle.semantics_rewrites.proofs.lemmas.schema_sources.TypeLemmas.{fits_still, typed_still, typed_within}
use Rattle.semantics_rewrites.specs.schema_sources.Settled.{settled, types_with_schema, with_schema}
use Rattle.semantics_rewrites.specs.schema_sources.Within.{IsBodyWithin}
use Rattle.schema_tables.specs.table_copies.Whole.{all_tables}
use Rattle.schema_tables.specs.ColumnTypes.{column_types, types_of}
use Rattle.schema_tables.specs.TableData.{TableData, schema_table}
use Rattle.shell.specs.Prepared.{with_schema_over}

-- the types of their columns
types_are : (tables : List TableData) → column_types (all_tables tables) ≡ types_with_schema (column_types tables)
types_are tables = map-append types_of tables (schema_table ∷ [])

count_is : (tables : List TableData) → length (column_types tables) ≡ length tables
count_is tables = length-map tables types_of

pub typed_over : (tables : List TableData) (query : QueryData) → IsTyped (column_types tables) query → IsTyped (column_types (all_tables tables)) (with_schema_over tables query)
typed_over tables query typed =
    subst (λ (types : List (List Ty)). IsTyped types (with_schema_over tables query)) (sym (types_are tables))
    (subst (λ (n : ℕ). IsTyped (types_with_schema (column_types tables)) (settled n query)) (count_is tables)
    (typed.0, typed_still (column_types tables) query typed.0 typed.1))

pub fits_over : (tables : List TableData) (db : Database) → FitsCatalog (column_types tables) db → FitsCatalog (column_types (all_tables tables)) (with_schema db)
fits_over tables db fits = subst (λ (types : List (List Ty)). FitsCatalog types (with_schema db)) (sym (types_are tables)) (fits_still (column_types tables) db fits)

-- over a database with as many tables
module _ (tables : List TableData) (db : Database) (query : QueryData) (typed : IsTyped (column_types tables) query) (fits : FitsCatalog (column_types tables) db) where
  as_many : length tables ≡ length db.tables
  as_many = sym (count_is tables) ∙ length_all_zip FitTypes (column_types tables) db.tables fits.tables

  within : IsBodyWithin (length db.tables) query.body
  within = subst (λ (n : ℕ). IsBodyWithin n query.body) (count_is tables ∙ as_many) (typed_within (column_types tables) query typed)

  pub permits_over : (w : Datum) (rows : List Row) → Permits w (with_schema db) (with_schema_over tables query) rows → Permits w db query rows
  permits_over w rows permits =
      (same_answers w db query within rows).0 (subst (λ (n : ℕ). Permits w (with_schema db) (settled n query) rows) as_many permits)

  pub hits_over : (w : Datum) → Hits w (with_schema db) (with_schema_over tables query) → Hits w db query
  hits_over w hits = with_schema_hits w db query within (subst (λ (n : ℕ). Hits w (with_schema db) (settled n query)) as_many hits)
