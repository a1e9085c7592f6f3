-- The types of queries in which no other queries stand. (STRICT Tables)
use Rattle.std.specs.Prelude.{List, ◌++◌, length}
use Rattle.std.specs.List.{AllZip}
use Rattle.values.specs.Database.{Database}
use Rattle.values.specs.Datum.{Datum}
use Rattle.values.specs.declared.value.Ty.{Ty}
use Rattle.semantics.specs.Body.{SameTables}
use Rattle.semantics.specs.Query.{Body, QueryData}
use Rattle.semantics.specs.Typed.{BodyHasTypes, FitsCatalog, HasTypes, SourceHasTypes}
use Rattle.semantics_rewrites.specs.materialized_queries.Flat.{materialized_body, kept_of, with_kept}
use Rattle.semantics_rewrites.specs.materialized_queries.FlatWith.{AreAnswers, materialized_with}

-- The columns of the sources that are no tables have these types, over whose rows behind the tables the query without queries in it is
-- typed as the query.
pub record IsFlatTyped (w : Datum) (db : Database) (catalog : List (List Ty)) (of : Body) (types : List Ty) : Type 0 where
  pub kinds : List (List Ty)
  pub sources : AllZip (SourceHasTypes catalog) (kept_of of) kinds
  pub typed : BodyHasTypes (catalog ++ kinds) (materialized_body w db (length catalog) of) types
  pub fits : FitsCatalog (catalog ++ kinds) (with_kept w db (kept_of of))

-- The same of a whole query with its ORDER BY, with the values of its inner queries in whichever order, over rows in whichever order.
-- Where a column of these sources is NULL alone, expressions may take it for one type here and for another there.
pub record IsFlatQueryTyped (w : Datum) (db : Database) (catalog : List (List Ty)) (query : QueryData) (types : List Ty) : Type 0 where
  pub kinds : List (List Ty)
  pub sources : AllZip (SourceHasTypes catalog) (kept_of query.body) kinds
  pub typed : (answers : List (List Datum)) → AreAnswers w db query.body answers → HasTypes (catalog ++ kinds) (materialized_with answers (length catalog) query) types
  pub fits : (other : Database) → SameTables other (with_kept w db (kept_of query.body)) → FitsCatalog (catalog ++ kinds) other
