-- Rows are as wide as the query, whatever the tables hold.
use Rattle.std.proofs.Common.{◌≡◌, List, length, All, ◌∙◌}
use Rattle.std.proofs.lemmas.List.{length-map}
use Rattle.std.proofs.lemmas.List.Elements.{All-map}
use Rattle.values.specs.Database.{Database}
use Rattle.values.specs.Datum.{Datum}
use Rattle.values.specs.Row.{Row}
use Rattle.values.specs.declared.value.Ty.{Ty}
use Rattle.expr.specs.Types.{HasType}
use Rattle.semantics.specs.Query.{Body, QueryData, Select, compound, select}
use Rattle.semantics.specs.Valuation.{Valuation, term_values}
use Rattle.semantics.specs.Body.{body_rows, results, rows_of, select_rows, values_over}
use Rattle.semantics.specs.Answer.{Permits}
use Rattle.semantics.specs.Typed.{BodyHasTypes, HasTypes, SelectHasTypes}
use Rattle.semantics.proofs.ElementLemmas.{All-combined, All-distinct, All-everywhere, length_all_zip}
use Rattle.semantics.proofs.TypedLemmas.{Permits-all}

abbrev IsWide : List Ty → Row → Type 0
IsWide types row = length row ≡ length types

results-wide : (value : Valuation) (w : Datum) (answers row : List Ty) (s : Select) (types : List Ty) → SelectHasTypes answers row s types → (rows : List Row)
    → All (IsWide types) (results value w s rows)
results-wide value w answers row s types typed rows =
    All-distinct (IsWide types) s.distinct _
    (All-map (IsWide types) (term_values value s.columns) _
    (All-everywhere (λ r. IsWide types (term_values value s.columns r))
    (λ r. length-map s.columns _ ∙ length_all_zip (HasType typed.0 answers) s.columns types typed.2) (select_rows value w s rows)))

module _ (w : Datum) (db : Database) (tables : List (List Ty)) where
  body_rows-wide : (body : Body) (types : List Ty) → BodyHasTypes tables body types → All (IsWide types) (body_rows w db body)
  body_rows-wide (select from s) types typed = results-wide (values_over w db from) w typed.0 typed.1 s types typed.4 (rows_of w db from)
  body_rows-wide (compound body operator from s) types typed =
      All-combined (IsWide types) operator _ _ (body_rows-wide body types typed.0)
      (results-wide (values_over w db from) w typed.1.0 typed.1.1 s types typed.1.4 (rows_of w db from))

  pub Permits-width : (query : QueryData) (types : List Ty) (rows : List Row) → HasTypes tables query types → Permits w db query rows
      → All (λ row. length row ≡ length types) rows
  Permits-width query types rows typed p = Permits-all (IsWide types) w db query rows (body_rows-wide query.body types typed.body) p
