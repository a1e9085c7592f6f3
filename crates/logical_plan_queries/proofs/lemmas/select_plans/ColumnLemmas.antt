-- Columns that a catalog's types say are those of the source at their place.
use Rattle.std.proofs.Common.{◌≡◌, ◌<◌, arith, All, ℕ, zero, suc, List, [], ◌∷◌, length, slice_get, Some, sym, subst}
use Rattle.std.proofs.lemmas.List.{length-map}
use Rattle.values.specs.declared.value.Ty.{Ty}
use Rattle.logical_plan.specs.answers.Sources.{HasColumns, SourceData}
use Rattle.logical_plan_queries.specs.select_plans.Columns.{HaveColumns, TablesHaveColumns}

some_same : {A : Type 0} (a b : A) → Some a ≡ Some b → a ≡ b
some_same a b e = cc

-- there is a source at this place, and it has these columns
abbrev pub IsColumnsAt : List SourceData → ℕ → List ℕ → Type 0
IsColumnsAt sources at columns = (at < length sources) × ((source : SourceData) → slice_get sources at ≡ Some source → HasColumns source columns)

pub columns_at : (catalog : List (List Ty)) (sources : List SourceData) → HaveColumns catalog sources → (at : ℕ) (row : List Ty) (read : List ℕ)
    → slice_get catalog at ≡ Some row → All (λ c. c < length row) read → IsColumnsAt sources at read
columns_at [] sources have at row read found within = absurd cc
columns_at (types ∷ catalog) [] have at row read found within = absurd have
columns_at (types ∷ catalog) (first ∷ sources) have zero row read found within = (
  omega arith,
  (λ source is.
      subst (λ (s : SourceData). HasColumns s read) (some_same first source is)
      (have.0 read (subst (λ (ts : List Ty). All (λ c. c < length ts) read) (sym (some_same types row found)) within))),
)
columns_at (types ∷ catalog) (first ∷ sources) have (suc at) row read found within =
    let rest = columns_at catalog sources have.1 at row read found within in
    let low = rest.0 in
    (omega (arith, low), rest.1)

pub tables_have_columns : TablesHaveColumns
tables_have_columns [] = tt
tables_have_columns (table ∷ tables) =
    ((λ columns within. subst (λ n. All (λ at. at < n) columns) (length-map table.columns (λ c. c.ty)) within), tables_have_columns tables)
