-- What stands at a place, of tables and lists of rows behind them.
use Rattle.std.proofs.Common.{◌≡◌, ◌∙◌, ◌↔◌, ◌+◌, ◌-◌, ◌<◌, ◌≤◌, All, Bool, IsTrue, ℕ, zero, suc, List, [], ◌∷◌, Vec, Global, length, map, nat_lt, slice_get, None, Some, sym, ap, subst, arith}
use Rattle.std.proofs.lemmas.Bool.{lt-ltb, ltb-true}
use Rattle.std.proofs.lemmas.List.{length-append, length-map}
use Rattle.std.proofs.lemmas.Option.{slice_get_past, slice_get_within}
use Rattle.values.specs.declared.value.Value.{Value}
use Rattle.schema_tables.specs.TableData.{TableData}
use Rattle.logical_plan.specs.answers.Sources.{HasColumns, SourceData, of_rows, of_table, sources_of}
use Rattle.values.specs.Row.{rows_data}
use Rattle.logical_plan_queries.specs.plan_sources.Places.{HasPlace}

abbrev Lists : Type 0
Lists = List (Vec (Vec Value Global) Global)

some_same : {A : Type 0} (a b : A) → Some a ≡ Some b → a ≡ b
some_same a b e = cc

-- ---- a table

front_get : (tables : List TableData) (kept : Lists) (place : ℕ) (table : TableData) → slice_get tables place ≡ Some table
    → slice_get (sources_of tables kept) place ≡ Some (of_table table)
front_get [] kept place table found = absurd cc
front_get (here ∷ tables) kept zero table found = ap (λ (t : TableData). Some (of_table t)) (some_same here table found)
front_get (here ∷ tables) kept (suc place) table found = front_get tables kept place table found

module _ (tables : List TableData) (kept : Lists) (place : ℕ) (columns : List ℕ) where
  pub table_there : (table : TableData) → slice_get tables place ≡ Some table → (result : Bool)
      → IsTrue result ↔ All (λ at. at < length table.columns) columns → IsTrue result ↔ HasPlace (sources_of tables kept) place columns
  table_there table found result tells =
      let front = front_get tables kept place table found in (
        (λ yes. record {
          within = slice_get_within (sources_of tables kept) place (of_table table) front;
          has = λ source is. subst (λ (s : SourceData). HasColumns s columns) (some_same (of_table table) source (sym front ∙ is)) (tells.0 yes);
        }),
        (λ is. tells.1 (is.has (of_table table) front)),
      )

  -- ---- a list of rows

  any_columns : (kept : Lists) (place : ℕ) (source : SourceData) → slice_get (map (λ rows. of_rows (rows_data rows.items)) kept) place ≡ Some source → HasColumns source columns
  any_columns [] place source found = absurd cc
  any_columns (rows ∷ kept) zero source found =
      subst (λ (s : SourceData). HasColumns s columns) (some_same (of_rows (rows_data rows.items)) source found) tt
  any_columns (rows ∷ kept) (suc place) source found = any_columns kept place source found

  behind_columns : (tables : List TableData) (place : ℕ) (source : SourceData) → slice_get tables place ≡ None → slice_get (sources_of tables kept) place ≡ Some source
      → HasColumns source columns
  behind_columns [] place source none found = any_columns kept place source found
  behind_columns (here ∷ tables) zero source none found = absurd cc
  behind_columns (here ∷ tables) (suc place) source none found = behind_columns tables place source none found

  long : length (sources_of tables kept) ≡ length tables + length kept
  long = length-append (map of_table tables) (map (λ rows. of_rows (rows_data rows.items)) kept)
      ∙ (λ i. length-map tables of_table i + length-map kept (λ rows. of_rows (rows_data rows.items)) i)

  pub rows_there : length tables ≤ place → IsTrue (nat_lt (place - length tables) (length kept)) ↔ HasPlace (sources_of tables kept) place columns
  rows_there before =
      let none = slice_get_past tables place before in (
        (λ yes. record {
          within = let less : place - length tables < length kept = ltb-true (place - length tables) (length kept) yes in omega (arith, before, long, less);
          has = λ source is. behind_columns tables place source none is;
        }),
        (λ is. let within = is.within in lt-ltb (place - length tables) (length kept) (omega (arith, before, long, within))),
      )
