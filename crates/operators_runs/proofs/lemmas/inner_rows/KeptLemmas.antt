-- Lists of rows behind the tables.
use Rattle.std.proofs.Common.{◌≡◌, ◌∙◌, All, Bool, ℕ, zero, suc, List, [], ◌∷◌, ◌++◌, Vec, Global, append-nil, length, map, slice_get, slice_index_or, take, Some, refl, sym, subst, arith}
use Rattle.std.specs.List.{AllZip}
use Rattle.std.proofs.lemmas.List.{length-map}
use Rattle.std.proofs.lemmas.List.Elements.{All-append, All-cons, All-nil}
use Rattle.values.specs.Row.{Row, rows_data}
use Rattle.values.specs.declared.value.Ty.{Ty}
use Rattle.values.specs.declared.value.Value.{Value}
use Rattle.pager.specs.declared.header.Header.{Header}
use Rattle.btree.specs.image.Pages.{Pages}
use Rattle.schema_tables.specs.ColumnTypes.{column_types, types_of}
use Rattle.schema_tables.specs.TableData.{TableData}
use Rattle.semantics.proofs.ElementLemmas.{AllZip-both, length_all_zip}
use Rattle.semantics.specs.Typed.{FitTypes}
use Rattle.operators_loops.specs.Basis.{Basis}
use Rattle.logical_plan_queries.specs.select_plans.Columns.{HasColumnsOf, HaveColumns}
use Rattle.operators_scan.specs.Coming.{HasRows, IsRooted}
use Rattle.logical_plan.specs.answers.Sources.{SourceData, of_rows, of_table, sources_of}
use Rattle.operators_runs.specs.inner_rows.InnerView.{kept_rows}
use Rattle.operators_runs.specs.inner_rows.Over.{AreSaid, KeptAreStored}
use Rattle.logical_plan.specs.Plan.{TreeSizes, table_size}

-- lists of rows as they are kept
abbrev pub Lists : Type 0
Lists = List (Vec (Vec Value Global) Global)

abbrev behind : Lists → List SourceData
behind kept = map (λ rows. of_rows (rows_data rows.items)) kept

alone : (tables : List TableData) → sources_of tables [] ≡ map of_table tables
alone tables = append-nil (map of_table tables)

some_same : {A : Type 0} (a b : A) → Some a ≡ Some b → a ≡ b
some_same a b e = cc

-- ---- their rows

module _ (pages : Pages) (local : Bool) where
  abbrev Holds : List (List Row) → List TreeSizes → ℕ → SourceData → Type 0
  Holds rows sizes at source = HasRows pages source local (slice_index_or rows at []) (table_size sizes at)

  kept_hold : (kept : Lists) (at : ℕ) (source : SourceData) → slice_get (behind kept) at ≡ Some source → Holds (kept_rows kept) [] at source
  kept_hold [] at source found = absurd cc
  kept_hold (rows ∷ kept) zero source found =
      subst (λ (s : SourceData). Holds (kept_rows (rows ∷ kept)) [] zero s) (some_same (of_rows (rows_data rows.items)) source found) (refl, refl)
  kept_hold (rows ∷ kept) (suc at) source found = kept_hold kept at source found

  abbrev no_sizes : List TreeSizes
  no_sizes = []

  take_none : (n : ℕ) → take n no_sizes ≡ no_sizes
  take_none zero = refl
  take_none (suc n) = refl

  all_hold : (tables : List TableData) (kept : Lists) (rows : List (List Row)) (sizes : List TreeSizes) → length rows ≡ length tables
      → ((at : ℕ) (source : SourceData) → slice_get (map of_table tables) at ≡ Some source → Holds rows sizes at source)
      → (at : ℕ) (source : SourceData) → slice_get (map of_table tables ++ behind kept) at ≡ Some source
      → Holds (rows ++ kept_rows kept) (take (length tables) sizes) at source
  all_hold [] kept [] sizes long stored at source found = kept_hold kept at source found
  all_hold [] kept (r ∷ rows) sizes long stored at source found = absurd (omega (arith, long))
  all_hold (t ∷ tables) kept [] sizes long stored at source found = absurd (omega (arith, long))
  all_hold (t ∷ tables) kept (r ∷ rows) [] long stored zero source found = stored zero source found
  all_hold (t ∷ tables) kept (r ∷ rows) (n ∷ sizes) long stored zero source found = stored zero source found
  all_hold (t ∷ tables) kept (r ∷ rows) [] long stored (suc at) source found =
      subst (λ (ns : List TreeSizes). Holds (rows ++ kept_rows kept) ns at source) (take_none (length tables))
      (all_hold tables kept rows [] (omega (arith, long)) (λ k s is. stored (suc k) s is) at source found)
  all_hold (t ∷ tables) kept (r ∷ rows) (n ∷ sizes) long stored (suc at) source found =
      all_hold tables kept rows sizes (omega (arith, long)) (λ k s is. stored (suc k) s is) at source found

-- as many lists of rows are said of the tables as there are
pub tables_count : (pages : Pages) (tables : List TableData) (on : Basis) → AreSaid pages tables on → length on.db.tables ≡ length tables
tables_count pages tables on said =
    sym (length_all_zip FitTypes (column_types tables) on.db.tables said.fits.tables) ∙ length-map tables types_of

pub kept_are_stored : KeptAreStored
kept_are_stored pages tables kept on plan said =
    all_hold pages on.local tables kept on.db.tables on.sizes (tables_count pages tables on said)
    (subst (λ (sources : List SourceData). (at : ℕ) (source : SourceData) → slice_get sources at ≡ Some source → Holds pages on.local on.db.tables on.sizes at source) (alone tables) said.stored)

-- ---- what else is known of them

pub kept_rooted : (header : Header) (tables : List TableData) (kept : Lists) → All (IsRooted header) (sources_of tables []) → All (IsRooted header) (sources_of tables kept)
kept_rooted header tables kept all =
    All-append (IsRooted header) (map of_table tables) (behind kept) (subst (All (IsRooted header)) (alone tables) all) (each kept)
  where
    each : (kept : Lists) → All (IsRooted header) (behind kept)
    each [] = All-nil _
    each (rows ∷ kept) = All-cons (IsRooted header) (of_rows (rows_data rows.items)) (behind kept) tt (each kept)

pub kept_have_columns : (catalog kinds : List (List Ty)) (tables : List TableData) (kept : Lists) → HaveColumns catalog (sources_of tables [])
    → length kinds ≡ length kept → HaveColumns (catalog ++ kinds) (sources_of tables kept)
kept_have_columns catalog kinds tables kept have long =
    AllZip-both HasColumnsOf catalog kinds (map of_table tables) (behind kept) (subst (HaveColumns catalog) (alone tables) have) (each kinds kept long)
  where
    each : (kinds : List (List Ty)) (kept : Lists) → length kinds ≡ length kept → AllZip HasColumnsOf kinds (behind kept)
    each [] [] long = tt
    each [] (rows ∷ kept) long = absurd (omega (arith, long))
    each (types ∷ kinds) [] long = absurd (omega (arith, long))
    each (types ∷ kinds) (rows ∷ kept) long = ((λ columns within. tt), each kinds kept (omega (arith, long)))
