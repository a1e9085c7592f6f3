-- Rows of tables alone say the catalog of these tables.
use Rattle.std.proofs.Common.{◌≡◌, ℕ, zero, suc, Contains, List, [], ◌∷◌, map, slice_get, Some, option_map, inl, refl, sym, ap, ◌∙◌, subst}
use Rattle.std.proofs.lemmas.Option.{slice_get-map}
use Rattle.std.specs.Char.{to_ascii_lowercase}
use Rattle.std.specs.List.{AllZip}
use Rattle.values.specs.Row.{Row}
use Rattle.schema_keys.specs.Names.{IsSameName}
use Rattle.schema_keys.specs.Rows.{AreTables, SaysTable}
use Rattle.schema_tables.specs.TableData.{TableData}
use Rattle.schema.proofs.KindLemmas.{object_of}
use Rattle.schema.proofs.TableLemmas.{row_name}
use Rattle.schema.proofs.ObjectLemmas.{one_name}
use Rattle.schema.specs.Objects.{ObjectData, object_row}
use Rattle.schema.specs.Picks.{Picks}
use Rattle.schema.specs.Says.{AreTablesOf, IsCatalog, IsNoIndex, IsOfKind, SaysAnyIndex}
use Rattle.schema.specs.Wanted.{WantsIndex}
use Rattle.schema_keys.specs.table_keys.Automatic.{AutomaticData}
use Rattle.schema.specs.declared.objects.Kind.TheVariants as k

module _ (pages : ℕ) where
  of_table : (row : Row) (t : TableData) → SaysTable pages row t → IsOfKind k.Table row
  of_table row t says = record { object = object_of says; row_is = says.row_is; kind_is = refl }

  all_tables : (rows : List Row) (tables : List TableData) → AllZip (SaysTable pages) rows tables → AreTablesOf pages rows tables
  all_tables [] [] said = Picks.end
  all_tables [] (t ∷ tables) said = absurd said
  all_tables (row ∷ rows) [] said = absurd said
  all_tables (row ∷ rows) (t ∷ tables) said = Picks.here said.0 (all_tables rows tables said.1)

  no_indexes : (all : List Row) (on : List TableData) (rows : List Row) (tables : List TableData) → AllZip (SaysTable pages) rows tables
      → Picks (SaysAnyIndex pages all on) IsNoIndex rows []
  no_indexes all on [] [] said = Picks.end
  no_indexes all on [] (t ∷ tables) said = absurd said
  no_indexes all on (row ∷ rows) [] said = absurd said
  no_indexes all on (row ∷ rows) (t ∷ tables) said = Picks.other (inl (of_table row t said.0)) (no_indexes all on rows tables said.1)

  -- the table of a row
  table_at : (rows : List Row) (tables : List TableData) (i : ℕ) (row : Row) → AllZip (SaysTable pages) rows tables
      → slice_get rows i ≡ Some row → (t : TableData) × (slice_get tables i ≡ Some t) × SaysTable pages row t
  table_at [] tables i row said at = absurd cc
  table_at (r ∷ rows) [] i row said at = absurd said
  table_at (r ∷ rows) (t ∷ tables) zero row said at =
      let same : r ≡ row = cc in (t, refl, subst (λ x. SaysTable pages x t) same said.0)
  table_at (r ∷ rows) (t ∷ tables) (suc i) row said at = table_at rows tables i row said.1 at

  has_name : (o : ObjectData) (t : TableData) → SaysTable pages (object_row o) t → IsSameName o.name t.name
  has_name o t says = ap (map to_ascii_lowercase) (one_name o (object_of says) says.row_is) ∙ row_name says

  name_at : (tables : List TableData) (i : ℕ) (t : TableData) → slice_get tables i ≡ Some t
      → slice_get (map (λ (t : TableData). t.name) tables) i ≡ Some t.name
  name_at tables i t at =
      slice_get-map (λ (t : TableData). t.name) tables i ∙ ap (option_map (λ (t : TableData). t.name)) at

  pub only_tables : (rows : List Row) (tables : List TableData) → AreTables pages rows tables
      → ((row : Row) (table : TableData) (automatic : AutomaticData) → Contains rows row → ¬ WantsIndex pages row table automatic)
      → IsCatalog pages rows (record { tables = tables; indexes = [] })
  only_tables rows tables are none = record {
    tables_are = all_tables rows tables are.said;
    indexes_are = no_indexes rows tables rows tables are.said;
    kept = λ row table automatic at wants. absurd (none row table automatic at wants);
    distinct = λ d.
        let a = table_at rows tables d.first (object_row d.one) are.said d.one_is in
        let b = table_at rows tables d.second (object_row d.other) are.said d.other_is in
        are.distinct d.first d.second a.0.name b.0.name d.before (name_at tables d.first a.0 a.1) (name_at tables d.second b.0 b.1)
        (sym (has_name d.one a.0 a.2) ∙ (d.same ∙ has_name d.other b.0 b.2));
  }
