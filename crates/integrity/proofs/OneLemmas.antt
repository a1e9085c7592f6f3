-- An image has one catalog.
use Rattle.std.proofs.Common.{◌≡◌, List, subst}
use Rattle.values.specs.Row.{Row}
use Rattle.values.specs.declared.fault.Fault.{Fault}
use Rattle.btree.specs.image.Pages.{Pages}
use Rattle.schema_tables.specs.TableData.{schema_table}
use Rattle.schema.proofs.LawLemmas.{no_broken_schema, one_catalog}
use Rattle.schema.specs.CatalogData.{CatalogData}
use Rattle.schema.specs.Refused.{IsBrokenSchema}
use Rattle.schema.specs.Says.{IsCatalog}
use Rattle.records_tables.specs.stored_rows.Stored.{HoldsRows}
use Rattle.records_tables.proofs.lemmas.stored_rows.OneLemmas.{one_rows}
use Rattle.integrity.specs.Denotes.{HasCatalog}

module _ (pages : Pages) where
  pub same_catalog : (rows others : List Row) (a b : CatalogData) → HasCatalog pages rows a → HasCatalog pages others b → a ≡ b
  same_catalog rows others a b p q =
      let same = one_rows pages schema_table rows others p.stored q.stored in
      one_catalog pages.count others a b (subst (λ (l : List Row). IsCatalog pages.count l a) same p.says) q.says

  -- what an image with a catalog hasn't
  module _ (rows : List Row) (catalog : CatalogData) (has : HasCatalog pages rows catalog) where
    pub sound_rows : (others : List Row) → HoldsRows pages schema_table others → (fault : Fault) → ¬ IsBrokenSchema pages.count others fault
    sound_rows others stored fault broken =
        let same = one_rows pages schema_table others rows stored has.stored in
        no_broken_schema pages.count rows catalog has.says fault
        (subst (λ (l : List Row). IsBrokenSchema pages.count l fault) same broken)
