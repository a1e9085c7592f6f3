-- The bounds of what is under a child, as an interior page's bytes tell them.
use Rattle.std.proofs.Common.{◌≡◌, ℕ, ℤ, ◌<◌, List, Option, Some, None, refl}
use Rattle.std.specs.Prelude.{IfSome, IfNone}
use Rattle.btree.specs.declared.image.kind.Level.TheVariants.{Interior}
use Rattle.btree.specs.image.Layout.{cell_count, cell_place}
use Rattle.btree.specs.Bytes.{IsDividerCell, LacksChild}
use Rattle.btree.proofs.CellLemmas.{no_divider_inside}
use Rattle.records_tables.specs.stored_rows.Keys.{HasCells}

module _ (at most : ℕ) (page : List ℕ) (cells : HasCells at most page Interior) where
  found : (i : ℕ) (result : Option ℤ) → IfSome result (λ key. IsDividerCell at page i key)
      → IfNone result ((key : ℤ) → ¬ IsDividerCell at page i key) → (key : ℤ) × IsDividerCell at page i key
      → (key : ℤ) × (result ≡ Some key) × IsDividerCell at page i key
  found i None some none has = absurd (none has.0 has.1)
  found i (Some key) some none has = (key, refl, some)

  pub divider_is : (i : ℕ) (result : Option ℤ) → i < cell_count at page → IfSome result (λ key. IsDividerCell at page i key)
      → IfNone result ((key : ℤ) → ¬ IsDividerCell at page i key)
      → (key : ℤ) × (result ≡ Some key) × IsDividerCell at page i key
  divider_is i result within some none = found i result some none (cells i within)

  pub has_child : (i : ℕ) → i < cell_count at page → LacksChild at page i → ⊥
  has_child i within lacks =
      let here = cells i within in
      no_divider_inside at page i (cell_place at Interior page i) refl lacks.outside here.0 here.1
