-- What the bytes of a page say of it within its tree.
use Rattle.std.proofs.Common.{◌≡◌, ℕ, ℤ, ◌+◌, ◌<◌, ◌≤◌, length, Option, Some, None, inl, inr, refl, sym, ◌∙◌, subst, arith}
use Rattle.values.specs.declared.fault.Fault.{Fault}
use Rattle.values.specs.declared.fault.Fault.TheVariants.{BadPage, BadOrder}
use Rattle.btree.specs.declared.image.kind.TreeKind.TheVariants.{Table}
use Rattle.btree.specs.declared.image.kind.Level.{Level}
use Rattle.btree.specs.declared.image.kind.Level.TheVariants.{Leaf, Interior}
use Rattle.btree.specs.image.Cell.{IsTableCell}
use Rattle.btree.specs.image.Layout.{header_at, cell_count, cell_place, places_end, HasHeaderAt}
use Rattle.btree.specs.image.Pages.{Pages}
use Rattle.btree.specs.image.Tree.{HasCell, IsPageOf, IsUnder, Reaches, cell_at, count_at}
use Rattle.btree.specs.image.Broken.{HasRowid, IsSound, IsRowOrder, IsBroken}
use Rattle.btree.proofs.lemmas.image.RowidLemmas.{one_rowid}
use Rattle.btree.proofs.PageLemmas.{flag_of-same}
use Rattle.values.specs.Bounds.{IsAbove, IsAtMost}
use Rattle.records_tables.specs.stored_rows.Keys.{HasKeyAt, HasCells, KeysFit, IsHeadFault}
use Rattle.integrity_trees.specs.table_walk.Walked.{StandsWithin}

module _ (pages : Pages) (n : ℕ) (long : length (pages.page n) ≡ pages.usable) where
  cell_here : (level : Level) (i : ℕ) (key : ℤ) → HasKeyAt (header_at n) pages.size (pages.page n) level i key
      → HasCell pages Table level (cell_at pages level n i)
  cell_here Leaf i key (cell, row, e) = (
    cell,
    record {
      is = subst (λ (u : ℕ). IsTableCell u (cell_at pages Leaf n i) cell) long row.is.is;
      fits = row.is.fits;
    },
  )
  cell_here Interior i key divider = (key, divider.is)

  rowid_here : (level : Level) (i : ℕ) (key : ℤ) → HasKeyAt (header_at n) pages.size (pages.page n) level i key → HasRowid pages level n i key
  rowid_here Leaf i key (cell, row, e) = (cell, subst (λ (u : ℕ). IsTableCell u (cell_at pages Leaf n i) cell) long row.is.is, e)
  rowid_here Interior i key divider = divider.is

  begins_here : (level : Level) (i : ℕ) (key : ℤ) → HasKeyAt (header_at n) pages.size (pages.page n) level i key
      → places_end (header_at n) level (pages.page n) ≤ cell_place (header_at n) level (pages.page n) i
  begins_here Leaf i key (cell, row, e) = row.begins
  begins_here Interior i key divider = divider.begins

  -- a page with a header and cells is a page of its kind
  pub is_page : (level : Level) → HasHeaderAt (header_at n) Table level (pages.page n) → HasCells (header_at n) pages.size (pages.page n) level
      → IsPageOf pages Table level n
  is_page level header cells = record {
    header = record { flag_is = header.flag_is; places = header.places };
    begins = λ i within. let here = cells i within in begins_here level i here.0 here.1;
    cells = λ i within. let here = cells i within in cell_here level i here.0 here.1;
  }

  key_there : (level : Level) (i : ℕ) → IsPageOf pages Table level n → i < count_at pages n
      → (key : ℤ) × HasKeyAt (header_at n) pages.size (pages.page n) level i key
  key_there Leaf i page within =
      let there = page.cells i within in (
        there.1.is.rowid,
        (
          there.0,
          record {
            begins = page.begins i within;
            is = record { is = subst (λ (u : ℕ). IsTableCell u (cell_at pages Leaf n i) there.0) (sym long) there.1.is; fits = there.1.fits };
          },
          there.1.is.has_rowid,
        ),
      )
  key_there Interior i page within = let there = page.cells i within in (there.0, record { begins = page.begins i within; is = there.1 })

  pub has_cells : (level : Level) → IsPageOf pages Table level n → HasCells (header_at n) pages.size (pages.page n) level
  has_cells level page i within = key_there level i page within

  rowid_there : (level : Level) (i : ℕ) (key : ℤ) → IsPageOf pages Table level n → i < count_at pages n → HasRowid pages level n i key
      → HasKeyAt (header_at n) pages.size (pages.page n) level i key
  rowid_there level i key page within has =
      let there = key_there level i page within in
      let same : there.0 ≡ key = one_rowid pages level n i there.0 key (rowid_here level i there.0 there.1) has in
      subst (λ (k : ℤ). HasKeyAt (header_at n) pages.size (pages.page n) level i k) same there.1

  -- what the bytes say of a page's keys is so of its rowids
  pub fit_here : (level : Level) (low high : Option ℤ) → IsPageOf pages Table level n
      → KeysFit (HasKeyAt (header_at n) pages.size (pages.page n) level) (cell_count (header_at n) (pages.page n)) low high
      → KeysFit (HasRowid pages level n) (count_at pages n) low high
  fit_here level low high page fit = record {
    ascends = λ i j x y less within hx hy. fit.ascends i j x y less within (rowid_there level i x page (omega arith) hx) (rowid_there level j y page within hy);
    above = λ i x within h. fit.above i x within (rowid_there level i x page within h);
    most = λ i x within h. fit.most i x within (rowid_there level i x page within h);
  }

  pub one_level : (level other : Level) → HasHeaderAt (header_at n) Table level (pages.page n) → IsPageOf pages Table other n → other ≡ level
  one_level level other header page = flag_of-same Table other level (sym page.header.flag_is ∙ header.flag_is)

  -- a page that is met, and isn't what it must be
  module _ (root depth : ℕ) (low high : Option ℤ) (met : StandsWithin pages root depth low high n) where
    pub no_header : ((level : Level) → ¬ HasHeaderAt (header_at n) Table level (pages.page n)) → IsBroken pages root (BadPage n)
    no_header none = ((depth, met.stands), λ sound. none sound.level (record { flag_is = sound.page.header.flag_is; places = sound.page.header.places }))

    at_low : (level : Level) (low : Option ℤ)
        → ((key : ℤ) → low ≡ Some key → (a i : ℕ) × Reaches pages Table root a × IsUnder pages Table a (i + 1) n × HasRowid pages Interior a i key)
        → IsPageOf pages Table level n → IsRowOrder pages root n → (j : ℕ) (x : ℤ) → j < count_at pages n → HasRowid pages level n j x → IsAbove low x
    at_low level None from page order j x within has = tt
    at_low level (Some key) from page order j x within has =
        let up = from key refl in order.above level up.0 up.1 j key x up.2 up.3 page within up.4 has

    at_high : (level : Level) (high : Option ℤ)
        → ((key : ℤ) → high ≡ Some key → (a i : ℕ) × Reaches pages Table root a × IsUnder pages Table a i n × (i < count_at pages a) × HasRowid pages Interior a i key)
        → IsPageOf pages Table level n → IsRowOrder pages root n → (j : ℕ) (x : ℤ) → j < count_at pages n → HasRowid pages level n j x → IsAtMost high x
    at_high level None from page order j x within has = tt
    at_high level (Some key) from page order j x within has =
        let up = from key refl in order.most level up.0 up.1 j key x up.2 up.3 up.4 page within up.5 has

    -- a page in order keeps the bounds that it is met with
    fits_from_order : (level : Level) → IsPageOf pages Table level n → IsRowOrder pages root n
        → KeysFit (HasKeyAt (header_at n) pages.size (pages.page n) level) (cell_count (header_at n) (pages.page n)) low high
    fits_from_order level page order = record {
      ascends = λ i j x y less within hx hy. order.ascends level i j x y page less within (rowid_here level i x hx) (rowid_here level j y hy);
      above = λ i x within h. at_low level low met.low_from page order i x within (rowid_here level i x h);
      most = λ i x within h. at_high level high met.high_from page order i x within (rowid_here level i x h);
    }

    pub head_fault : (level : Level) (fault : Fault) → HasHeaderAt (header_at n) Table level (pages.page n)
        → IsHeadFault (header_at n) pages.size (pages.page n) level root n low high fault → IsBroken pages root fault
    head_fault level (BadPage m) header (e, inl none) =
        subst (λ (k : ℕ). IsBroken pages root (BadPage k)) (sym e) (
          (depth, met.stands),
          λ (sound : IsSound pages Table root n).
              none (subst (λ (l : Level). HasCells (header_at n) pages.size (pages.page n) l) (one_level level sound.level header sound.page) (has_cells sound.level sound.page)),
        )
    head_fault level (BadPage m) header (e, inr (leaf, other, empty)) =
        subst (λ (k : ℕ). IsBroken pages root (BadPage k)) (sym e) (
          (depth, met.stands),
          λ (sound : IsSound pages Table root n).
              let some : 0 < count_at pages n = sound.filled (one_level level sound.level header sound.page ∙ leaf) other in absurd (omega arith),
        )
    head_fault level (BadOrder m) header (e, cells, not) =
        subst (λ (k : ℕ). IsBroken pages root (BadOrder k)) (sym e)
        ((depth, met.stands), λ order. not (fits_from_order level (is_page level header cells) order))
    head_fault level fault header h = absurd h
