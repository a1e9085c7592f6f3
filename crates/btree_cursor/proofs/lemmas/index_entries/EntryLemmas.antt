-- The entries of a page of an index that is read.
use Rattle.std.proofs.Common.{◌≡◌, ◌⊎◌, ◌+◌, ◌<◌, ◌≤◌, ℕ, List, drop, inl, inr, refl, sym, ◌∙◌, ap, subst, arith}
use Rattle.std.proofs.lemmas.List.{drop-drop}
use Rattle.values.specs.Datum.{Datum}
use Rattle.values.specs.declared.fault.Fault.{Fault}
use Rattle.values.specs.declared.fault.Fault.TheVariants.{NoMemory, BadChain, BadRecord, FloatValue, BadText}
use Rattle.pager.specs.Calls.{IsReadFault}
use Rattle.records.specs.Record.{IsRecord}
use Rattle.btree.specs.declared.image.kind.TreeKind.TheVariants.{Index}
use Rattle.btree.specs.declared.image.kind.Level.{Level}
use Rattle.btree.specs.declared.image.kind.Level.TheVariants.{Leaf, Interior}
use Rattle.btree.specs.image.Cell.{CellData, HasFitting, IsIndexCell}
use Rattle.btree.specs.image.Chain.{HasBytes}
use Rattle.btree.specs.image.Layout.{cell_count, cell_place, header_at}
use Rattle.btree.specs.image.Pages.{Pages}
use Rattle.btree.specs.image.Shape.{place_at}
use Rattle.btree.specs.image.Tree.{HasCell, IsEntryAt, IsPageOf, cell_at, count_at, entry_at}
use Rattle.btree.proofs.lemmas.image.ChainLemmas.{one_payload}
use Rattle.btree.specs.Bytes.{IsEntryCell, child_size}
use Rattle.btree.specs.ViewData.{ViewData}
use Rattle.btree.proofs.KindLemmas.{one_index_cell}
use Rattle.btree_cursor.specs.index_entries.Entries.{BreaksCell, BreaksEntry, BreaksRecord, HasBrokenChain, HasRecord, HasValues, IsEntryOn, IsViewIn}

-- an entry of a page of an index stands at its place
pub entry_at_place : (pages : Pages) (level : Level) (n i : ℕ) (cell : CellData) → IsPageOf pages Index level n → IsEntryOn pages level n i cell
    → IsEntryAt pages Index (place_at n i) cell
entry_at_place pages level n i cell page on = record { level = level; page = page.header; is = on.is; fits = on.fits }

-- the bytes of an entry, as its page has them
pub entry_bytes : (pages : Pages) (level : Level) (n i : ℕ)
    → drop (cell_place (header_at n) level (pages.page n) i + child_size level) (pages.page n) ≡ entry_at pages level n i
entry_bytes pages Leaf n i =
    ap (λ (k : ℕ). drop k (pages.page n)) (let e : cell_place (header_at n) Leaf (pages.page n) i + 0 ≡ cell_place (header_at n) Leaf (pages.page n) i = omega arith in e)
entry_bytes pages Interior n i = sym (drop-drop 4 (cell_place (header_at n) Interior (pages.page n) i) (pages.page n))

pub entry_cell : (pages : Pages) (level : Level) (n i : ℕ) → HasCell pages Index level (cell_at pages level n i)
    → HasFitting pages.size (IsIndexCell pages.usable (entry_at pages level n i))
entry_cell pages Leaf n i cell = cell
entry_cell pages Interior n i cell = cell

module _ (pages : Pages) (n : ℕ) (view : ViewData) (of : IsViewIn pages n view) where
  pub count_is : cell_count view.at view.page ≡ count_at pages n
  count_is = ap (λ (v : ViewData). cell_count v.at v.page) of.is

  module _ (most i : ℕ) (size : pages.size ≡ most) where
    -- an entry that is read is one of the page
    pub entry_on : (cell : CellData) → IsEntryCell view.at most view.level view.page i cell → IsEntryOn pages view.level n i cell
    entry_on cell entry =
        let here = subst (λ (v : ViewData). IsEntryCell v.at most view.level v.page i cell) of.is entry in
        record {
          is = subst (λ (b : List ℕ). IsIndexCell pages.usable b cell) (entry_bytes pages view.level n i)
              (subst (λ (u : ℕ). IsIndexCell u (drop (cell_place (header_at n) view.level (pages.page n) i + child_size view.level) (pages.page n)) cell) of.long here.is.is);
          fits = subst (λ (m : ℕ). cell.payload.size ≤ m) (sym size) here.is.fits;
        }

    -- where none is, the page isn't one of an index
    pub no_page : i < count_at pages n → ((cell : CellData) → ¬ IsEntryCell view.at most view.level view.page i cell) → ¬ IsPageOf pages Index view.level n
    no_page within none page =
        let there = entry_cell pages view.level n i (page.cells i within) in
        none there.0 (subst (λ (v : ViewData). IsEntryCell v.at most view.level v.page i there.0) (sym of.is) (record {
          begins = page.begins i within;
          is = record {
            is = subst (λ (u : ℕ). IsIndexCell u (drop (cell_place (header_at n) view.level (pages.page n) i + child_size view.level) (pages.page n)) there.0) (sym of.long)
                (subst (λ (b : List ℕ). IsIndexCell pages.usable b there.0) (sym (entry_bytes pages view.level n i)) there.1.is);
            fits = subst (λ (m : ℕ). there.0.payload.size ≤ m) size there.1.fits;
          };
        }))

    -- an entry that is read has the values of its place
    pub has_record : (cell : CellData) → IsEntryCell view.at most view.level view.page i cell → (values : List Datum) → HasValues pages view.level n i values → HasRecord pages cell values
    has_record cell entry values has =
        let same : has.cell ≡ cell = one_index_cell pages.usable (entry_at pages view.level n i) has.cell cell has.is.is (entry_on cell entry).is in
        subst (λ (c : CellData). HasRecord pages c values) same has.has

-- the bytes of a cell's payload
module _ (pages : Pages) (cell : CellData) where
  -- are a record of the values that it has
  pub record_read : (values : List Datum) (bytes found : List ℕ) → HasRecord pages cell values → HasBytes pages cell.payload bytes → found ≡ bytes → IsRecord found values
  record_read values bytes found has whole same =
      let one : has.bytes ≡ found = one_payload pages cell.payload has.bytes bytes has.whole whole ∙ sym same in
      subst (λ (b : List ℕ). IsRecord b values) one has.record_is

  pub has_chain : (values : List Datum) → HasRecord pages cell values → HasBrokenChain pages cell → ⊥
  has_chain values has none = none has.bytes has.whole

  -- a fault of its record is one of the cell
  pub record_broken : (n : ℕ) (bytes found : List ℕ) → HasBytes pages cell.payload bytes → found ≡ bytes → (e : Fault) → BreaksRecord found n e → IsReadFault e ⊎ BreaksCell pages n cell e
  record_broken n bytes found whole same NoMemory broken = inl (inr refl)
  record_broken n bytes found whole same (BadRecord m) broken = inr (broken.0, (found, subst (λ (b : List ℕ). HasBytes pages cell.payload b) (sym same) whole, broken.1))
  record_broken n bytes found whole same FloatValue broken = inr (found, subst (λ (b : List ℕ). HasBytes pages cell.payload b) (sym same) whole, broken)
  record_broken n bytes found whole same BadText broken = inr (found, subst (λ (b : List ℕ). HasBytes pages cell.payload b) (sym same) whole, broken)
  record_broken n bytes found whole same other broken = absurd broken

-- a fault of an entry's cell is one of its page's entries
pub cell_breaks : (pages : Pages) (level : Level) (n i : ℕ) (cell : CellData) → i < count_at pages n → IsEntryOn pages level n i cell → (e : Fault) → BreaksCell pages n cell e → BreaksEntry pages level n e
cell_breaks pages level n i cell within on (BadChain m) broken = (broken.0, record { i = i; cell = cell; within = within; is = on; such = broken.1 })
cell_breaks pages level n i cell within on (BadRecord m) broken = (broken.0, record { i = i; cell = cell; within = within; is = on; such = broken.1 })
cell_breaks pages level n i cell within on FloatValue broken = record { i = i; cell = cell; within = within; is = on; such = broken }
cell_breaks pages level n i cell within on BadText broken = record { i = i; cell = cell; within = within; is = on; such = broken }
cell_breaks pages level n i cell within on other broken = absurd broken
