-- The chain of a cell of a page, by the cell that is read there.
use Rattle.std.proofs.Common.{◌≡◌, ◌∙◌, ℕ, ◌-◌, ◌*◌, ◌<◌, length, Some, sym, ap, subst}
use Rattle.btree.specs.declared.image.kind.TreeKind.{TreeKind}
use Rattle.btree.specs.declared.image.kind.Level.{Level}
use Rattle.btree.specs.image.Cell.{CellData}
use Rattle.btree.specs.image.Chain.{chain_room}
use Rattle.btree.specs.image.Pages.{Pages}
use Rattle.btree.specs.image.Shape.{place_at}
use Rattle.btree.specs.image.Tree.{HasEntries, IsEntryAt, IsPageOf, count_at}
use Rattle.btree.specs.image.Use.{as_link, Names, Users, link_at}
use Rattle.btree.proofs.KindLemmas.{one_entry, one_page}

-- page m is link k of the chain of a cell
pub record IsLinkOf (pages : Pages) (k m : ℕ) (cell : CellData) : Type 0 where
  pub first : ℕ
  pub overflow : cell.payload.overflow ≡ Some first
  pub needed : k * chain_room pages < cell.payload.size - length cell.payload.local
  pub is : m ≡ link_at pages first k

module _ (pages : Pages) (users : Users) (kind : TreeKind) (level : Level) (n : ℕ) (page : IsPageOf pages kind level n) where
  pub link_within : (i k m : ℕ) → Names pages users (as_link n i k) m → i < count_at pages n
  link_within i k m names = names.1.place.within

  -- only a page with entries has chains
  pub link_entries : (i k m : ℕ) → Names pages users (as_link n i k) m → HasEntries kind level
  link_entries i k m names =
      let link = names.1 in
      let same = one_page pages n link.tree.kind link.place.level kind level link.place.page page in
      subst (λ (l : Level). HasEntries kind l) same.1 (subst (λ (t : TreeKind). HasEntries t link.place.level) same.0 link.place.entries)

  pub link_of_cell : (i k m : ℕ) (cell : CellData) → IsEntryAt pages kind (place_at n i) cell → Names pages users (as_link n i k) m → IsLinkOf pages k m cell
  link_of_cell i k m cell at names =
      let link = names.1 in
      let is_kind : link.tree.kind ≡ kind = (one_page pages n link.tree.kind link.place.level kind level link.place.page page).0 in
      let there : IsEntryAt pages kind (place_at n i) link.cell = subst (λ (t : TreeKind). IsEntryAt pages t (place_at n i) link.cell) is_kind link.at in
      let same : link.cell ≡ cell = one_entry pages kind (place_at n i) link.cell cell there at in
      record {
        first = link.first;
        overflow = ap (λ (c : CellData). c.payload.overflow) (sym same) ∙ link.overflow;
        needed = subst (λ (c : CellData). k * chain_room pages < c.payload.size - length c.payload.local) same link.needed;
        is = link.is;
      }
