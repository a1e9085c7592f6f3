-- A page is of one kind and of one level, and a place has one cell.
use Rattle.std.proofs.Common.{◌≡◌, ◌∙◌, ℕ, pos, List, drop, take, refl, sym, ap, subst}
use Rattle.records.proofs.VarintLemmas.{one_front}
use Rattle.btree.specs.declared.image.kind.TreeKind.{TreeKind}
use Rattle.btree.specs.declared.image.kind.TreeKind.TheVariants.{Table, Index}
use Rattle.btree.specs.declared.image.kind.Level.{Level}
use Rattle.btree.specs.declared.image.kind.Level.TheVariants.{Leaf, Interior}
use Rattle.btree.specs.image.Cell.{CellData, IsIndexCell, local_size, overflow_of}
use Rattle.btree.specs.image.Layout.{flag_of}
use Rattle.btree.specs.image.Pages.{Pages}
use Rattle.btree.specs.image.Tree.{IsEntryAt, IsPageOf, Place, entry_at}
use Rattle.btree.proofs.lemmas.image.CellLemmas.{one_cell}
use Rattle.btree.proofs.PageLemmas.{flag_of-same}

same_flag : (kind : TreeKind) (level : Level) (other : TreeKind) (beside : Level) → flag_of kind level ≡ flag_of other beside
    → (kind ≡ other) × (level ≡ beside)
same_flag Table Leaf Table Leaf e = (refl, refl)
same_flag Table Interior Table Interior e = (refl, refl)
same_flag Index Leaf Index Leaf e = (refl, refl)
same_flag Index Interior Index Interior e = (refl, refl)
same_flag Table Leaf Table Interior e = let f : ◌≡◌ {A = ℕ} 13 5 = e in absurd cc
same_flag Table Leaf Index Leaf e = let f : ◌≡◌ {A = ℕ} 13 10 = e in absurd cc
same_flag Table Leaf Index Interior e = let f : ◌≡◌ {A = ℕ} 13 2 = e in absurd cc
same_flag Table Interior Table Leaf e = let f : ◌≡◌ {A = ℕ} 5 13 = e in absurd cc
same_flag Table Interior Index Leaf e = let f : ◌≡◌ {A = ℕ} 5 10 = e in absurd cc
same_flag Table Interior Index Interior e = let f : ◌≡◌ {A = ℕ} 5 2 = e in absurd cc
same_flag Index Leaf Table Leaf e = let f : ◌≡◌ {A = ℕ} 10 13 = e in absurd cc
same_flag Index Leaf Table Interior e = let f : ◌≡◌ {A = ℕ} 10 5 = e in absurd cc
same_flag Index Leaf Index Interior e = let f : ◌≡◌ {A = ℕ} 10 2 = e in absurd cc
same_flag Index Interior Table Leaf e = let f : ◌≡◌ {A = ℕ} 2 13 = e in absurd cc
same_flag Index Interior Table Interior e = let f : ◌≡◌ {A = ℕ} 2 5 = e in absurd cc
same_flag Index Interior Index Leaf e = let f : ◌≡◌ {A = ℕ} 2 10 = e in absurd cc

pub one_page : (pages : Pages) (n : ℕ) (kind : TreeKind) (level : Level) (other : TreeKind) (beside : Level)
    → IsPageOf pages kind level n → IsPageOf pages other beside n → (kind ≡ other) × (level ≡ beside)
one_page pages n kind level other beside page too = same_flag kind level other beside (sym page.header.flag_is ∙ too.header.flag_is)

-- bytes begin with one cell of an index
module _ (usable : ℕ) (bytes : List ℕ) (a b : CellData) (one : IsIndexCell usable bytes a) (other : IsIndexCell usable bytes b) where
  sizes : (pos a.payload.size ≡ pos b.payload.size) × (one.size_length ≡ other.size_length)
  sizes = one_front bytes (pos a.payload.size) (pos b.payload.size) one.size_length other.size_length one.size_is other.size_is

  size_same : a.payload.size ≡ b.payload.size
  size_same = let e : pos a.payload.size ≡ pos b.payload.size = sizes.0 in cc

  body_same : drop one.size_length bytes ≡ drop other.size_length bytes
  body_same = ap (λ (k : ℕ). drop k bytes) sizes.1

  pub one_index_cell : a ≡ b
  one_index_cell = λ k. record {
    rowid = (one.no_rowid ∙ sym other.no_rowid) k;
    payload = record {
      size = size_same k;
      local = (one.payload.local_is ∙ (λ j. take (local_size Index usable (size_same j)) (body_same j)) ∙ sym other.payload.local_is) k;
      overflow = (one.payload.overflow_is ∙ (λ j. overflow_of Index usable (size_same j) (body_same j)) ∙ sym other.payload.overflow_is) k;
    };
  }

pub one_entry : (pages : Pages) (kind : TreeKind) (place : Place) (a b : CellData) → IsEntryAt pages kind place a → IsEntryAt pages kind place b → a ≡ b
one_entry pages Table place a b at too = one_cell pages place a b at too
one_entry pages Index place a b at too =
    let same : too.level ≡ at.level = flag_of-same Index too.level at.level (sym too.page.flag_is ∙ at.page.flag_is) in
    let here : IsIndexCell pages.usable (entry_at pages at.level place.page place.index) b =
    subst (λ (l : Level). IsIndexCell pages.usable (entry_at pages l place.page place.index) b) same too.is in
    one_index_cell pages.usable (entry_at pages at.level place.page place.index) a b at.is here
