-- The header of a page, and why a page has none.
use Rattle.std.proofs.Common.{◌≡◌, ℕ, ℤ, ◌+◌, ◌*◌, ◌-◌, ◌<◌, ◌≤◌, List, length, take, drop, min, refl, sym, ◌∙◌, ap, subst, arith}
use Rattle.std.proofs.lemmas.Bool.Decides.{nat_tests}
use Rattle.std.proofs.lemmas.List.{drop_min, take_rest}
use Rattle.pager.specs.Header.{field}
use Rattle.btree.specs.image.Cell.{CellData, IsIndexCell, IsTableCell}
use Rattle.btree.specs.declared.image.kind.TreeKind.{TreeKind}
use Rattle.btree.specs.declared.image.kind.TreeKind.TheVariants.{Table, Index}
use Rattle.btree.specs.declared.image.kind.Level.{Level}
use Rattle.btree.specs.declared.image.kind.Level.TheVariants.{Leaf, Interior}
use Rattle.btree.specs.image.Layout.{flag, flag_of, cell_count, cell_place, child, header_size, right_child, places_end}
use Rattle.btree.specs.image.Layout.{HasHeaderAt}
use Rattle.btree.specs.image.Cell.{FitsIn}
use Rattle.btree.specs.Bytes.{HasKeyOf, IsDividerCell, IsEntryCell, IsRowCell, child_size}

-- a flag tells the level
pub flag_of-same : (kind : TreeKind) (a b : Level) → flag_of kind a ≡ flag_of kind b → a ≡ b
flag_of-same kind Leaf Leaf e = refl
flag_of-same kind Interior Interior e = refl
flag_of-same Table Leaf Interior e = cc
flag_of-same Table Interior Leaf e = cc
flag_of-same Index Leaf Interior e = cc
flag_of-same Index Interior Leaf e = cc

module _ (at : ℕ) (kind : TreeKind) (page : List ℕ) where
  pub no_places : (level : Level) → flag at page ≡ flag_of kind level → length page < places_end at level page → (other : Level) → ¬ HasHeaderAt at kind other page
  no_places level is past other h =
      let same : other ≡ level = flag_of-same kind other level (sym h.flag_is ∙ is) in
      let places : places_end at level page ≤ length page = subst (λ (l : Level). places_end at l page ≤ length page) same h.places in
      omega arith

-- the right child stands in the header, a left child in its cell
pub child-right : (at : ℕ) (page : List ℕ) (i : ℕ) → i ≡ cell_count at page → child at page i ≡ field page (at + 8) 4
unfolding child right_child
child-right at page i is = grind (arith, nat_tests)

pub child-left : (at : ℕ) (page : List ℕ) (i : ℕ) → i < cell_count at page → child at page i ≡ field page (cell_place at Interior page i) 4
unfolding child
child-left at page i within = grind (arith, nat_tests)

-- a cell that begins before the end of the cell places, or that the bytes from its place on aren't
module _ (at most : ℕ) (page : List ℕ) (i from : ℕ) (is : from ≡ min (cell_place at Leaf page i) (length page)) where
  pub no_row : ((cell : CellData) → ¬ FitsIn most (IsTableCell (length page) (take (length page - from) (drop from page))) cell)
      → (cell : CellData) → ¬ IsRowCell at most page i cell
  no_row none cell h =
      let here : drop (cell_place at Leaf page i) page ≡ take (length page - from) (drop from page) =
      sym (drop_min (cell_place at Leaf page i) page) ∙ ap (λ (n : ℕ). drop n page) (sym is) ∙ sym (take_rest page from) in
      none cell (subst (λ (b : List ℕ). FitsIn most (IsTableCell (length page) b) cell) here h.is)

-- the same of an entry, which on an interior page stands behind the left child
module _ (at most : ℕ) (level : Level) (page : List ℕ) (i from : ℕ) (is : from ≡ min (cell_place at level page i + child_size level) (length page)) where
  entry_there : drop (cell_place at level page i + child_size level) page ≡ take (length page - from) (drop from page)
  entry_there = sym (drop_min (cell_place at level page i + child_size level) page) ∙ ap (λ (n : ℕ). drop n page) (sym is) ∙ sym (take_rest page from)

  pub no_entry : ((cell : CellData) → ¬ FitsIn most (IsIndexCell (length page) (take (length page - from) (drop from page))) cell)
      → (cell : CellData) → ¬ IsEntryCell at most level page i cell
  no_entry none cell h = none cell (subst (λ (b : List ℕ). FitsIn most (IsIndexCell (length page) b) cell) entry_there h.is)

-- what the reader of a header learns
module _ (at found : ℕ) (kind : TreeKind) (level : Level) (page : List ℕ) (size count : ℕ)
    (flag_is : found ≡ flag at page) (level_is : found ≡ flag_of kind level) (size_is : size ≡ header_size level) (count_is : count ≡ cell_count at page) where
  pub has_header : at + (size + 2 * count) ≤ length page → HasHeaderAt at kind level page
  has_header within = record { flag_is = sym flag_is ∙ level_is; places = omega (arith, size_is, count_is) }

  pub places_past : length page < at + (size + 2 * count) → (other : Level) → ¬ HasHeaderAt at kind other page
  places_past past = no_places at kind page level (sym flag_is ∙ level_is) (omega (arith, size_is, count_is))

-- a cell has a key exactly where it is there
module _ (at most : ℕ) (page : List ℕ) where
  pub no_leaf_key : (level : Level) (i : ℕ) → level ≡ Leaf → ((cell : CellData) → ¬ IsRowCell at most page i cell)
      → (key : ℤ) → ¬ HasKeyOf at most level page i key
  no_leaf_key Leaf i e none key h = none h.0 h.1
  no_leaf_key Interior i e none key h = absurd cc

  pub no_interior_key : (level : Level) (i : ℕ) → level ≡ Interior → ((key : ℤ) → ¬ IsDividerCell at page i key)
      → (key : ℤ) → ¬ HasKeyOf at most level page i key
  no_interior_key Leaf i e none key h = absurd cc
  no_interior_key Interior i e none key h = none key h
