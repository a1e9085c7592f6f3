-- The example of a table's tree, computed.
use Rattle.std.specs.Prelude.{◌≡◌, ◌<◌, ◌≤◌, ◌<ℤ◌, ◌≤ℤ◌, ◌⊎◌, ◌+◌, ℕ, ℤ, zero, suc, negsuc, pos, [], ◌∷◌, refl}
use Rattle.std.proofs.Common.{inl, inr, ⊎_elim, subst, sym, ◌∙◌, lit<, lit≤, arith}
use Rattle.std.proofs.lemmas.Int.{ints}
use Rattle.std.proofs.lemmas.List.Elements.{All-nil, All-cons}
use Rattle.pager.specs.Header.{field}
use Rattle.records.specs.Varint.{GoesOn, IsVarint}
use Rattle.btree.specs.declared.image.kind.TreeKind.TheVariants.{Table}
use Rattle.btree.specs.declared.image.kind.Level.{Level}
use Rattle.btree.specs.declared.image.kind.Level.TheVariants.{Leaf, Interior}
use Rattle.btree.specs.image.Pages.{IsNumber}
use Rattle.btree.specs.image.Layout.{flag, cell_count, cell_place, child, right_child}
use Rattle.btree.specs.image.Cell.{IsTableCell}
use Rattle.btree.specs.image.Examples.{table_pages, table_root, left_leaf, right_leaf, left_bytes, right_bytes, left_cell, right_cell}
use Rattle.btree.specs.image.Tree.{HasCell, IsPageOf, IsChild, StandsAt, top, below, Reaches, IsUnder, cell_at, child_at, count_at}
use Rattle.btree.specs.image.Shape.{place_at, places_under}
use Rattle.btree.specs.image.Broken.{IsSound, HasRowid, IsRowOrder}
use Rattle.btree.specs.image.Sound.{IsSoundTree, IsSoundTable}
use Rattle.btree.proofs.lemmas.image.Worked.{minus_three, three_hundred}
use Rattle.btree.proofs.lemmas.image.RowidLemmas.{one_rowid}
use Rattle.btree.proofs.lemmas.image.ShapeLemmas.{not_both, one_level}

size_304 : IsVarint (130 ∷ 48 ∷ []) (pos 304)
size_304 = record {
  bits = 304;
  spelt = inl (record { front = 130 ∷ []; last = 48; parts = refl; at_most_eight = lit< tt; go_on = All-cons GoesOn 130 [] (lit≤ tt) (All-nil GoesOn); ends = lit< tt; number = refl });
  signed = refl;
}

root_count : count_at table_pages 2 ≡ 1
unfolding cell_count field
root_count = refl

left_count : count_at table_pages 3 ≡ 1
unfolding cell_count field
left_count = refl

right_count : count_at table_pages 4 ≡ 1
unfolding cell_count field
right_count = refl

left_child : child_at table_pages 2 0 ≡ 3
unfolding child cell_count cell_place right_child field
left_child = refl

last_child : child_at table_pages 2 1 ≡ 4
unfolding child cell_count cell_place right_child field
last_child = refl

left_is : IsTableCell 512 left_bytes left_cell
unfolding field
left_is = record {
  rowid = negsuc 2;
  size_length = 2;
  rowid_length = 9;
  size_is = record { within = lit≤ tt; is = size_304 };
  rowid_is = record { within = lit≤ tt; is = minus_three };
  has_rowid = refl;
  payload = record { within = lit≤ tt; local_is = refl; overflow_is = refl };
}

right_is : IsTableCell 512 right_bytes right_cell
unfolding field
right_is = record {
  rowid = pos 300;
  size_length = 2;
  rowid_length = 2;
  size_is = record { within = lit≤ tt; is = size_304 };
  rowid_is = record { within = lit≤ tt; is = three_hundred };
  has_rowid = refl;
  payload = record { within = lit≤ tt; local_is = refl; overflow_is = refl };
}

left_at : cell_at table_pages Leaf 3 0 ≡ left_bytes
unfolding cell_place field
left_at = refl

right_at : cell_at table_pages Leaf 4 0 ≡ right_bytes
unfolding cell_place field
right_at = refl

root_key : HasRowid table_pages Interior 2 0 (negsuc 2)
unfolding cell_place field
root_key = record { length = 9; key_is = record { within = lit≤ tt; is = minus_three } }

left_key : HasRowid table_pages Leaf 3 0 (negsuc 2)
left_key = (left_cell, rw left_at left_is, refl)

right_key : HasRowid table_pages Leaf 4 0 (pos 300)
right_key = (right_cell, rw right_at right_is, refl)

one_cell : (P : ℕ → Type 0) → P 0 → (i : ℕ) → i < 1 → P i
one_cell P first zero h = first
one_cell P first (suc i) h = absurd (omega arith)

root_page : IsPageOf table_pages Table Interior 2
unfolding cell_place cell_count flag field
root_page = record {
  header = record { flag_is = refl; places = lit≤ tt };
  begins = one_cell (λ i. 14 ≤ cell_place 0 Interior table_root i) (lit≤ tt);
  cells = one_cell (λ i. HasCell table_pages Table Interior (cell_at table_pages Interior 2 i)) (negsuc 2, root_key);
}

left_page : IsPageOf table_pages Table Leaf 3
unfolding cell_place cell_count flag field
left_page = record {
  header = record { flag_is = refl; places = lit≤ tt };
  begins = one_cell (λ i. 10 ≤ cell_place 0 Leaf left_leaf i) (lit≤ tt);
  cells = one_cell (λ i. HasCell table_pages Table Leaf (cell_at table_pages Leaf 3 i)) (left_cell, record { is = rw left_at left_is; fits = lit≤ tt });
}

right_page : IsPageOf table_pages Table Leaf 4
unfolding cell_place cell_count flag field
right_page = record {
  header = record { flag_is = refl; places = lit≤ tt };
  begins = one_cell (λ i. 10 ≤ cell_place 0 Leaf right_leaf i) (lit≤ tt);
  cells = one_cell (λ i. HasCell table_pages Table Leaf (cell_at table_pages Leaf 4 i)) (right_cell, record { is = rw right_at right_is; fits = lit≤ tt });
}

pub table_places : places_under table_pages Table 1 2 ≡ place_at 3 0 ∷ place_at 4 0 ∷ []
unfolding child cell_count cell_place right_child field
table_places = refl

-- where the pages stand

leaf_alone : (c : ℕ) → IsPageOf table_pages Table Leaf c → {depth m : ℕ} → StandsAt table_pages Table c depth m → m ≡ c
leaf_alone c leaf top = refl
leaf_alone c leaf (below {n} i stands kid) =
    absurd (not_both table_pages Table c leaf (subst (λ (k : ℕ). IsPageOf table_pages Table Interior k) (leaf_alone c leaf stands) kid.interior))

-- child 0 is page 3, child 1 is page 4, and the root has no other
abbrev IsBranchAt : ℕ → ℕ → Type 0
IsBranchAt i m = ((i ≡ 0) × (m ≡ 3)) ⊎ ((i ≡ 1) × (m ≡ 4))

child_cases : (i m : ℕ) → i ≤ 1 → child_at table_pages 2 i ≡ m → IsBranchAt i m
child_cases zero m within e = inl (refl, sym e ∙ left_child)
child_cases (suc zero) m within e = inr (refl, sym e ∙ last_child)
child_cases (suc (suc i)) m within e = absurd (omega arith)

root_child : (i m : ℕ) → IsChild table_pages Table 2 i m → IsBranchAt i m
root_child i m kid = let within : i ≤ count_at table_pages 2 = kid.within in child_cases i m (let e = root_count in omega arith) kid.is

abbrev StandsIn : ℕ → ℕ → Type 0
StandsIn depth n = ((depth ≡ 1) × (n ≡ 2)) ⊎ ((depth ≡ 2) × ((n ≡ 3) ⊎ (n ≡ 4)))

not_interior : (n : ℕ) → (n ≡ 3) ⊎ (n ≡ 4) → IsPageOf table_pages Table Interior n → ⊥
not_interior n (inl e) page = not_both table_pages Table 3 left_page (subst (λ (k : ℕ). IsPageOf table_pages Table Interior k) e page)
not_interior n (inr e) page = not_both table_pages Table 4 right_page (subst (λ (k : ℕ). IsPageOf table_pages Table Interior k) e page)

branch_leaf : (i m : ℕ) → IsBranchAt i m → (m ≡ 3) ⊎ (m ≡ 4)
branch_leaf i m (inl e) = inl e.1
branch_leaf i m (inr e) = inr e.1

next_in : (depth n i m : ℕ) → StandsIn depth n → IsChild table_pages Table n i m → StandsIn (suc depth) m
next_in depth n i m (inl at) kid =
    let d : suc depth ≡ 2 = omega (arith, at.0) in
    inr (d, branch_leaf i m (root_child i m (subst (λ (k : ℕ). IsChild table_pages Table k i m) at.1 kid)))
next_in depth n i m (inr at) kid = absurd (not_interior n at.1 kid.interior)

stands_in : {depth n : ℕ} → StandsAt table_pages Table 2 depth n → StandsIn depth n
stands_in top = inl (refl, refl)
stands_in (below {depth} {n} {m} i stands kid) = next_in depth n i m (stands_in stands) kid

-- an interior page is the root
interior_root : (a : ℕ) → Reaches table_pages Table 2 a → IsPageOf table_pages Table Interior a → a ≡ 2
interior_root a reaches page = ⊎_elim
    (λ (at : (reaches.0 ≡ 1) × (a ≡ 2)). at.1)
    (λ (at : (reaches.0 ≡ 2) × ((a ≡ 3) ⊎ (a ≡ 4))). absurd (not_interior a at.1 page))
    (stands_in reaches.1)

under_branch : (i head m : ℕ) → IsBranchAt i head → Reaches table_pages Table head m → IsBranchAt i m
under_branch i head m (inl e) reaches =
    inl (e.0, leaf_alone 3 left_page (subst (λ (k : ℕ). StandsAt table_pages Table k reaches.0 m) e.1 reaches.1))
under_branch i head m (inr e) reaches =
    inr (e.0, leaf_alone 4 right_page (subst (λ (k : ℕ). StandsAt table_pages Table k reaches.0 m) e.1 reaches.1))

under_root : (i m : ℕ) → IsUnder table_pages Table 2 i m → IsBranchAt i m
under_root i m under = under_branch i under.head m (root_child i under.head under.is) under.reaches

-- each page is sound

level_differs : Leaf ≡ Interior → ⊥
level_differs e = cc

root_sound : IsSound table_pages Table 2 2
root_sound = record {
  level = Interior;
  page = root_page;
  children = λ _ i within. number i (child_at table_pages 2 i) (child_cases i (child_at table_pages 2 i) (let e = root_count in omega arith) refl);
  filled = λ e same. absurd (level_differs (sym e));
}
  where
    number : (i m : ℕ) → IsBranchAt i m → IsNumber table_pages m
    number i m (inl e) = let is = e.1 in (omega arith, omega arith)
    number i m (inr e) = let is = e.1 in (omega arith, omega arith)

left_sound : IsSound table_pages Table 2 3
left_sound = record {
  level = Leaf;
  page = left_page;
  children = λ e i within. absurd (level_differs e);
  filled = λ _ _. let e = left_count in omega arith;
}

right_sound : IsSound table_pages Table 2 4
right_sound = record {
  level = Leaf;
  page = right_page;
  children = λ e i within. absurd (level_differs e);
  filled = λ _ _. let e = right_count in omega arith;
}

page_sound : (depth n : ℕ) → StandsIn depth n → IsSound table_pages Table 2 n
page_sound depth n (inl at) = subst (λ (k : ℕ). IsSound table_pages Table 2 k) (sym at.1) root_sound
page_sound depth n (inr (d, inl e)) = subst (λ (k : ℕ). IsSound table_pages Table 2 k) (sym e) left_sound
page_sound depth n (inr (d, inr e)) = subst (λ (k : ℕ). IsSound table_pages Table 2 k) (sym e) right_sound

-- leaves stand at depth 2
leaf_depth : (depth n : ℕ) → StandsIn depth n → IsPageOf table_pages Table Leaf n → depth ≡ 2
leaf_depth depth n (inl at) leaf = absurd (not_both table_pages Table 2 (subst (λ (k : ℕ). IsPageOf table_pages Table Leaf k) at.1 leaf) root_page)
leaf_depth depth n (inr at) leaf = at.0

shallow_in : (depth n : ℕ) → StandsIn depth n → depth ≤ 2
shallow_in depth n (inl at) = omega (arith, at.0)
shallow_in depth n (inr at) = omega (arith, at.0)

table_tree : IsSoundTree table_pages Table 2
table_tree = record {
  each = λ n reaches. page_sound reaches.0 n (stands_in reaches.1);
  even = λ u.
      let one = leaf_depth u.depth u.one (stands_in u.one_at) u.one_leaf in
      let other = leaf_depth u.deeper u.other (stands_in u.other_at) u.other_leaf in
      omega (arith, u.differ);
  shallow = λ d. let most = shallow_in d.depth d.page (stands_in d.stands) in omega (arith, d.deep);
}

-- and in order

single : (n i j : ℕ) → count_at table_pages n ≡ 1 → i < j → j < count_at table_pages n → ⊥
single n i j one less most = omega arith

one_each : (depth n : ℕ) → StandsIn depth n → count_at table_pages n ≡ 1
one_each depth n (inl at) = subst (λ (k : ℕ). count_at table_pages k ≡ 1) (sym at.1) root_count
one_each depth n (inr (d, inl e)) = subst (λ (k : ℕ). count_at table_pages k ≡ 1) (sym e) left_count
one_each depth n (inr (d, inr e)) = subst (λ (k : ℕ). count_at table_pages k ≡ 1) (sym e) right_count

key_at_root : (i : ℕ) (x : ℤ) → i ≡ 0 → HasRowid table_pages Interior 2 i x → x ≡ negsuc 2
key_at_root i x e key = one_rowid table_pages Interior 2 0 x (negsuc 2) (subst (λ (k : ℕ). HasRowid table_pages Interior 2 k x) e key) root_key

abbrev HasRowidOf : Level → ℕ → ℕ → ℤ → Type 0
HasRowidOf level n j y = IsPageOf table_pages Table level n × (j < count_at table_pages n) × HasRowid table_pages level n j y

key_at_leaf : (m : ℕ) (known : ℤ) → IsPageOf table_pages Table Leaf m → count_at table_pages m ≡ 1
    → HasRowid table_pages Leaf m 0 known
    → (level : Level) (n j : ℕ) (y : ℤ) → n ≡ m → HasRowidOf level n j y → y ≡ known
key_at_leaf m known leaf count key level n j y e h =
    let page = subst (λ (k : ℕ). IsPageOf table_pages Table level k) e h.0 in
    let within : j < count_at table_pages m = subst (λ (k : ℕ). j < count_at table_pages k) e h.1 in
    let zero_is : j ≡ 0 = omega arith in
    let at_m = subst (λ (k : ℕ). HasRowid table_pages level k j y) e h.2 in
    let at_leaf = subst (λ (l : Level). HasRowid table_pages l m j y) (one_level table_pages Table level Leaf m page leaf) at_m in
    one_rowid table_pages Leaf m 0 y known (subst (λ (k : ℕ). HasRowid table_pages Leaf m k y) zero_is at_leaf) key

most_at : (i n : ℕ) → i < 1 → IsBranchAt i n → (level : Level) (j : ℕ) (x y : ℤ) → HasRowid table_pages Interior 2 i x
    → HasRowidOf level n j y → y ≤ℤ x
most_at i n less (inr e) level j x y key_x key_y = absurd (let one = e.0 in omega arith)
most_at i n less (inl e) level j x y key_x key_y =
    let x_is = key_at_root i x e.0 key_x in
    let y_is = key_at_leaf 3 (negsuc 2) left_page left_count left_key level n j y e.1 key_y in
    rw (x_is, y_is) (omega (arith, ints))

above_at : (i n : ℕ) → IsBranchAt (i + 1) n → (level : Level) (j : ℕ) (x y : ℤ) → HasRowid table_pages Interior 2 i x
    → HasRowidOf level n j y → x <ℤ y
above_at i n (inl e) level j x y key_x key_y = absurd (let none = e.0 in omega arith)
above_at i n (inr e) level j x y key_x key_y =
    let first : i ≡ 0 = omega (arith, e.0) in
    let x_is = key_at_root i x first key_x in
    let y_is = key_at_leaf 4 (pos 300) right_page right_count right_key level n j y e.1 key_y in
    rw (x_is, y_is) (omega (arith, ints))

at_root : (a i n : ℕ) → a ≡ 2 → IsUnder table_pages Table a i n → IsBranchAt i n
at_root a i n e under = under_root i n (subst (λ (k : ℕ). IsUnder table_pages Table k i n) e under)

table_order : (n : ℕ) → Reaches table_pages Table 2 n → IsRowOrder table_pages 2 n
table_order n reaches = record {
  ascends = λ level i j x y page less most key_x key_y. absurd (single n i j (one_each reaches.0 n (stands_in reaches.1)) less most);
  most = λ level a i j x y reach_a under less page within key_x key_y.
      let is = interior_root a reach_a under.is.interior in
      let first : i < 1 = subst (λ (k : ℕ). i < k) root_count (subst (λ (k : ℕ). i < count_at table_pages k) is less) in
      most_at i n first (at_root a i n is under) level j x y (subst (λ (k : ℕ). HasRowid table_pages Interior k i x) is key_x) (page, within, key_y);
  above = λ level a i j x y reach_a under page within key_x key_y.
      let is = interior_root a reach_a under.is.interior in
      above_at i n (at_root a (i + 1) n is under) level j x y (subst (λ (k : ℕ). HasRowid table_pages Interior k i x) is key_x) (page, within, key_y);
}

pub table_sound : IsSoundTable table_pages 2
table_sound = record { tree = table_tree; order = table_order }
