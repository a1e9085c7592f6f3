-- All entries under a page of an index.
use Rattle.std.proofs.Common.{◌≡◌, ◌∙◌, ◌+◌, ◌<◌, ◌≤◌, ℕ, zero, suc, Bool, true, false, Contains, IsTrue, List, [], ◌++◌, Option, length, take, length-take, refl, sym, ap, subst, arith, ⊎_elim}
use Rattle.std.proofs.lemmas.Bool.{cond-true, lt-ltb}
use Rattle.std.proofs.lemmas.List.Elements.{Contains-append_cases, Contains-append_left, Contains-append_right}
use Rattle.std.specs.Prelude.{ℤ}
use Rattle.values.specs.Row.{Row}
use Rattle.pager.specs.declared.header.Header.{Header}
use Rattle.pager.specs.Calls.{IsHeaderOf, IsPage}
use Rattle.pager.specs.Page.{page_of}
use Rattle.pager.specs.PagerState.{PagerState}
use Rattle.btree.specs.declared.image.kind.TreeKind.TheVariants.{Index}
use Rattle.btree.specs.declared.image.kind.Level.{Level}
use Rattle.btree.specs.declared.image.kind.Level.TheVariants.{Leaf, Interior}
use Rattle.btree.specs.image.Layout.{HasHeaderAt, header_at}
use Rattle.btree.specs.image.Pages.{Pages, pages_seen}
use Rattle.btree.specs.image.Shape.{HasShape, own_places, place_at, places_in, places_under}
use Rattle.btree.specs.image.Tree.{IsPageOf, Place, StandsAt, below, child_at, count_at}
use Rattle.btree.proofs.lemmas.image.ListLemmas.{from_fan, from_map, in_head, to_fan, to_map}
use Rattle.btree.proofs.lemmas.image.PlaceLemmas.{from_own}
use Rattle.btree.proofs.lemmas.image.ShapeLemmas.{shape_child}
use Rattle.btree.specs.ViewData.{IsViewOf, ViewData}
use Rattle.btree.proofs.SeenLemmas.{readable}
use Rattle.btree_cursor.specs.index_entries.Entries.{AreValuesOf}
use Rattle.integrity_trees.proofs.lemmas.index_walk.SeenLemmas.{one_flag}
use Rattle.integrity_trees.specs.wanted_entries.Bags.{Coded}
use Rattle.integrity_indexes.specs.index_batches.Placed.{IsAstray, IsPlaced, TellsPlaced}
use Rattle.integrity_indexes.specs.index_batches.Trees.{AllPlaced, HasAstray, IsTreePage, TellsAll}

-- ---- pages

-- a page of a tree is one of an index
pub page_of_shape : (pages : Pages) (height n : ℕ) → HasShape pages Index height n → (level : Level) × IsPageOf pages Index level n
page_of_shape pages zero n shape = (Leaf, shape)
page_of_shape pages (suc height) n shape = (Interior, shape.0)

-- which a leaf is only where no level is below it
pub height_of : (pages : Pages) (height n : ℕ) → HasShape pages Index height n → HasHeaderAt (header_at n) Index Interior (pages.page n)
    → (below : ℕ) × (height ≡ suc below)
height_of pages zero n shape header = let e : Leaf ≡ Interior = one_flag pages n Interior Leaf header shape in absurd cc
height_of pages (suc height) n shape header = (height, refl)

pub leaf_height : (pages : Pages) (height n : ℕ) → HasShape pages Index height n → HasHeaderAt (header_at n) Index Leaf (pages.page n) → height ≡ 0
leaf_height pages zero n shape header = refl
leaf_height pages (suc height) n shape header = let e : Interior ≡ Leaf = one_flag pages n Leaf Interior header shape.0 in absurd cc

module _ (pages : Pages) (values : Place → Row) (root height n : ℕ) (is : IsTreePage pages values root height n) where
  -- its entries have the values that they have at their places
  pub values_here : (level : Level) → HasHeaderAt (header_at n) Index level (pages.page n) → AreValuesOf pages values level n
  values_here level header =
      let page = page_of_shape pages height n is.shape in
      is.entries level n (is.depth, is.stands) (subst (λ (l : Level). IsPageOf pages Index l n) (one_flag pages n level page.0 header page.1) page.1)

-- a child stands in the tree too
pub child_page : (pages : Pages) (values : Place → Row) (root height n i m : ℕ) → IsTreePage pages values root (suc height) n → i ≤ count_at pages n
    → m ≡ child_at pages n i → IsTreePage pages values root height m
child_page pages values root height n i m is within child = record {
  depth = suc is.depth;
  stands = subst (λ (k : ℕ). StandsAt pages Index root (suc is.depth) k) (sym child) (below i is.stands (shape_child pages Index height n i is.shape within));
  shape = subst (λ (k : ℕ). HasShape pages Index height k) (sym child) (is.shape.1 i within).1;
  entries = is.entries;
}

-- a page that was read
module _ (pager : PagerState) (header : Header) (header_is : IsHeaderOf pager header) (n : ℕ) (bytes : List ℕ) (page : IsPage pager n bytes)
    (steady : IsTrue pager.source.steady) where
  usable_inside : header.usable ≤ length bytes
  usable_inside =
      let most : header.usable ≤ header.page_size = header_is.sound.usable_most in
      let size : header.page_size ≡ pager.header.page_size = ap (λ (h : Header). h.page_size) header_is.is in
      let long = page.long in
      omega (arith, long, size, most)

  used_is : take header.usable bytes ≡ (pages_seen pager).page n
  used_is = ap (λ (b : List ℕ). take header.usable b) (page.is steady) ∙ ap (λ (h : Header). take h.usable (page_of pager.source.bytes n)) header_is.is

  -- one of a tree shows it
  pub none_read : (height : ℕ) → HasShape (pages_seen pager) Index height n
      → (480 ≤ header.usable → header.usable ≤ 65536 → header.usable ≤ length bytes → (level : Level) → ¬ HasHeaderAt (header_at n) Index level (take header.usable bytes)) → ⊥
  none_read height shape none =
      let there = page_of_shape (pages_seen pager) height n shape in
      none header_is.sound.usable (readable header pager.source.bytes header_is.sound).most usable_inside there.0
      (subst (λ (b : List ℕ). HasHeaderAt (header_at n) Index there.0 b) (sym used_is) (record { flag_is = there.1.header.flag_is; places = there.1.header.places }))

  pub header_read : (view : ViewData) → IsViewOf Index n (take header.usable bytes) view → HasHeaderAt (header_at n) Index view.level ((pages_seen pager).page n)
  header_read view of = subst (λ (b : List ℕ). HasHeaderAt (header_at n) Index view.level b) used_is of.header

-- ---- their entries

module _ (batch : List Coded) (low high : Option ℤ) (columns : ℕ) (values : Place → Row) (pages : Pages) where
  abbrev pub IsPlacedAt : Place → Type 0
  IsPlacedAt place = IsPlaced batch low high columns (values place)

  -- all entries of a leaf
  pub leaf_placed : (n count : ℕ) → count ≡ count_at pages n → ((j : ℕ) → j < count → IsPlacedAt (place_at n j))
      → AllPlaced batch low high columns values (places_in pages n)
  leaf_placed n count is each place h =
      let r = from_map (place_at n) place (count_at pages n) 0 h in
      let within : r.0 < count = omega (arith, r.2, is) in
      subst IsPlacedAt r.3 (each r.0 within)

  pub leaf_astray : (n i : ℕ) → i < count_at pages n → IsAstray batch low high columns (values (place_at n i))
      → HasAstray batch low high columns values (places_in pages n)
  leaf_astray n i within astray = record {
    place = place_at n i;
    among = to_map (place_at n) (count_at pages n) 0 i (omega arith) (omega (arith, within));
    astray = astray;
  }

  -- the entry behind a child
  pub no_own : (n i : ℕ) → count_at pages n ≤ i → AllPlaced batch low high columns values (own_places pages n i)
  no_own n i past place h = let o = from_own pages n i place h in absurd (omega (arith, o.0, past))

  pub own_placed : (n i : ℕ) → IsPlacedAt (place_at n i) → AllPlaced batch low high columns values (own_places pages n i)
  own_placed n i here place h = let o = from_own pages n i place h in subst IsPlacedAt o.1 here

  in_own : (n i : ℕ) → i < count_at pages n → Contains (own_places pages n i) (place_at n i)
  in_own n i within = subst (λ (l : List Place). Contains l (place_at n i)) (sym (cond-true _ _ _ (lt-ltb i (count_at pages n) within))) (in_head (place_at n i) [])

  pub own_astray : (n i : ℕ) → i < count_at pages n → IsAstray batch low high columns (values (place_at n i))
      → HasAstray batch low high columns values (own_places pages n i)
  own_astray n i within astray = record { place = place_at n i; among = in_own n i within; astray = astray }

  -- what is under a child, and the entry behind it
  abbrev pub branch : ℕ → ℕ → ℕ → List Place
  branch height n i = places_under pages Index height (child_at pages n i) ++ own_places pages n i

  pub branch_placed : (height n i : ℕ) → AllPlaced batch low high columns values (places_under pages Index height (child_at pages n i))
      → AllPlaced batch low high columns values (own_places pages n i) → AllPlaced batch low high columns values (branch height n i)
  branch_placed height n i under own place h =
      ⊎_elim (λ a. under place a) (λ b. own place b) (Contains-append_cases (places_under pages Index height (child_at pages n i)) (own_places pages n i) place h)

  -- a page's branches are all that is under it
  pub page_placed : (height n count : ℕ) → count ≡ suc (count_at pages n) → ((j : ℕ) → j < count → AllPlaced batch low high columns values (branch height n j))
      → AllPlaced batch low high columns values (places_under pages Index (suc height) n)
  page_placed height n count is each place h =
      let r = from_fan (branch height n) place (suc (count_at pages n)) 0 h in
      let within : r.0 < count = omega (arith, r.2, is) in
      each r.0 within place r.3

  in_page : (height n i : ℕ) → i ≤ count_at pages n → (place : Place) → Contains (branch height n i) place → Contains (places_under pages Index (suc height) n) place
  in_page height n i within place h = to_fan (branch height n) place (suc (count_at pages n)) 0 i (omega arith) (omega (arith, within)) h

  pub under_astray : (height n i : ℕ) → i ≤ count_at pages n → HasAstray batch low high columns values (places_under pages Index height (child_at pages n i))
      → HasAstray batch low high columns values (places_under pages Index (suc height) n)
  under_astray height n i within has = record {
    place = has.place;
    among = in_page height n i within has.place (Contains-append_left (places_under pages Index height (child_at pages n i)) (own_places pages n i) has.place has.among);
    astray = has.astray;
  }

  pub behind_astray : (height n i : ℕ) → i ≤ count_at pages n → HasAstray batch low high columns values (own_places pages n i)
      → HasAstray batch low high columns values (places_under pages Index (suc height) n)
  behind_astray height n i within has = record {
    place = has.place;
    among = in_page height n i within has.place (Contains-append_right (places_under pages Index height (child_at pages n i)) (own_places pages n i) has.place has.among);
    astray = has.astray;
  }

  -- what a test of one entry tells of those behind a child
  pub own_tells : (n i : ℕ) → i < count_at pages n → (told : Bool) → TellsPlaced batch low high columns told (values (place_at n i))
      → TellsAll batch low high columns values (own_places pages n i) told
  own_tells n i within true here = own_placed n i here
  own_tells n i within false astray = own_astray n i within astray
