-- A page of an index as its bytes were read.
use Rattle.std.proofs.Common.{◌≡◌, ◌≢◌, ℕ, pos, ◌+◌, ◌<◌, ◌≤◌, IsTrue, List, drop, length, take, length-drop, length-take, refl, sym, ◌∙◌, ap, subst, arith}
use Rattle.values.specs.declared.fault.Fault.TheVariants.{BadPage}
use Rattle.pager.specs.declared.header.Header.{Header}
use Rattle.pager.specs.Calls.{IsHeaderOf, IsPage}
use Rattle.pager.specs.Page.{page_of}
use Rattle.pager.specs.PagerState.{PagerState, image_size}
use Rattle.btree.specs.declared.image.kind.TreeKind.TheVariants.{Index}
use Rattle.btree.specs.declared.image.kind.Level.{Level}
use Rattle.btree.specs.declared.image.kind.Level.TheVariants.{Leaf, Interior}
use Rattle.btree.specs.image.Broken.{IsSound}
use Rattle.btree.specs.image.Cell.{CellData, HasFitting, IsIndexCell}
use Rattle.btree.specs.image.Layout.{HasHeaderAt, cell_count, cell_place, child, header_at}
use Rattle.btree.specs.image.Pages.{IsNumber, Pages, pages_seen}
use Rattle.btree.specs.image.Tree.{HasCell, IsPageOf, Reaches, cell_at, child_at, count_at, entry_at}
use Rattle.btree.specs.Bytes.{IsEntryCell, LacksChild, child_size}
use Rattle.btree.specs.ViewData.{IsViewOf, ViewData}
use Rattle.btree.proofs.CellLemmas.{begins_some}
use Rattle.btree.proofs.PageLemmas.{flag_of-same}
use Rattle.btree.proofs.SeenLemmas.{readable}
use Rattle.btree_cursor.specs.index_entries.Entries.{IsViewIn}
use Rattle.btree_cursor.proofs.lemmas.index_entries.EntryLemmas.{count_is, entry_bytes, entry_cell, entry_on}
use Rattle.integrity_trees.specs.index_walk.Broken.{IsBrokenTree}
use Rattle.integrity_trees.specs.index_walk.Walked.{HasAllEntries, IsIndexPage}

cell_entry : (pages : Pages) (level : Level) (n i : ℕ) → HasFitting pages.size (IsIndexCell pages.usable (entry_at pages level n i))
    → HasCell pages Index level (cell_at pages level n i)
cell_entry pages Leaf n i cell = cell
cell_entry pages Interior n i cell = cell

-- a page is sound only at the level that its flag tells
pub one_flag : (pages : Pages) (n : ℕ) (level other : Level) → HasHeaderAt (header_at n) Index level (pages.page n) → IsPageOf pages Index other n → other ≡ level
one_flag pages n level other header page = flag_of-same Index other level (sym page.header.flag_is ∙ header.flag_is)

module _ (pages : Pages) (n : ℕ) (view : ViewData) (of : IsViewIn pages n view) (most : ℕ) (size : pages.size ≡ most) where
  -- what is on a page of an index stands there
  pub entries_there : IsPageOf pages Index view.level n → HasAllEntries view most
  entries_there page i less =
      let within : i < count_at pages n = omega (arith, less, count_is pages n view of) in
      let there = entry_cell pages view.level n i (page.cells i within) in (
        there.0,
        subst (λ (v : ViewData). IsEntryCell v.at most view.level v.page i there.0) (sym of.is) (record {
          begins = page.begins i within;
          is = record {
            is = subst (λ (u : ℕ). IsIndexCell u (drop (cell_place (header_at n) view.level (pages.page n) i + child_size view.level) (pages.page n)) there.0) (sym of.long)
                (subst (λ (b : List ℕ). IsIndexCell pages.usable b there.0) (sym (entry_bytes pages view.level n i)) there.1.is);
            fits = subst (λ (m : ℕ). there.0.payload.size ≤ m) size there.1.fits;
          };
        }),
      )

  -- and a page on which all stands is one
  pub page_there : HasHeaderAt (header_at n) Index view.level (pages.page n) → HasAllEntries view most → IsPageOf pages Index view.level n
  page_there header entries = record {
    header = record { flag_is = header.flag_is; places = header.places };
    begins = λ i within.
        let here = entry_here i within in
        (subst (λ (v : ViewData). IsEntryCell v.at most view.level v.page i here.0) of.is here.1).begins;
    cells = λ i within.
        let here = entry_here i within in
        cell_entry pages view.level n i (here.0, entry_on pages n view of most i size here.0 here.1);
  }
    where
      entry_here : (i : ℕ) → i < count_at pages n → (cell : CellData) × IsEntryCell view.at most view.level view.page i cell
      entry_here i within = entries i (omega (arith, within, count_is pages n view of))

-- a child of an interior page lies inside it
pub has_child : (pages : Pages) (n i : ℕ) → length (pages.page n) ≡ pages.usable → IsPageOf pages Index Interior n → i < count_at pages n
    → ¬ LacksChild (header_at n) (pages.page n) i
has_child pages n i long page within lacks =
    let cell = page.cells i within in
    let place = cell_place (header_at n) Interior (pages.page n) i in
    let some = begins_some (drop 4 (drop place (pages.page n))) (pos cell.0.payload.size) cell.1.is.size_length cell.1.is.size_is in
    let outer = length-drop 4 (drop place (pages.page n)) in
    let inner = length-drop place (pages.page n) in
    omega (arith, some, outer, inner, lacks.outside)

-- the children of an interior page, as its view tells them
module _ (pages : Pages) (n : ℕ) (view : ViewData) (of : IsViewIn pages n view) (i : ℕ) where
  pub view_child : (m : ℕ) → m ≡ child view.at view.page i → m ≡ child_at pages n i
  view_child m is = is ∙ ap (λ (v : ViewData). child v.at v.page i) of.is

  pub view_within : i ≤ cell_count view.at view.page → i ≤ count_at pages n
  view_within within = omega (arith, within, count_is pages n view of)

  pub no_child : (most : ℕ) → most ≡ pages.count → IsPageOf pages Index Interior n
      → ((i < cell_count view.at view.page → ¬ LacksChild view.at view.page i) → ¬ ((1 ≤ child view.at view.page i) × (child view.at view.page i ≤ most)))
      → ¬ IsNumber pages (child_at pages n i)
  no_child most is page none number =
      let here = subst (λ (m : ℕ). IsNumber pages m) (sym (view_child (child view.at view.page i) refl)) number in
      none (λ within lacks. has_child pages n i of.long page (let e = count_is pages n view of in omega (arith, within, e))
      (subst (λ (v : ViewData). LacksChild v.at v.page i) of.is lacks))
      (here.0, let most_is = is in omega (arith, here.1, most_is))

-- a page that was read
module _ (pager : PagerState) (header : Header) (header_is : IsHeaderOf pager header) (n : ℕ) (bytes : List ℕ) (page : IsPage pager n bytes)
    (steady : IsTrue pager.source.steady) where
  usable_inside : header.usable ≤ length bytes
  usable_inside =
      let most : header.usable ≤ header.page_size = header_is.sound.usable_most in
      let size : header.page_size ≡ pager.header.page_size = ap (λ (h : Header). h.page_size) header_is.is in
      let long = page.long in
      omega (arith, long, size, most)

  used_is : take header.usable bytes ≡ (pages_seen pager).page n
  used_is = ap (λ (b : List ℕ). take header.usable b) (page.is steady) ∙ ap (λ (h : Header). take h.usable (page_of pager.source.bytes n)) header_is.is

  used_long : length ((pages_seen pager).page n) ≡ (pages_seen pager).usable
  used_long =
      let inside = usable_inside in
      let all : length (take header.usable bytes) ≡ header.usable = omega (arith, length-take header.usable bytes, inside) in
      sym (ap length used_is) ∙ all ∙ ap (λ (h : Header). h.usable) header_is.is

  pub size_is : (pages_seen pager).size ≡ image_size header
  size_is = ap image_size (sym header_is.is)

  module _ (root : ℕ) (reaches : Reaches (pages_seen pager) Index root n) where
    pub no_view : (480 ≤ header.usable → header.usable ≤ 65536 → header.usable ≤ length bytes → (level : Level) → ¬ HasHeaderAt (header_at n) Index level (take header.usable bytes))
        → IsBrokenTree (pages_seen pager) Index root (BadPage n)
    no_view none = (
      reaches,
      λ (sound : IsSound (pages_seen pager) Index root n).
          none header_is.sound.usable (readable header pager.source.bytes header_is.sound).most usable_inside sound.level
          (subst (λ (b : List ℕ). HasHeaderAt (header_at n) Index sound.level b) (sym used_is) (record { flag_is = sound.page.header.flag_is; places = sound.page.header.places })),
    )

  module _ (view : ViewData) (of : IsViewOf Index n (take header.usable bytes) view) where
    pub seen_in : IsViewIn (pages_seen pager) n view
    seen_in = record {
      is = of.is ∙ ap (λ (b : List ℕ). record { at = header_at n; kind = Index; level = view.level; page = b }) used_is;
      long = used_long;
    }

    header_here : HasHeaderAt (header_at n) Index view.level ((pages_seen pager).page n)
    header_here = subst (λ (b : List ℕ). HasHeaderAt (header_at n) Index view.level b) used_is of.header

    pub index_page_is : (root : ℕ) → HasAllEntries view (image_size header) → (view.level ≡ Leaf → n ≢ root → 0 < cell_count view.at view.page)
        → IsIndexPage (pages_seen pager) root n view
    index_page_is root entries filled = record {
      seen = seen_in;
      page = page_there (pages_seen pager) n view seen_in (image_size header) size_is header_here entries;
      filled = λ leaf other. let some = filled leaf other in omega (arith, some, count_is (pages_seen pager) n view seen_in);
    }

    module _ (root : ℕ) (reaches : Reaches (pages_seen pager) Index root n) where
      sound_page : (sound : IsSound (pages_seen pager) Index root n) → sound.level ≡ view.level
      sound_page sound = one_flag (pages_seen pager) n view.level sound.level header_here sound.page

      pub no_entries : ¬ HasAllEntries view (image_size header) → IsBrokenTree (pages_seen pager) Index root (BadPage n)
      no_entries none = (
        reaches,
        λ (sound : IsSound (pages_seen pager) Index root n).
            none (entries_there (pages_seen pager) n view seen_in (image_size header) size_is
            (subst (λ (l : Level). IsPageOf (pages_seen pager) Index l n) (sound_page sound) sound.page)),
      )

      pub not_filled : ¬ (view.level ≡ Leaf → n ≢ root → 0 < cell_count view.at view.page) → IsBrokenTree (pages_seen pager) Index root (BadPage n)
      not_filled none = (
        reaches,
        λ (sound : IsSound (pages_seen pager) Index root n).
            none (λ leaf other. let some = sound.filled (sound_page sound ∙ leaf) other in omega (arith, some, count_is (pages_seen pager) n view seen_in)),
      )
