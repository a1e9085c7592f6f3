-- A search of a table by rowid: the keys of a page that is held, and the steps of the search.
use Rattle.std.proofs.Common.{◌≡◌, ℕ, ℤ, ◌+◌, ◌-◌, ◌<◌, ◌≤◌, Bool, false, Contains, List, [], ◌∷◌, ◌++◌, length, take, refl, sym, ◌∙◌, ap, subst, arith}
use Rattle.btree.specs.declared.image.kind.TreeKind.{TreeKind}
use Rattle.btree.specs.declared.image.kind.TreeKind.TheVariants.{Table}
use Rattle.btree.specs.declared.image.kind.Level.{Level}
use Rattle.btree.specs.declared.image.kind.Level.TheVariants.{Leaf, Interior}
use Rattle.btree.specs.image.Broken.{HasRowid, IsRowOrder}
use Rattle.btree.specs.image.Cell.{IsTableCell}
use Rattle.btree.specs.image.Layout.{header_at, cell_count}
use Rattle.btree.specs.image.Pages.{Pages, IsNumber}
use Rattle.btree.specs.image.Search.{IsBoundary, IsBoundaryOf, row_before}
use Rattle.btree.specs.image.Shape.{HasShape, places_under, size_under}
use Rattle.btree.specs.image.Tree.{Place, HasHeader, IsPageOf, Reaches, cell_at, child_at, count_at}
use Rattle.btree.proofs.lemmas.image.RowidLemmas.{one_rowid}
use Rattle.btree.proofs.lemmas.image.RowSearchLemmas.{row_cut, row_itself, row_less}
use Rattle.btree.proofs.lemmas.image.PlaceLemmas.{sound}
use Rattle.btree.proofs.lemmas.image.TableLemmas.{Below, AtMost, leaf_place, rowids}
use Rattle.btree.specs.Bytes.{HasKeyOf}
use Rattle.btree_cursor.specs.cursor.Search.{IsSought}
use Rattle.btree_cursor.specs.cursor.Rest.{Holds, IsInLeaf, IsLeft, IsStanding, IsOn, at_cell}
use Rattle.btree_cursor.specs.declared.cursor.cursor.Frame.{Frame}
use Rattle.btree_cursor.proofs.lemmas.cursor.FrameLemmas.{page_long, used}
use Rattle.btree_cursor.proofs.lemmas.cursor.RestLemmas.{left_length, places_end}
use Rattle.btree_cursor.proofs.lemmas.cursor.DownLemmas.{IsNextIn, IsSeekingIn, seek_down, seek_first, seek_header, seek_leaf, seek_page, seek_short, seek_there}

-- the keys of a table's page that a frame holds
module _ (image : Pages) (frame : Frame) (usable most : ℕ) (holds : Holds image frame) (same : image.usable ≡ usable) where
  key_there : (level : Level) (i : ℕ) (key : ℤ) → HasKeyOf (header_at frame.number) most level (take usable frame.page) i key → HasRowid image level frame.number i key
  key_there Leaf i key h =
      let long = page_long image Table frame usable holds same in
      let row = rw (used image Table frame usable holds same) at h.1 in
      (h.0, subst (λ (u : ℕ). IsTableCell u (cell_at image Leaf frame.number i) h.0) long row.is.is, h.2)
  key_there Interior i key h = let row = rw (used image Table frame usable holds same) at h in row.is

  pub boundary_there : (level : Level) (before : ℤ → Bool) (p : ℕ)
      → IsBoundaryOf (HasKeyOf (header_at frame.number) most level (take usable frame.page)) before (cell_count (header_at frame.number) (take usable frame.page)) p
      → IsBoundary (HasRowid image) before image Table level frame.number p
  boundary_there level before p b =
      let count : cell_count (header_at frame.number) (take usable frame.page) ≡ count_at image frame.number = ap (cell_count (header_at frame.number)) (used image Table frame usable holds same) in
      record {
        within = omega (arith, b.within, count);
        last = λ some. let a = b.last some in (a.0, key_there level (p - 1) a.0 a.1, a.2);
        next = λ more. let a = b.next (omega (arith, more, count)) in (a.0, key_there level p a.0 a.1, a.2);
      }

  pub has_key : (level : Level) → image.size ≡ most → IsPageOf image Table level frame.number → (i : ℕ) → i < cell_count (header_at frame.number) (take usable frame.page)
      → (rowid : ℤ) × HasKeyOf (header_at frame.number) most level (take usable frame.page) i rowid
  has_key Leaf size page i within =
      let e = used image Table frame usable holds same in
      let long = page_long image Table frame usable holds same in
      let inside : i < count_at image frame.number = rw e at within in
      let there = page.cells i inside in (
        there.1.is.rowid,
        (
          there.0,
          rw e (record {
            begins = page.begins i inside;
            is = record { is = subst (λ (u : ℕ). IsTableCell u (cell_at image Leaf frame.number i) there.0) (sym long) there.1.is; fits = subst (λ (m : ℕ). there.0.payload.size ≤ m) size there.1.fits };
          }),
          there.1.is.has_rowid,
        ),
      )
  has_key Interior size page i within =
      let e = used image Table frame usable holds same in
      let inside : i < count_at image frame.number = rw e at within in
      let there = page.cells i inside in
      (there.0, rw e (record { begins = page.begins i inside; is = there.1 }))

-- the steps of a search by rowid
module _ (pages : Pages) (root : ℕ) (behind : Bool) (key : ℤ) (levels : ℕ) (order : (n : ℕ) → Reaches pages Table root n → IsRowOrder pages root n) where
  -- a search of this table that asks for page n next
  abbrev pub IsRowSeeking : List Frame → ℕ → ℕ → ℕ → Type 0
  IsRowSeeking = IsSeekingIn (HasRowid pages) Below AtMost pages Table root (rowids pages) (one_rowid pages) order (row_before behind key) (row_cut behind key) levels

  abbrev pub IsNextRow : Place → Type 0
  IsNextRow = IsNextIn (HasRowid pages) Below AtMost pages Table root (rowids pages) (one_rowid pages) order (row_before behind key) (row_cut behind key) levels

  pub row_first : (frames : List Frame) (asked : ℕ) → levels < 20 → IsNumber pages root → HasShape pages Table levels root → frames ≡ []
      → IsRowSeeking frames root asked (asked + size_under pages levels root)
  row_first = seek_first (HasRowid pages) Below AtMost pages Table root (rowids pages) (one_rowid pages) order (row_before behind key) (row_cut behind key) levels

  module _ (frames : List Frame) (n asked budget : ℕ) (s : IsRowSeeking frames n asked budget) where
    pub row_header : (level : Level) × HasHeader pages Table level n
    row_header = seek_header (HasRowid pages) Below AtMost pages Table root (rowids pages) (one_rowid pages) order (row_before behind key) (row_cut behind key) levels frames n asked budget s

    pub row_short : length frames < 20
    row_short = seek_short (HasRowid pages) Below AtMost pages Table root (rowids pages) (one_rowid pages) order (row_before behind key) (row_cut behind key) levels frames n asked budget s

    module _ (frame : Frame) (number : frame.number ≡ n) where
      pub row_page : (level : Level) → HasHeader pages Table level n → IsPageOf pages Table level frame.number
      row_page = seek_page (HasRowid pages) Below AtMost pages Table root (rowids pages) (one_rowid pages) order (row_before behind key) (row_cut behind key) levels frames n asked budget s frame number

      module _ (holds : Holds pages frame) (p now : ℕ) (more : now ≤ asked + 1) where
        pub row_down : frame.level ≡ Interior → HasHeader pages Table Interior n → IsBoundary (HasRowid pages) (row_before behind key) pages Table Interior frame.number p
            → IsRowSeeking (frames ++ (record frame { at = p }) ∷ []) (child_at pages frame.number p) now budget
        row_down = seek_down (HasRowid pages) Below AtMost pages Table root (rowids pages) (one_rowid pages) order (row_before behind key) (row_cut behind key) levels frames n asked budget s frame number holds p now more

        pub row_leaf : HasHeader pages Table Leaf n → IsBoundary (HasRowid pages) (row_before behind key) pages Table Leaf frame.number p
            → IsSought pages levels root (row_before behind key) (λ places. IsInLeaf pages Table levels frames (record frame { at = p }) places now budget)
        row_leaf = seek_leaf (HasRowid pages) Below AtMost pages Table root (rowids pages) (one_rowid pages) order (row_before behind key) (row_cut behind key) levels frames n asked budget s frame number holds p now more

        -- the leaf has the first row that doesn't come before, where the table has one
        pub row_there : HasHeader pages Table Leaf n → IsBoundary (HasRowid pages) (row_before behind key) pages Table Leaf frame.number p → (x : Place) → IsNextRow x
            → Contains (places_under pages Table levels root) x → p < count_at pages frame.number
        row_there = seek_there (HasRowid pages) Below AtMost pages Table root (rowids pages) (one_rowid pages) order (row_before behind key) (row_cut behind key) levels frames n asked budget s frame number holds p now more refl

-- the row with this rowid is the first that doesn't come before it
pub row_next : (pages : Pages) (root : ℕ) (behind : Bool) (key : ℤ) (levels : ℕ) (order : (n : ℕ) → Reaches pages Table root n → IsRowOrder pages root n)
    → behind ≡ false → HasShape pages Table levels root → (x : Place) → Contains (places_under pages Table levels root) x
    → HasRowid pages Leaf x.page x.index key → IsNextRow pages root behind key levels order x
row_next pages root behind key levels order exact shape x h has =
    let at = sound pages Table levels root shape x h in
    subst (λ (b : Bool). IsNextRow pages root b key levels order x) (sym exact) (record {
      is = record {
        level = Leaf;
        page = leaf_place pages at.level x.page at.entries at.page;
        within = at.within;
        is = (key, has, row_itself key);
      };
      first = λ y less. row_less false key y less;
    })

-- in a leaf, at a cell of it or behind the last
module _ (pages : Pages) (kind : TreeKind) (total : ℕ) (frames : List Frame) (here : Frame) (places : List Place) (asked budget : ℕ) (is_in : IsInLeaf pages kind total frames here places asked budget) where
  pub leaf_settles : here.level ≡ Leaf → here.at < here.count → IsStanding pages kind total frames here places asked budget
  leaf_settles level within =
      at_cell within (subst (λ (l : Level). IsOn l pages kind total frames here places asked budget) (sym level) is_in) (left_length pages kind total 0 frames is_in.rest asked budget is_in.left)

  pub leaf_passed : here.count ≤ here.at → IsLeft pages kind total 0 frames places asked budget
  leaf_passed end =
      let count : here.count ≡ count_at pages here.number = is_in.holds.count in
      let is : places ≡ is_in.rest = is_in.places_is ∙ ap (λ x. x ++ is_in.rest) (places_end pages kind here.number here.at (omega arith)) in
      subst (λ (x : List Place). IsLeft pages kind total 0 frames x asked budget) (sym is) is_in.left
