-- What a frame knows of its page.
use Rattle.std.proofs.Common.{◌≡◌, ℕ, List, Option, None, Some, ◌+◌, ◌<◌, ◌≤◌, length, take, drop, refl, sym, ◌∙◌, ap, subst, arith, length-drop, length-take}
use Rattle.std.specs.Prelude.{IfNone, IfOk, IfSome, IsSome, Result, Ok, Err}
use Rattle.btree.specs.image.Shape.{place_at}
use Rattle.btree.specs.declared.image.kind.TreeKind.{TreeKind}
use Rattle.btree.specs.declared.image.kind.TreeKind.TheVariants.{Table, Index}
use Rattle.btree.specs.declared.image.kind.Level.{Level}
use Rattle.btree.specs.declared.image.kind.Level.TheVariants.{Leaf, Interior}
use Rattle.btree.specs.image.Pages.{Pages}
use Rattle.btree.specs.image.Tree.{HasCell, HasHeader, IsEntryAt, IsPageOf, cell_at, count_at}
use Rattle.btree.specs.image.Cell.{CellData, IsIndexCell, IsTableCell}
use Rattle.btree.specs.image.Layout.{HasHeaderAt, cell_count, cell_place, header_at}
use Rattle.btree.specs.Bytes.{LacksChild, IsEntryCell, IsRowCell, child_size}
use Rattle.btree_cursor.specs.declared.cursor.cursor.Frame.{Frame}
use Rattle.btree.specs.ViewData.{AreReadable}
use Rattle.btree_cursor.specs.cursor.Rest.{Holds}
use Rattle.btree.proofs.CellLemmas.{begins_some}
use Rattle.btree.proofs.PageLemmas.{flag_of-same}
use Rattle.btree_cursor.proofs.lemmas.index_entries.EntryLemmas.{entry_bytes, entry_cell}

pub IsSome-unless : {T : Type 0} {P : Type 0} (r : Option T) → IfNone r P → (P → ⊥) → IsSome r
IsSome-unless None p refused = absurd (refused p)
IsSome-unless (Some x) p refused = refl

-- behind its child a cell of an interior page has a byte
cell_some : (image : Pages) (kind : TreeKind) (bytes : List ℕ) → HasCell image kind Interior bytes → 0 < length (drop 4 bytes)
cell_some image Table bytes cell = begins_some _ _ _ cell.1.key_is
cell_some image Index bytes cell = begins_some _ _ _ cell.1.is.size_is

pub IfSome-weaker : {T : Type 0} {P Q : T → Type 0} (r : Option T) → ((x : T) → P x → Q x) → IfSome r P → IfSome r Q
IfSome-weaker None f p = tt
IfSome-weaker (Some x) f p = f x p

pub IfOk-weaker : {T E : Type 0} {P Q : T → Type 0} (r : Result T E) → ((x : T) → P x → Q x) → IfOk r P → IfOk r Q
IfOk-weaker (Ok x) f p = f x p
IfOk-weaker (Err e) f p = tt

pub IfOk-weaker_both : {T E : Type 0} {P Q R : T → Type 0} (r : Result T E) → ((x : T) → P x → Q x → R x) → IfOk r P → IfOk r Q → IfOk r R
IfOk-weaker_both (Ok x) f p q = f x p q
IfOk-weaker_both (Err e) f p q = tt

module _ (image : Pages) (kind : TreeKind) (frame : Frame) (usable : ℕ) (holds : Holds image frame) (same : image.usable ≡ usable) where
  pub used : take usable frame.page ≡ image.page frame.number
  used = ap (λ (u : ℕ). take u frame.page) (sym same) ∙ holds.page

  pub frame_header : (level : Level) → HasHeader image kind level frame.number → HasHeaderAt (header_at frame.number) kind level (take usable frame.page)
  frame_header level h = rw used (record { flag_is = h.flag_is; places = h.places })

  pub header_frame : (level : Level) → HasHeaderAt (header_at frame.number) kind level (take usable frame.page) → HasHeader image kind level frame.number
  header_frame level h = let here = (rw used at h) in record { flag_is = here.flag_is; places = here.places }

  pub frame_level : (level other : Level) → HasHeader image kind level frame.number → HasHeaderAt (header_at frame.number) kind other (take usable frame.page) → other ≡ level
  frame_level level other h here = flag_of-same kind other level (sym here.flag_is ∙ (frame_header level h).flag_is)

  -- a page that is read has a view
  pub no_view : AreReadable image → (level : Level) → HasHeader image kind level frame.number
      → (480 ≤ usable → usable ≤ 65536 → usable ≤ length frame.page → (l : Level) → ¬ HasHeaderAt (header_at frame.number) kind l (take usable frame.page)) → ⊥
  no_view readable level h none =
      let least : 480 ≤ image.usable = readable.least in
      let most : image.usable ≤ 65536 = readable.most in
      let long : image.usable ≤ length frame.page = holds.long in
      none (omega arith) (omega arith) (omega arith) level (frame_header level h)

  -- a child of such a page lies inside it
  pub has_child : (i : ℕ) → IsPageOf image kind Interior frame.number → i < cell_count (header_at frame.number) (take usable frame.page)
      → LacksChild (header_at frame.number) (take usable frame.page) i → ⊥
  has_child i page within lacks =
      let inside : i < count_at image frame.number = rw used at within in
      let outside : length (image.page frame.number) < cell_place (header_at frame.number) Interior (image.page frame.number) i + 4 = rw used at lacks.outside in
      let some = cell_some image kind (cell_at image Interior frame.number i) (page.cells i inside) in
      let drops = length-drop 4 (drop (cell_place (header_at frame.number) Interior (image.page frame.number) i) (image.page frame.number)) in
      let place = length-drop (cell_place (header_at frame.number) Interior (image.page frame.number) i) (image.page frame.number) in
      omega arith

  pub page_long : length (image.page frame.number) ≡ image.usable
  page_long =
      let e : length (take image.usable frame.page) ≡ length (image.page frame.number) = ap length holds.page in
      let l = length-take image.usable frame.page in let long = holds.long in omega (arith, e, l)

module _ (image : Pages) (frame : Frame) (usable : ℕ) (holds : Holds image frame) (same : image.usable ≡ usable) where
  -- the cells of a leaf are there
  pub has_row : (most i : ℕ) → image.size ≡ most → IsPageOf image Table Leaf frame.number → i < count_at image frame.number
      → ((cell : CellData) → ¬ IsRowCell (header_at frame.number) most (take usable frame.page) i cell) → ⊥
  has_row most i size page within none =
      let there = page.cells i within in
      let long = page_long image Table frame usable holds same in
      none there.0 (rw (used image Table frame usable holds same) (record {
        begins = page.begins i within;
        is = record { is = subst (λ (u : ℕ). IsTableCell u (cell_at image Leaf frame.number i) there.0) (sym long) there.1.is; fits = subst (λ (m : ℕ). there.0.payload.size ≤ m) size there.1.fits };
      }))

module _ (image : Pages) (frame : Frame) (usable : ℕ) (holds : Holds image frame) (same : image.usable ≡ usable) (most : ℕ) (size : image.size ≡ most) where
  -- the entries of a page are there
  pub has_entry : (level : Level) (i : ℕ) → IsPageOf image Index level frame.number → i < count_at image frame.number
      → ((cell : CellData) → ¬ IsEntryCell (header_at frame.number) most level (take usable frame.page) i cell) → ⊥
  has_entry level i page within none =
      let there = entry_cell image level frame.number i (page.cells i within) in
      let long = page_long image Index frame usable holds same in
      none there.0 (rw (used image Index frame usable holds same) (record {
        begins = page.begins i within;
        is = record {
          is = subst (λ (u : ℕ). IsIndexCell u (drop (cell_place (header_at frame.number) level (image.page frame.number) i + child_size level) (image.page frame.number)) there.0) (sym long)
              (subst (λ (b : List ℕ). IsIndexCell image.usable b there.0) (sym (entry_bytes image level frame.number i)) there.1.is);
          fits = subst (λ (m : ℕ). there.0.payload.size ≤ m) size there.1.fits;
        };
      }))

  -- and what is read is one
  pub entry_found : (level : Level) (i : ℕ) (cell : CellData) → HasHeaderAt (header_at frame.number) Index level (take usable frame.page)
      → IsEntryCell (header_at frame.number) most level (take usable frame.page) i cell → IsEntryAt image Index (place_at frame.number i) cell
  entry_found level i cell header entry =
      let long = page_long image Index frame usable holds same in
      let e = used image Index frame usable holds same in
      let here : IsEntryCell (header_at frame.number) most level (image.page frame.number) i cell = rw e at entry in
      record {
        level = level;
        page = header_frame image Index frame usable holds same level header;
        is = subst (λ (b : List ℕ). IsIndexCell image.usable b cell) (entry_bytes image level frame.number i)
            (subst (λ (u : ℕ). IsIndexCell u (drop (cell_place (header_at frame.number) level (image.page frame.number) i + child_size level) (image.page frame.number)) cell) long here.is.is);
        fits = subst (λ (m : ℕ). cell.payload.size ≤ m) (sym size) here.is.fits;
      }
