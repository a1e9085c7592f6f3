-- The links of a leaf's cells, cell by cell.
use Rattle.std.proofs.Common.{◌≡◌, ◌⊎◌, ◌∙◌, ℕ, ◌+◌, ◌-◌, ◌*◌, ◌<◌, ◌≤◌, Bool, Contains, List, [], length, None, Some, refl, sym, ap, subst, inl, inr, ⊎_elim, arith}
use Rattle.std.proofs.lemmas.Bool.{cases_lt}
use Rattle.values.specs.declared.fault.Fault.{Fault}
use Rattle.values.specs.declared.fault.Fault.TheVariants.{PageUse}
use Rattle.btree.specs.declared.image.kind.TreeKind.{TreeKind}
use Rattle.btree.specs.declared.image.kind.TreeKind.TheVariants.{Table}
use Rattle.btree.specs.declared.image.kind.Level.TheVariants.{Leaf}
use Rattle.btree.specs.image.Cell.{CellData, IsTableCell}
use Rattle.btree.specs.image.Chain.{HasBytes, IsChain, chain_room, end, joined, local, more}
use Rattle.btree.specs.image.Layout.{header_at, cell_count}
use Rattle.btree.specs.image.Pages.{Pages}
use Rattle.btree.specs.image.Shape.{place_at}
use Rattle.btree.specs.image.Tree.{IsEntryAt, IsPageOf, IsRowAt, cell_at, count_at}
use Rattle.btree.specs.image.Use.{Use, as_link, Names, Users, link_at}
use Rattle.btree.proofs.lemmas.image.CellLemmas.{one_cell}
use Rattle.btree.specs.Bytes as bytes
use Rattle.btree.specs.page_use.Links.{IsPayloadOf, IsPayloadTwice, MarksPayload}
use Rattle.btree.specs.page_use.Marks.{AreTreeMarks, IsOn}
use Rattle.schema_tables.specs.TableData.{TableData}
use Rattle.records_tables.specs.stored_rows.Keys.{IsSeen}
use Rattle.records_tables.specs.stored_rows.Links.{IsOpenLeaf, IsRowTwice, MarksRows, table_tree}
use Rattle.records_tables.specs.stored_rows.RowFaults.{AreRowsIn}
use Rattle.records_tables.proofs.lemmas.stored_rows.KindLemmas.{only_leaf}

-- of a page, as its bytes were seen
module _ (pages : Pages) (n at most : ℕ) (page : List ℕ) (seen : IsSeen pages n at most page) where
  pub seen_row : (i : ℕ) (cell : CellData) → bytes.IsRowCell at most page i cell → IsRowAt pages (place_at n i) cell
  seen_row i cell row =
      let here : bytes.IsRowCell (header_at n) pages.size (pages.page n) i cell =
      subst (λ (a : ℕ). bytes.IsRowCell a pages.size (pages.page n) i cell) seen.at_is
      (subst (λ (m : ℕ). bytes.IsRowCell at m (pages.page n) i cell) seen.most_is (subst (λ (b : List ℕ). bytes.IsRowCell at most b i cell) seen.page_is row)) in
      let long : length (pages.page n) ≡ pages.usable = sym (ap length seen.page_is) ∙ seen.long in
      record { is = subst (λ (u : ℕ). IsTableCell u (cell_at pages Leaf n i) cell) long here.is.is; fits = here.is.fits }

  pub seen_cells : cell_count at page ≡ count_at pages n
  seen_cells = λ k. cell_count (seen.at_is k) (seen.page_is k)

some_same : (a b : ℕ) → Some a ≡ Some b → a ≡ b
some_same a b e = cc

-- page m is link k of the chain of cell i of page n, which is this cell
pub record IsLinkOf (pages : Pages) (n i k m : ℕ) (cell : CellData) : Type 0 where
  pub first : ℕ
  pub overflow : cell.payload.overflow ≡ Some first
  pub needed : k * chain_room pages < cell.payload.size - length cell.payload.local
  pub is : m ≡ link_at pages first k

module _ (pages : Pages) (users : Users) (n : ℕ) (leaf : IsPageOf pages Table Leaf n) where
  pub link_within : (i k m : ℕ) → Names pages users (as_link n i k) m → i < count_at pages n
  link_within i k m names = names.1.place.within

  pub link_of_cell : (i k m : ℕ) (cell : CellData) → IsRowAt pages (place_at n i) cell → Names pages users (as_link n i k) m → IsLinkOf pages n i k m cell
  link_of_cell i k m cell at names =
      let link = names.1 in
      let kind : link.tree.kind ≡ Table = (only_leaf pages n link.tree.kind link.place.level leaf link.place.page).0 in
      let row : IsRowAt pages (place_at n i) link.cell = subst (λ (t : TreeKind). IsEntryAt pages t (place_at n i) link.cell) kind link.at in
      let same : link.cell ≡ cell = one_cell pages (place_at n i) link.cell cell row at in
      record {
        first = link.first;
        overflow = ap (λ (c : CellData). c.payload.overflow) (sym same) ∙ link.overflow;
        needed = subst (λ (c : CellData). k * chain_room pages < c.payload.size - length c.payload.local) same link.needed;
        is = link.is;
      }

-- no pages at all
no_pages : Pages
no_pages = record { count = 0; usable = 0; size = 0; page = λ n. [] }

-- The marks are those of places that were gone through, and of all links of the chains of the cells before cell i besides.
pub record AreWithBefore (pages : Pages) (users : Users) (done : List Use) (n i : ℕ) (now : List Use) (marks : List Bool) : Type 0 where
  pub marks_are : AreTreeMarks pages users now marks
  pub kept : (place : Use) → Contains done place → Contains now place
  pub added : (place : Use) → Contains now place → Contains done place ⊎ ((j k : ℕ) × (j < i) × (place ≡ as_link n j k))
  pub all : (j k m : ℕ) → j < i → Names pages users (as_link n j k) m → Contains now (as_link n j k)

abbrev pub MarksBefore : Pages → ℕ → ℕ → ℕ → ℕ → List ℕ → ℕ → List Bool → List Bool → Type 0
MarksBefore pages root n at most page i old new = (users : Users) (done : List Use) → IsOpenLeaf pages users done root n at most page
    → AreTreeMarks pages users done old → (now : List Use) × AreWithBefore pages users done n i now new

pub before_none : (pages : Pages) (root n at most : ℕ) (page : List ℕ) (marks : List Bool) → MarksBefore pages root n at most page 0 marks marks
before_none pages root n at most page marks users done opened trees = (
  done,
  record {
    marks_are = trees;
    kept = λ place gone. gone;
    added = λ place gone. inl gone;
    all = λ j k m less names. absurd (omega (arith, less));
  },
)

link_cell : (n i j k l : ℕ) → as_link n i k ≡ as_link n j l → i ≡ j
link_cell n i j k l e = cc

module _ (pages : Pages) (root n at most : ℕ) (page : List ℕ) (i : ℕ) (cell : CellData) (here : bytes.IsRowCell at most page i cell) (inside : i < cell_count at page) where
  module _ (users : Users) (done : List Use) (opened : IsOpenLeaf pages users done root n at most page) (now : List Use) (marks : List Bool)
      (before : AreWithBefore pages users done n i now marks) where
    row_here : IsRowAt pages (place_at n i) cell
    row_here = seen_row pages n at most page opened.seen i cell here

    within_here : i < count_at pages n
    within_here = let e = seen_cells pages n at most page opened.seen in omega (arith, inside, e)

    link_here : (k m : ℕ) → Names pages users (as_link n i k) m → IsLinkOf pages n i k m cell
    link_here k m names = link_of_cell pages users n opened.leaf i k m cell row_here names

    new_here : (k : ℕ) → ¬ Contains now (as_link n i k)
    new_here k h = ⊎_elim
        (λ (d : Contains done (as_link n i k)). opened.none (as_link n i k) refl d)
        (λ (l : (j l : ℕ) × (j < i) × (as_link n i k ≡ as_link n j l)). let e : i ≡ l.0 = link_cell n i l.0 k l.1 l.3 in omega (arith, l.2, e))
        (before.added (as_link n i k) h)

    -- the payload of cell i, once the links before it were gone through
    payload_of_cell : IsPayloadOf pages users now n i cell.payload
    payload_of_cell = record {
      chain = λ first overflow. record {
        names = λ k needed reached number. (
          number,
          record {
            tree = table_tree root;
            cell = cell;
            first = first;
            is_tree = opened.tree;
            place = record { level = Leaf; entries = tt; reaches = opened.reaches; page = opened.leaf; within = within_here };
            at = row_here;
            overflow = overflow;
            needed = needed;
            before = reached;
            is = refl;
          },
        );
        one = λ k m names. let l = link_here k m names in
            l.is ∙ ap (λ (f : ℕ). link_at pages f k) (some_same l.first first (sym l.overflow ∙ overflow));
        needed = λ k m names. (link_here k m names).needed;
        new = new_here;
        stands = record { place = opened.stands.place; gone = before.kept opened.stands.place opened.stands.gone; is = opened.stands.is };
      };
      has = λ k m names. let l = link_here k m names in (l.first, l.overflow);
    }

    more_here : (later : List Bool) → MarksPayload pages cell.payload marks later → (next : List Use) × AreWithBefore pages users done n (i + 1) next later
    more_here later payload =
        let found = payload users now n i payload_of_cell before.marks_are in
        let with_links = found.1 in (
          found.0,
          record {
            marks_are = with_links.marks_are;
            kept = λ place gone. with_links.kept place (before.kept place gone);
            added = λ place h. ⊎_elim
                (λ (was : Contains now place). ⊎_elim
                (λ (d : Contains done place). inl d)
                (λ (l : (j k : ℕ) × (j < i) × (place ≡ as_link n j k)). inr (l.0, l.1, omega (arith, l.2), l.3))
                (before.added place was))
                (λ (l : (k : ℕ) × (place ≡ as_link n i k)). inr (i, l.0, omega arith, l.1))
                (with_links.added place h);
            all = λ j k m less names. ⊎_elim
                (λ (early : j < i). with_links.kept (as_link n j k) (before.all j k m early names))
                (λ (late : i ≤ j).
                let e : i ≡ j = omega (arith, less, late) in
                subst (λ (x : ℕ). Contains found.0 (as_link n x k)) e
                (with_links.all k m (subst (λ (x : ℕ). Names pages users (as_link n x k) m) (sym e) names)))
                (cases_lt j i);
          },
        )

  pub before_more : (old marks later : List Bool) → MarksBefore pages root n at most page i old marks → MarksPayload pages cell.payload marks later
      → MarksBefore pages root n at most page (i + 1) old later
  before_more old marks later befores payload users done opened trees =
      let before = befores users done opened trees in more_here users done opened before.0 marks before.1 later payload

  pub payload_then : (old marks : List Bool) → MarksBefore pages root n at most page i old marks
      → (fault : Fault) → IsPayloadTwice pages cell.payload marks fault → IsRowTwice pages root n at most page old fault
  payload_then old marks befores (PageUse m) twice = λ users done opened trees.
      let before = befores users done opened trees in
      twice users before.0 n i (payload_of_cell users done opened before.0 marks before.1) before.1.marks_are
  payload_then old marks befores _ twice = absurd twice

-- all cells were gone through
pub before_all : (pages : Pages) (root n at most : ℕ) (page : List ℕ) (i : ℕ) (old marks : List Bool) → i ≡ cell_count at page
    → MarksBefore pages root n at most page i old marks → MarksRows pages root n at most page old marks
before_all pages root n at most page i old marks last befores users done opened trees =
    let before = befores users done opened trees in (
      before.0,
      record {
        marks_are = before.1.marks_are;
        kept = before.1.kept;
        added = λ place h. ⊎_elim
            (λ (d : Contains done place). inl d)
            (λ (l : (j k : ℕ) × (j < i) × (place ≡ as_link n j k)). inr (subst (λ (u : Use). IsOn n u) (sym l.3) refl))
            (before.1.added place h);
        all = λ j k m names.
            let e = seen_cells pages n at most page opened.seen in
            let within = link_within pages users n opened.leaf j k m names in
            before.1.all j k m (omega (arith, e, within, last)) names;
      },
    )

-- where there are no pages a chain has no bytes
no_chain : {n size : ℕ} {bytes : List ℕ} → IsChain no_pages n size bytes → size ≡ 0
unfolding no_pages
no_chain end = refl
no_chain (more rest number some chain is) = absurd (omega (arith, number.0, number.1))

-- a leaf whose cells are rows whatever the pages are has no links
pub no_links_in : (pages : Pages) (users : Users) (table : TableData) (n at most : ℕ) (page : List ℕ) → IsSeen pages n at most page → IsPageOf pages Table Leaf n
    → ((any : Pages) → AreRowsIn any table at most page) → (i k m : ℕ) → ¬ Names pages users (as_link n i k) m
no_links_in pages users table n at most page seen leaf rows i k m names =
    let e = seen_cells pages n at most page seen in
    let within = link_within pages users n leaf i k m names in
    let row = rows no_pages i (omega (arith, e, within)) in
    let l = link_of_cell pages users n leaf i k m row.cell (seen_row pages n at most page seen i row.cell row.here) names in
    whole row.cell l row.is.bytes row.is.whole
  where
    whole : (cell : CellData) (l : IsLinkOf pages n i k m cell) (b : List ℕ) → HasBytes no_pages cell.payload b → ⊥
    whole cell l b (local none is) = let no : Some l.first ≡ None = sym l.overflow ∙ none in cc
    whole cell l b (joined first rest overflow chain is) = let empty = no_chain chain in omega (arith, empty, l.needed)
