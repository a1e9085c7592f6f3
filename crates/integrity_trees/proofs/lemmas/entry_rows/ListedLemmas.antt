-- The entries of an index that a cursor has given, and those that are to come.
use Rattle.std.proofs.Common.{◌≡◌, ◌+◌, ◌≤◌, ◌∙◌, ℕ, zero, suc, add-one, Bool, Contains, IsTrue, List, [], ◌∷◌, ◌++◌, drop, map, Option, None, Some, slice_get, take, append-nil, append_assoc, refl, sym, ap, subst}
use Rattle.values.specs.Datum.{Datum}
use Rattle.pager.specs.PagerState.{PagerState}
use Rattle.pager.specs.Calls.{AsksChainsOnly, SameImage}
use Rattle.pager.proofs.CallLemmas.{SameImage-trans}
use Rattle.btree.specs.declared.image.kind.TreeKind.TheVariants.{Index}
use Rattle.btree.specs.declared.image.kind.Level.{Level}
use Rattle.btree.specs.image.Cell.{CellData, IsIndexCell}
use Rattle.btree.specs.image.Entries.{IsStrictOrder}
use Rattle.btree.specs.image.Pages.{Pages, pages_seen}
use Rattle.btree.specs.image.Shape.{places_under, size_under}
use Rattle.btree.specs.image.Tree.{Place, IsEntryAt, entry_at}
use Rattle.btree.proofs.lemmas.image.EntryLemmas.{entries_of}
use Rattle.btree.proofs.lemmas.image.ListLemmas.{in_head, in_tail}
use Rattle.btree.proofs.lemmas.image.PlaceLemmas.{sound}
use Rattle.btree.proofs.PageLemmas.{flag_of-same}
use Rattle.btree.proofs.SeenLemmas.{same_pages, still_steady}
use Rattle.btree_cursor.specs.index_entries.Entries.{HasRecord}
use Rattle.btree.proofs.KindLemmas.{one_index_cell}
use Rattle.btree_cursor.specs.declared.cursor.cursor.Cursor.{Cursor}
use Rattle.btree_cursor.specs.cursor.Calls.{HasStepped, IsOpenedAt}
use Rattle.btree_cursor.specs.cursor.Listing.{IsAt, IsEntry}
use Rattle.btree_cursor.specs.cursor.Search.{IsSearchableIndex, entry_order}
use Rattle.btree_cursor.proofs.lemmas.cursor.EntrySeekLemmas.{entry_keys}
use Rattle.btree_cursor.proofs.lemmas.cursor.RestLemmas.{standing_asked}
use Rattle.integrity_trees.specs.entry_rows.Rows.{AreEntryRows}

-- one value more of a row
pub taken_more : (values ys us : List Datum) (i : ℕ) (x y : Datum) → slice_get values i ≡ Some x → ys ≡ take i values → us ≡ ys ++ y ∷ [] → y ≡ x
    → us ≡ take (i + 1) values
taken_more values ys us i x y here so_far more same =
    rw (more, so_far, same) (sym (ap (λ (k : ℕ). take k values) (add-one i) ∙ taken_suc values i here))
  where
    taken_suc : (values : List Datum) (i : ℕ) → slice_get values i ≡ Some x → take (suc i) values ≡ take i values ++ x ∷ []
    taken_suc [] i here = cc
    taken_suc (first ∷ others) zero here = let e : Some first ≡ Some x = here in let f : first ≡ x = cc in ap (λ (v : Datum). v ∷ []) f
    taken_suc (first ∷ others) (suc i) here = ap (λ (l : List Datum). first ∷ l) (taken_suc others i here)

in_middle : (given : List Place) (place : Place) (rest : List Place) → Contains (given ++ place ∷ rest) place
in_middle [] place rest = in_head place rest
in_middle (first ∷ given) place rest = in_tail first place (given ++ place ∷ rest) (in_middle given place rest)

map-push : (values : Place → List Datum) (given : List Place) (place : Place) → map values (given ++ place ∷ []) ≡ map values given ++ values place ∷ []
map-push values [] place = refl
map-push values (first ∷ given) place = ap (λ (l : List (List Datum)). values first ∷ l) (map-push values given place)

module _ (pages : Pages) (descends : List Bool) (values : Place → List Datum) (levels root : ℕ) (index : IsSearchableIndex pages descends values levels root) where
  pub strict : IsStrictOrder (entry_order descends values)
  strict = let keys = entry_keys descends values pages in record { never = keys.never; after = keys.after }

  pub all_rows : (rows : List (List Datum)) → rows ≡ map values (places_under pages Index levels root) → AreEntryRows pages descends values root rows
  all_rows rows is = record {
    places = places_under pages Index levels root;
    entries = entries_of pages (entry_order descends values) strict root levels index.tree.shape index.order;
    rows_are = is;
  }

  -- what stands at a place of the index has the values of that place
  pub has_values : (place : Place) (cell : CellData) → Contains (places_under pages Index levels root) place → IsEntryAt pages Index place cell
      → HasRecord pages cell (values place)
  has_values place cell among at =
      let of = sound pages Index levels root index.tree.shape place among in
      let has = (index.entries of.level place.page of.reaches of.page).each place.index of.within in
      let same : at.level ≡ of.level = flag_of-same Index at.level of.level (sym at.page.flag_is ∙ of.page.header.flag_is) in
      let here : IsIndexCell pages.usable (entry_at pages of.level place.page place.index) cell =
      subst (λ (l : Level). IsIndexCell pages.usable (entry_at pages l place.page place.index) cell) same at.is in
      subst (λ (c : CellData). HasRecord pages c (values place))
      (one_index_cell pages.usable (entry_at pages of.level place.page place.index) has.cell cell has.is.is here) has.has

-- some entries were given, as rows of their values, and a cursor stands before the others
pub record IsListed (pages : Pages) (values : Place → List Datum) (levels root : ℕ) (cursor : Cursor) (asked budget : ℕ) (rows : List (List Datum)) : Type 0 where
  pub given : List Place
  pub rest : List Place
  pub whole : given ++ rest ≡ places_under pages Index levels root
  pub at : IsAt pages Index levels cursor rest asked budget
  pub rows_are : rows ≡ map values given

-- an entry is the first of these places, which have so many more
pub record Begins (pages : Pages) (places : List Place) (cell : CellData) : Type 0 where
  pub place : Place
  pub more : List Place
  pub is : places ≡ place ∷ more
  pub entry : IsEntryAt pages Index place cell

pub begins : (pages : Pages) (places : List Place) (cell : CellData) → IsEntry pages Index places (Some cell) → Begins pages places cell
begins pages [] cell entry = absurd cc
begins pages (place ∷ more) cell entry = record { place = place; more = more; is = refl; entry = entry }

pub ended : (pages : Pages) (places : List Place) → IsEntry pages Index places None → places ≡ []
ended pages [] entry = refl
ended pages (place ∷ more) entry = absurd entry

-- what the loop keeps
pub record Listing (start now : PagerState) (root : ℕ) (cursor : Cursor) (rows : List (List Datum)) : Type 0 where
  pub stays : SameImage start now
  pub failures : now.source.failures ≡ start.source.failures
  pub lists : IsTrue start.source.steady → (descends : List Bool) (values : Place → List Datum) (levels : ℕ)
      → IsSearchableIndex (pages_seen start) descends values levels root
      → IsListed (pages_seen start) values levels root cursor now.asked (start.asked + size_under (pages_seen start) levels root) rows

-- what a cursor says of where it stands
abbrev pub Tells : Cursor → Option CellData → Type 0
Tells cursor cell = (pages : Pages) (levels : ℕ) (places : List Place) (asked budget : ℕ) → IsAt pages Index levels cursor places asked budget
    → IsEntry pages Index places cell

module _ (start now : PagerState) (root : ℕ) (cursor : Cursor) (rows : List (List Datum)) (l : Listing start now root cursor rows)
    (steady : IsTrue start.source.steady) (descends : List Bool) (values : Place → List Datum) (levels : ℕ)
    (index : IsSearchableIndex (pages_seen start) descends values levels root) where
  abbrev listed : IsListed (pages_seen start) values levels root cursor now.asked (start.asked + size_under (pages_seen start) levels root) rows
  listed = l.lists steady descends values levels index

  pub never : ((pages : Pages) (levels : ℕ) (places : List Place) (asked budget : ℕ) → IsAt pages Index levels cursor places asked budget → ⊥) → ⊥
  never none = none _ _ _ _ _ listed.at

  pub stands_somewhere : cursor.here ≡ None → ⊥
  stands_somewhere none = let e = listed.at.here_is in cc

  pub few_asked : now.asked ≤ start.asked + size_under (pages_seen start) levels root
  few_asked = standing_asked _ _ _ _ _ _ _ _ listed.at.stands

  pub done : Tells cursor None → AreEntryRows (pages_seen start) descends values root rows
  done told =
      let none : listed.rest ≡ [] = ended (pages_seen start) listed.rest (told _ _ _ _ _ listed.at) in
      let whole : listed.given ≡ places_under (pages_seen start) Index levels root =
      sym (append-nil listed.given) ∙ ap (λ (r : List Place). listed.given ++ r) (sym none) ∙ listed.whole in
      all_rows (pages_seen start) descends values levels root index rows (listed.rows_are ∙ ap (λ (p : List Place). map values p) whole)

  module _ (cell : CellData) (told : Tells cursor (Some cell)) where
    abbrev first : Begins (pages_seen start) listed.rest cell
    first = begins (pages_seen start) listed.rest cell (told _ _ _ _ _ listed.at)

    -- the record of the entry that the cursor stands at, as the pager sees it
    pub has_record : HasRecord (pages_seen now) cell (values first.place)
    has_record =
        let among : Contains (places_under (pages_seen start) Index levels root) first.place =
        subst (λ (p : List Place). Contains p first.place) (ap (λ (r : List Place). listed.given ++ r) (sym first.is) ∙ listed.whole)
        (in_middle listed.given first.place first.more) in
        subst (λ (p : Pages). HasRecord p cell (values first.place)) (sym (same_pages _ _ l.stays))
        (has_values (pages_seen start) descends values levels root index first.place cell among first.entry)

    module _ (read : PagerState) (chains : AsksChainsOnly now read) where
      -- overflow pages leave the cursor where it stands
      pub still_at : IsAt (pages_seen read) Index levels cursor listed.rest read.asked (start.asked + size_under (pages_seen start) levels root)
      still_at =
          subst (λ (a : ℕ). IsAt (pages_seen read) Index levels cursor listed.rest a (start.asked + size_under (pages_seen start) levels root)) (sym chains.unasked)
          (subst (λ (p : Pages). IsAt p Index levels cursor listed.rest now.asked (start.asked + size_under (pages_seen start) levels root))
          (sym (same_pages _ _ (SameImage-trans _ _ _ l.stays chains.image))) listed.at)

      pub one_more : (then : PagerState) (next : Cursor) (row : List Datum) → row ≡ values first.place → HasStepped read then cursor next
          → IsListed (pages_seen start) values levels root next then.asked (start.asked + size_under (pages_seen start) levels root) (rows ++ row ∷ [])
      one_more then next row is stepped =
          let stays = SameImage-trans _ _ _ l.stays chains.image in
          let gone = (stepped.lists (still_steady _ _ stays steady) Index levels listed.rest _ still_at).0 in
          record {
            given = listed.given ++ first.place ∷ [];
            rest = drop 1 listed.rest;
            whole = append_assoc listed.given (first.place ∷ []) (drop 1 listed.rest)
                ∙ ap (λ (r : List Place). listed.given ++ r) (ap (λ (r : List Place). first.place ∷ drop 1 r) first.is ∙ sym first.is) ∙ listed.whole;
            at = subst (λ (p : Pages). IsAt p Index levels next (drop 1 listed.rest) then.asked (start.asked + size_under (pages_seen start) levels root))
                (same_pages _ _ stays) gone;
            rows_are = (λ k. listed.rows_are k ++ is k ∷ []) ∙ sym (map-push values listed.given first.place);
          }

pub opened : (start now : PagerState) (root : ℕ) (cursor : Cursor) (rows : List (List Datum)) → SameImage start now → now.source.failures ≡ start.source.failures
    → IsOpenedAt start now Index root cursor → rows ≡ [] → Listing start now root cursor rows
opened start now root cursor rows stays failures is none = record {
  stays = stays;
  failures = failures;
  lists = λ steady descends values levels index. record {
    given = [];
    rest = places_under (pages_seen start) Index levels root;
    whole = refl;
    at = is.lists steady levels index.tree;
    rows_are = none;
  };
}
