-- The entries of an index that a cursor has given, each of which was held against the one before it.
use Rattle.std.proofs.Common.{◌≡◌, ◌+◌, ◌<◌, ◌≤◌, ℕ, suc, Bool, true, false, IsTrue, Contains, List, [], ◌∷◌, ◌++◌, Option, None, Some, append_assoc, drop, length, map, slice_get, refl, sym, ◌∙◌, ap, subst, arith, append-nil}
use Rattle.std.proofs.lemmas.List.Elements.{Contains-append_left}
use Rattle.std.proofs.lemmas.Option.{slice_get_read}
use Rattle.std.specs.List.{AllZip}
use Rattle.values.specs.Row.{Row}
use Rattle.values.specs.declared.fault.Fault.{Fault}
use Rattle.values.specs.declared.fault.Fault.TheVariants.{BadDepth, BadPage, Finished, NoMemory, ReadFailed}
use Rattle.pager.specs.PagerState.{PagerState}
use Rattle.pager.specs.Calls.{AsksChainsOnly, SameImage}
use Rattle.pager.proofs.CallLemmas.{SameImage-trans}
use Rattle.btree.specs.image.Cell.{CellData}
use Rattle.btree.specs.image.Pages.{IsNumber, Pages, pages_seen}
use Rattle.btree.specs.image.Shape.{places_under, size_under}
use Rattle.btree.specs.image.Tree.{IsPlaceOf, Place}
use Rattle.btree.specs.declared.image.kind.TreeKind.TheVariants.{Index}
use Rattle.btree.proofs.lemmas.image.ListLemmas.{get_contains, in_head, in_tail}
use Rattle.btree.proofs.SeenLemmas.{same_pages, still_steady}
use Rattle.integrity_trees.specs.wanted_entries.Unique.{AreApart, IsNotUnique}
use Rattle.integrity_trees.proofs.lemmas.wanted_entries.NeighbourLemmas.{count_of, unique_of}
use Rattle.integrity_trees.proofs.lemmas.wanted_entries.OrderLemmas.{together}
use Rattle.btree_cursor.specs.index_entries.Entries.{HasRecord}
use Rattle.integrity_trees.specs.declared.tree_walk.counts.TreeCounts.{TreeCounts}
use Rattle.integrity_trees.specs.declared.index_walk.tree.EntryWidths.{EntryWidths}
use Rattle.integrity_trees.specs.index_walk.Checked.{HoldsValues, IsCheckedIndex}
use Rattle.btree_cursor.specs.declared.cursor.cursor.Cursor.{Cursor}
use Rattle.btree_cursor.specs.cursor.Calls.{HasStepped, IsOpenedAt, IsStepFault}
use Rattle.btree_cursor.specs.cursor.Left.{all_left, steps_left}
use Rattle.btree_cursor.specs.cursor.Listing.{IsAt}
use Rattle.btree_cursor.specs.cursor.Search.{IsIndexFault, IsSearchableIndex}
use Rattle.integrity_trees.proofs.lemmas.entry_rows.ListedLemmas.{Begins, IsListed, Tells, begins, ended, has_values}
use Rattle.integrity_trees.specs.declared.entry_prefixes.counting.Prefixes.{Prefixes}
use Rattle.integrity_trees.specs.entry_prefixes.Counting.{CountsEntry, EndsWith, IsCounted}
use Rattle.integrity_trees.specs.entry_prefixes.Last.{IsLast, LastData}
use Rattle.integrity_trees.specs.entry_prefixes.Prefixes.{HasPrefixes}
use Rattle.integrity_trees.proofs.lemmas.entry_prefixes.CountLemmas.{behind}
use Rattle.integrity_trees.proofs.lemmas.entry_prefixes.EntryLemmas.{entry_of_place, holds_entries, in_order, long_entry, one_values, searchable, stand, values}
use Rattle.integrity_trees.proofs.lemmas.entry_prefixes.ListLemmas.{mapped_at}

-- all entries of an index that was checked were counted, in their order
module _ (pages : Pages) (widths : EntryWidths) (descends : List Bool) (root : ℕ) (counts : TreeCounts) (number : IsNumber pages root)
    (checked : IsCheckedIndex pages widths descends root counts) (width : ℕ) (prefixes : Prefixes) where
  abbrev rows : List Row
  rows = map (values pages widths descends root counts number checked) (places_under pages Index counts.levels root)

  pub counted_all : length prefixes.distinct.items ≡ width → IsCounted rows prefixes → HasPrefixes pages root width prefixes
  counted_all long are =
      let order = stand pages widths descends root counts number checked in
      record {
        entries = rows;
        entries_are = holds_entries pages widths descends root counts number checked;
        long = long;
        counts = λ columns count at.
            let runs = are.counts columns count at in
            (runs.0, count_of (suc columns) rows runs.0 (together descends rows order (suc columns)) runs.1, runs.2);
        repeated = (
          λ t. subst (λ (w : ℕ). IsNotUnique w rows) long (are.repeated t),
          λ two. by_told prefixes.repeats refl
              (λ e. let parted = subst (λ (w : ℕ). AreApart w rows) long (are.apart (λ t. let x : false ≡ true = sym e ∙ t in cc)) in
              unique_of width rows (together descends rows order width) parted two),
        );
      }
    where
      by_told : (t : Bool) → prefixes.repeats ≡ t → (prefixes.repeats ≡ false → ⊥) → IsTrue prefixes.repeats
      by_told true e not = e
      by_told false e not = absurd (not e)

  rows_at : (places : List Place) (found : List Row) → AllZip (HoldsValues pages widths) places found
      → ((place : Place) → Contains places place → IsPlaceOf pages Index root place)
      → found ≡ map (values pages widths descends root counts number checked) places
  rows_at [] [] each are = refl
  rows_at [] (row ∷ found) each are = absurd each
  rows_at (place ∷ places) [] each are = absurd each
  rows_at (place ∷ places) (row ∷ found) each are =
      let here = each.0 in
      let stored = entry_of_place pages widths descends root counts number checked place (are place (in_head place places)) in
      let same : row ≡ values pages widths descends root counts number checked place =
      one_values pages place row (values pages widths descends root counts number checked place) (record { level = here.level; page = here.page; has = here.has }) stored in
      let rest = rows_at places found each.1 (λ other h. are other (in_tail place other places h)) in
      λ k. same k ∷ rest k

  -- so were those that a walk found at the places of all entries
  pub counted_found : (found : List Row) → AllZip (HoldsValues pages widths) (places_under pages Index counts.levels root) found
      → length prefixes.distinct.items ≡ width → IsCounted found prefixes → HasPrefixes pages root width prefixes
  counted_found found each long are =
      let sound = (in_order pages widths descends root counts number checked).cells.sound in
      counted_all long (subst (λ (l : List Row). IsCounted l prefixes) (rows_at (places_under pages Index counts.levels root) found each sound) are)

-- what is known of the entries so far, of an index whose places have these values
pub record FollowsIn (start now : PagerState) (root : ℕ) (cursor : Cursor) (last : LastData) (prefixes : Prefixes) (values : Place → Row) (levels : ℕ) : Type 0 where
  pub rows : List Row
  pub before : Option Row
  pub listed : IsListed (pages_seen start) values levels root cursor now.asked (start.asked + size_under (pages_seen start) levels root) rows
  pub ends : EndsWith rows before
  pub last_is : IsLast last before
  pub counted : IsCounted rows prefixes

-- what the loop keeps
pub record Following (start now : PagerState) (root width : ℕ) (cursor : Cursor) (last : LastData) (prefixes : Prefixes) : Type 0 where
  pub stays : SameImage start now
  pub failures : now.source.failures ≡ start.source.failures
  pub root_is : cursor.root ≡ root
  pub long : length prefixes.distinct.items ≡ width
  pub follows : IsTrue start.source.steady → (widths : EntryWidths) (descends : List Bool) (counts : TreeCounts) → width ≤ widths.key
      → (number : IsNumber (pages_seen start) root) (checked : IsCheckedIndex (pages_seen start) widths descends root counts)
      → FollowsIn start now root cursor last prefixes (values (pages_seen start) widths descends root counts number checked) counts.levels

-- before the first entry
pub opened : (start now : PagerState) (root width : ℕ) (cursor : Cursor) (last : LastData) (prefixes : Prefixes) → SameImage start now
    → now.source.failures ≡ start.source.failures → IsOpenedAt start now Index root cursor → length prefixes.distinct.items ≡ width
    → last.is_some ≡ false → IsCounted [] prefixes → Following start now root width cursor last prefixes
opened start now root width cursor last prefixes stays failures is long none counted = record {
  stays = stays;
  failures = failures;
  root_is = is.root_is;
  long = long;
  follows = λ steady widths descends counts enough number checked. record {
    rows = [];
    before = None;
    listed = record {
      given = [];
      rest = places_under (pages_seen start) Index counts.levels root;
      whole = refl;
      at = is.lists steady counts.levels (searchable (pages_seen start) widths descends root counts number checked).tree;
      rows_are = refl;
    };
    ends = refl;
    last_is = none;
    counted = counted;
  };
}

-- the fault of a step of a cursor that hasn't ended
pub step_fault : (cursor : Cursor) (fault : Fault) → 0 < steps_left cursor → IsStepFault cursor fault → IsIndexFault cursor.root fault
step_fault cursor Finished left is = let none = ap (λ here. all_left cursor.frames.items here) is in omega (arith, left, none)
step_fault cursor ReadFailed left is = tt
step_fault cursor NoMemory left is = tt
step_fault cursor (BadPage n) left is = tt
step_fault cursor (BadDepth n) left is = is
step_fault cursor fault left is = absurd is

map_push : (values : Place → Row) (given : List Place) (place : Place) → map values (given ++ place ∷ []) ≡ map values given ++ values place ∷ []
map_push values [] place = refl
map_push values (first ∷ given) place = ap (λ (l : List Row). values first ∷ l) (map_push values given place)

-- over a steady source, and an index that was checked
module _ (start now : PagerState) (root width : ℕ) (cursor : Cursor) (last : LastData) (prefixes : Prefixes)
    (f : Following start now root width cursor last prefixes) (steady : IsTrue start.source.steady)
    (widths : EntryWidths) (descends : List Bool) (counts : TreeCounts) (enough : width ≤ widths.key) (number : IsNumber (pages_seen start) root)
    (checked : IsCheckedIndex (pages_seen start) widths descends root counts) where
  abbrev seen_values : Place → Row
  seen_values = values (pages_seen start) widths descends root counts number checked

  abbrev all : List Place
  all = places_under (pages_seen start) Index counts.levels root

  abbrev budget : ℕ
  budget = start.asked + size_under (pages_seen start) counts.levels root

  seen_search : IsSearchableIndex (pages_seen start) descends seen_values counts.levels root
  seen_search = searchable (pages_seen start) widths descends root counts number checked

  abbrev here : FollowsIn start now root cursor last prefixes seen_values counts.levels
  here = f.follows steady widths descends counts enough number checked

  abbrev listed : IsListed (pages_seen start) seen_values counts.levels root cursor now.asked budget here.rows
  listed = here.listed

  long_given : (row : Row) → Contains here.rows row → widths.key ≤ length row
  long_given row h =
      let there = subst (λ (l : List Row). Contains l row) listed.rows_are h in
      let x = mapped_at seen_values listed.given there.0 row (slice_get_read (map seen_values listed.given) (length (map seen_values listed.given)) there.0 row refl there.1 (sym there.2)) in
      subst (λ (r : Row). widths.key ≤ length r) x.is
      (long_entry (pages_seen start) widths descends root counts number checked x.x
      (subst (λ (l : List Place). Contains l x.x) listed.whole (Contains-append_left listed.given listed.rest x.x (get_contains listed.given there.0 x.x x.at))))

  long_before : (one : Row) → here.before ≡ Some one → length prefixes.distinct.items ≤ length one
  long_before one is =
      let ends = subst (λ (o : Option Row). EndsWith here.rows o) is here.ends in
      let long = long_given one (get_contains here.rows (length ends.0) one
      (subst (λ (l : List Row). slice_get l (length ends.0) ≡ Some one) (sym ends.1) (behind ends.0 one []))) in
      let wide = f.long in
      omega (arith, long, wide, enough)

  pub never : ((pages : Pages) (levels : ℕ) (places : List Place) (asked budget : ℕ) → IsAt pages Index levels cursor places asked budget → ⊥) → ⊥
  never none = none _ _ _ _ _ listed.at

  -- the cursor is past the last entry
  all_given : Tells cursor None → here.rows ≡ map seen_values all
  all_given told =
      let none : listed.rest ≡ [] = ended (pages_seen start) listed.rest (told _ _ _ _ _ listed.at) in
      let whole : listed.given ≡ all = sym (append-nil listed.given) ∙ ap (λ (r : List Place). listed.given ++ r) (sym none) ∙ listed.whole in
      listed.rows_are ∙ ap (λ (p : List Place). map seen_values p) whole

  pub has_prefixes : Tells cursor None → HasPrefixes (pages_seen start) root width prefixes
  has_prefixes told = counted_all (pages_seen start) widths descends root counts number checked width prefixes f.long
      (subst (λ (l : List Row). IsCounted l prefixes) (all_given told) here.counted)

  -- the cursor is at an entry
  module _ (cell : CellData) (told : Tells cursor (Some cell)) where
    abbrev first : Begins (pages_seen start) listed.rest cell
    first = begins (pages_seen start) listed.rest cell (told _ _ _ _ _ listed.at)

    splits : listed.given ++ first.place ∷ first.more ≡ all
    splits = ap (λ (r : List Place). listed.given ++ r) (sym first.is) ∙ listed.whole

    among : Contains all first.place
    among = get_contains all (length listed.given) first.place
        (subst (λ (l : List Place). slice_get l (length listed.given) ≡ Some first.place) splits (behind listed.given first.place first.more))

    long_first : length prefixes.distinct.items ≤ length (seen_values first.place)
    long_first =
        let long = long_entry (pages_seen start) widths descends root counts number checked first.place among in
        let wide = f.long in
        omega (arith, long, wide, enough)

    -- its record, as the pager sees it
    pub has_record : HasRecord (pages_seen now) cell (seen_values first.place)
    has_record = subst (λ (p : Pages). HasRecord p cell (seen_values first.place)) (sym (same_pages _ _ f.stays))
        (has_values (pages_seen start) descends seen_values counts.levels root seen_search first.place cell among first.entry)

    module _ (read : PagerState) (chains : AsksChainsOnly now read) where
      -- overflow pages leave the cursor where it stands
      pub still_at : IsAt (pages_seen read) Index counts.levels cursor listed.rest read.asked budget
      still_at =
          subst (λ (a : ℕ). IsAt (pages_seen read) Index counts.levels cursor listed.rest a budget) (sym chains.unasked)
          (subst (λ (p : Pages). IsAt p Index counts.levels cursor listed.rest now.asked budget)
          (sym (same_pages _ _ (SameImage-trans _ _ _ f.stays chains.image))) listed.at)

      -- and so the entry is counted, and the cursor stands at the next one
      pub one_more : (then : PagerState) (next : Cursor) (after : LastData) (more : Prefixes)
          → CountsEntry prefixes more last after (seen_values first.place) → HasStepped read then cursor next
          → FollowsIn start then root next after more seen_values counts.levels
      one_more then next after more is stepped =
          let stays = SameImage-trans _ _ _ f.stays chains.image in
          let gone = (stepped.lists (still_steady _ _ stays steady) Index counts.levels listed.rest _ still_at).0 in
          record {
            rows = here.rows ++ seen_values first.place ∷ [];
            before = Some (seen_values first.place);
            listed = record {
              given = listed.given ++ first.place ∷ [];
              rest = drop 1 listed.rest;
              whole = append_assoc listed.given (first.place ∷ []) (drop 1 listed.rest)
                  ∙ ap (λ (r : List Place). listed.given ++ r) (ap (λ (r : List Place). first.place ∷ drop 1 r) first.is ∙ sym first.is) ∙ listed.whole;
              at = subst (λ (p : Pages). IsAt p Index counts.levels next (drop 1 listed.rest) then.asked budget) (same_pages _ _ stays) gone;
              rows_are = ap (λ (l : List Row). l ++ seen_values first.place ∷ []) listed.rows_are ∙ sym (map_push seen_values listed.given first.place);
            };
            ends = (here.rows, refl);
            last_is = is.last_is;
            counted = is.counted here.rows here.before here.ends here.last_is long_before long_first here.counted;
          }
