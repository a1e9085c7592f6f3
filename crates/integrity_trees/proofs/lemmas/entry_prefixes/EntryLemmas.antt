-- The entries of an index that was checked.
use Rattle.std.proofs.Common.{◌≡◌, ◌≤◌, ℕ, Bool, Contains, IsPermutation, IsTrue, List, Some, length, map, slice_get, subst}
use Rattle.std.specs.Ordering.{is_lt}
use Rattle.values.specs.Row.{Row}
use Rattle.records.specs.Record.{IsRecord}
use Rattle.records.proofs.RecordLemmas.{one_record}
use Rattle.btree.specs.declared.image.kind.TreeKind.TheVariants.{Index}
use Rattle.btree.specs.image.Cell.{CellData}
use Rattle.btree.specs.image.Entries.{AreEntriesOf}
use Rattle.btree.specs.image.Pages.{IsNumber, Pages}
use Rattle.btree.specs.image.Shape.{places_under}
use Rattle.btree.specs.image.Tree.{IsEntryAt, IsPlaceOf, Place}
use Rattle.btree.proofs.lemmas.image.ChainLemmas.{one_payload}
use Rattle.btree.proofs.lemmas.image.EntryLemmas.{entries_of}
use Rattle.btree.proofs.lemmas.image.ListLemmas.{get_contains}
use Rattle.btree_cursor.specs.key_ranges.Ranges.{key_cmp}
use Rattle.integrity_trees.specs.wanted_entries.Unique.{IsNotUnique, StandInOrder}
use Rattle.btree_cursor.specs.index_entries.Entries.{HasRecord}
use Rattle.btree_cursor.specs.cursor.Search.{IsSearchableIndex, entry_order}
use Rattle.integrity_trees.proofs.lemmas.entry_rows.ListedLemmas.{strict}
use Rattle.integrity_trees.specs.declared.tree_walk.counts.TreeCounts.{TreeCounts}
use Rattle.btree.proofs.KindLemmas.{one_entry}
use Rattle.integrity_trees.specs.declared.index_walk.tree.EntryWidths.{EntryWidths}
use Rattle.integrity_trees.specs.index_walk.Checked.{HasEntryValues, IsCheckedIndex}
use Rattle.integrity_trees.proofs.lemmas.index_walk.ValueLemmas.{has_values}
use Rattle.integrity_trees.specs.entry_prefixes.Entries.{HoldsEntries, StoresEntry}
use Rattle.integrity_trees.proofs.lemmas.entry_prefixes.ListLemmas.{beside, each_mapped, get_of, has_beside, mapped_at, same_values}

-- an entry has its values alone
module _ (pages : Pages) (place : Place) where
  entry_at : (values : Row) (stored : StoresEntry pages place values) → IsEntryAt pages Index place stored.has.cell
  entry_at values stored = record { level = stored.level; page = stored.page.header; is = stored.has.is.is; fits = stored.has.is.fits }

  pub one_values : (a b : Row) → StoresEntry pages place a → StoresEntry pages place b → a ≡ b
  one_values a b one other =
      let same = one_entry pages Index place one.has.cell other.has.cell (entry_at a one) (entry_at b other) in
      let has = subst (λ (c : CellData). HasRecord pages c a) same one.has.has in
      let bytes = one_payload pages other.has.cell.payload has.bytes other.has.has.bytes has.whole other.has.has.whole in
      one_record other.has.has.bytes a b (subst (λ (l : List ℕ). IsRecord l a) bytes has.record_is) other.has.has.record_is

module _ (pages : Pages) (widths : EntryWidths) (descends : List Bool) (root : ℕ) (counts : TreeCounts) (number : IsNumber pages root)
    (checked : IsCheckedIndex pages widths descends root counts) where
  pub held : HasEntryValues pages widths descends root
  held = has_values pages widths descends root counts checked

  abbrev pub values : Place → Row
  values = held.values

  abbrev pub places : List Place
  places = places_under pages Index counts.levels root

  abbrev pub entries : List Row
  entries = map values places

  pub searchable : IsSearchableIndex pages descends values counts.levels root
  searchable = record {
    tree = record { few = checked.few; number = number; shape = checked.shape };
    entries = held.entries;
    order = held.order;
  }

  pub in_order : AreEntriesOf pages (entry_order descends values) root places
  in_order = entries_of pages (entry_order descends values) (strict pages descends values counts.levels root searchable) root counts.levels checked.shape held.order

  pub entry_of_place : (place : Place) → IsPlaceOf pages Index root place → StoresEntry pages place (values place)
  entry_of_place place is = record {
    level = is.level;
    page = is.page;
    has = (held.entries is.level place.page is.reaches is.page).each place.index is.within;
  }

  pub holds_entries : HoldsEntries pages root entries
  holds_entries = record {
    places = places;
    cells = in_order.cells;
    entries_are = each_mapped (StoresEntry pages) values places (λ place h. entry_of_place place (in_order.cells.sound place h));
  }

  -- each has the values of its key
  pub long_entry : (place : Place) → Contains places place → widths.key ≤ length (values place)
  long_entry place h = (held.long place (in_order.cells.sound place h)).least

  pub stand : StandInOrder descends entries
  stand i j a b less at_a at_b =
      let x = mapped_at values places i a at_a in
      let y = mapped_at values places j b at_b in
      subst (λ (r : Row). IsTrue (is_lt (key_cmp descends r b))) x.is
      (subst (λ (r : Row). IsTrue (is_lt (key_cmp descends (values x.x) r))) y.is (in_order.ascend i j x.x y.x less x.at y.at))

-- the entries of an index are one bag, in whichever order they are told
module _ (pages : Pages) (root : ℕ) (a b : List Row) (one : HoldsEntries pages root a) (other : HoldsEntries pages root b) where
  pub same_entries : IsPermutation a b
  same_entries = same_values (StoresEntry pages) (one_values pages) one.places other.places a b one.entries_are other.entries_are
      one.cells.once other.cells.once
      (λ place h. other.cells.complete place (one.cells.sound place h)) (λ place h. one.cells.complete place (other.cells.sound place h))

  -- an entry of one list stands in the other at one place
  record IsThere (i : ℕ) (values : Row) : Type 0 where
    place : Place
    index : ℕ
    at : slice_get other.places i ≡ Some place
    there : slice_get one.places index ≡ Some place
    has : slice_get a index ≡ Some values

  is_there : (i : ℕ) (values : Row) → slice_get b i ≡ Some values → IsThere i values
  is_there i values at =
      let left = beside (StoresEntry pages) other.places b i values other.entries_are at in
      let h = one.cells.complete left.x (other.cells.sound left.x (get_contains other.places i left.x left.at)) in
      let found = get_of one.places left.x h in
      let right = has_beside (StoresEntry pages) one.places a h.0 left.x one.entries_are found in
      let same = one_values pages left.x right.y values right.holds left.holds in
      record { place = left.x; index = h.0; at = left.at; there = found; has = subst (λ (r : Row). slice_get a h.0 ≡ Some r) same right.at }

  -- so that one has entries that agree where the other has
  pub still_repeated : (columns : ℕ) → IsNotUnique columns b → IsNotUnique columns a
  still_repeated columns two =
      let x = is_there two.one two.a two.one_at in
      let y = is_there two.other two.b two.other_at in
      record {
        one = x.index;
        other = y.index;
        a = two.a;
        b = two.b;
        differ = λ e. two.differ (other.cells.once two.one two.other y.place
            (subst (λ (p : Place). slice_get other.places two.one ≡ Some p) (one_at x.index y.index x.place y.place e x.there y.there) x.at) y.at);
        one_at = x.has;
        other_at = y.has;
        agree = two.agree;
        full = two.full;
      }
    where
      one_at : (i j : ℕ) (p q : Place) → i ≡ j → slice_get one.places i ≡ Some p → slice_get one.places j ≡ Some q → p ≡ q
      one_at i j p q e at_p at_q = cc
