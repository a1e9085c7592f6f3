-- A search for a whole key that is there.
use Rattle.std.proofs.Common.{◌≡◌, ◌∙◌, ◌+◌, ◌≤◌, ℕ, suc, zero, ℤ, Bool, true, false, ◌&&◌, List, [], ◌∷◌, length, Option, None, Some, refl, sym, ap, arith}
use Rattle.std.specs.Prelude.{Contains}
use Rattle.std.specs.List.{AllZip}
use Rattle.std.specs.Ordering.{int_cmp, is_eq}
use Rattle.std.specs.declared.cmp.Ordering.{Ordering}
use Rattle.std.specs.declared.cmp.Ordering.TheVariants.{Less, Equal, Greater}
use Rattle.std.proofs.lemmas.Cmp.{int_ranked}
use Rattle.values.specs.Datum.{Datum, null, int, text, blob}
use Rattle.btree.specs.declared.image.kind.TreeKind.TheVariants.{Table}
use Rattle.btree.specs.image.Pages.{Pages}
use Rattle.btree.specs.image.Shape.{places_under}
use Rattle.btree.specs.image.Tree.{Place}
use Rattle.btree_cursor.specs.cursor.Search.{HasRowWith}
use Rattle.btree_cursor.specs.key_ranges.Ranges.{Cut, Edge, Range, bounded_columns, from_cut, holds, meets, width}
use Rattle.schema_tables.specs.TableData.{TableData}
use Rattle.records_searches.specs.Entries.{AreWide, EntryData, HoldsRowEntries, IsRowEntry, entries_in}
use Rattle.records_searches.specs.Meets.{meets_range}
use Rattle.records_searches.specs.Work.{IsForOneKey}
use Rattle.records_searches.specs.declared.row_cuts.RowCut.TheVariants.{At}
use Rattle.records_searches.proofs.RunLemmas.{filter_drops}
use Rattle.records_searches.proofs.ZipLemmas.{zip_and}

-- an entry that meets a range, at its place
record IsMetAt (R : Place → EntryData → Type 0) (range : Range) (places : List Place) : Type 0 where
  place : Place
  entry : EntryData
  is_there : Contains places place
  is : R place entry
  met : meets_range range entry.values ≡ true

module _ (R : Place → EntryData → Type 0) (range : Range) where
  -- one of the entries, where there are some
  one_met : (places : List Place) (entries : List EntryData) → AllZip R places entries → (entries_in range entries ≡ [] → ⊥) → IsMetAt R range places
  one_met [] [] zip some = absurd (some refl)
  one_met [] (y ∷ ys) zip some = absurd zip
  one_met (x ∷ xs) [] zip some = absurd zip
  one_met (x ∷ xs) (y ∷ ys) zip some = by_test (meets_range range y.values) refl (λ others. later (one_met xs ys zip.1 others))
    where
      later : IsMetAt R range xs → IsMetAt R range (x ∷ xs)
      later m = record {
        place = m.place;
        entry = m.entry;
        is_there = (suc m.is_there.0, omega (arith, m.is_there.1), m.is_there.2);
        is = m.is;
        met = m.met;
      }

      by_test : (answer : Bool) → meets_range range y.values ≡ answer → ((entries_in range ys ≡ [] → ⊥) → IsMetAt R range (x ∷ xs)) → IsMetAt R range (x ∷ xs)
      by_test true met on = record { place = x; entry = y; is_there = (zero, omega arith, refl); is = zip.0; met = met }
      by_test false out on = on (λ none. some (filter_drops (λ entry. meets_range range entry.values) y ys out ∙ none))

-- ---- a rowid that is equal to a value is that value

same_number : (o : Ordering) (a b : ℤ) → int_cmp a b ≡ o → is_eq o ≡ true → b ≡ a
same_number Less a b is equal = absurd (let e : false ≡ true = equal in cc)
same_number Equal a b is equal = let e : a ≡ b = int_ranked a b Equal (sym is) in sym e
same_number Greater a b is equal = absurd (let e : false ≡ true = equal in cc)

is_key : (value : Datum) (rowid : ℤ) → holds is_eq (int rowid) value ≡ true → value ≡ int rowid
is_key null rowid equal = absurd (let e : false ≡ true = equal in cc)
is_key (int k) rowid equal = ap int (same_number (int_cmp rowid k) rowid k refl equal)
is_key (text bytes) rowid equal = absurd (let e : false ≡ true = equal in cc)
is_key (blob bytes) rowid equal = absurd (let e : false ≡ true = equal in cc)

and_left : (a b : Bool) → (a && b) ≡ true → a ≡ true
and_left true b is = refl
and_left false b is = is

-- a range of this rowid alone
pub record IsWholeKey (equal : List Datum) (lower upper : Option Edge) (rowid : ℤ) : Type 0 where
  pub equal_is : equal ≡ int rowid ∷ []
  pub lower_is : lower ≡ None
  pub upper_is : upper ≡ None

whole : (equal : List Datum) (lower upper : Option Edge) (rowid : ℤ) → (equal ≡ [] → ⊥) → length equal + bounded_columns lower upper ≤ 1
    → meets equal lower upper (int rowid ∷ []) ≡ true → IsWholeKey equal lower upper rowid
whole [] lower upper rowid some wide met = absurd (some refl)
whole (value ∷ []) None None rowid some wide met = record {
  equal_is = ap (λ (v : Datum). v ∷ []) (is_key value rowid (and_left (holds is_eq (int rowid) value) true met));
  lower_is = refl;
  upper_is = refl;
}
whole (value ∷ []) None (Some edge) rowid some wide met = absurd (omega (arith, wide))
whole (value ∷ []) (Some edge) None rowid some wide met = absurd (omega (arith, wide))
whole (value ∷ []) (Some edge) (Some other) rowid some wide met = absurd (omega (arith, wide))
whole (value ∷ (second ∷ more)) lower upper rowid some wide met = absurd (omega (arith, wide))

-- ---- the row that is sought is there

pub record IsKeyThere (pages : Pages) (levels root : ℕ) (range : Range) : Type 0 where
  pub rowid : ℤ
  pub whole : IsWholeKey range.equal range.lower range.upper rowid
  pub has : HasRowWith pages levels root rowid

module _ (pages : Pages) (table : TableData) (levels : ℕ) (range : Range) (entries : List EntryData) where
  abbrev IsHere : Place → EntryData → Type 0
  IsHere place entry = IsRowEntry pages table place entry × (width range ≤ length entry.values)

  pub key_there : HoldsRowEntries pages table levels entries → AreWide range entries → IsForOneKey range entries → IsKeyThere pages levels table.root range
  key_there holds wide one =
      let all = zip_and (IsRowEntry pages table) (λ entry. width range ≤ length entry.values) (places_under pages Table levels table.root) entries holds.each wide in
      let m = one_met IsHere range (places_under pages Table levels table.root) entries all one.there in
      let is = m.is.0 in
      let long : length m.entry.values ≡ 1 = ap length is.values_are in
      record {
        rowid = is.rowid;
        whole = whole range.equal range.lower range.upper is.rowid one.sought (let w = m.is.1 in omega (arith, w, long))
            (sym (ap (meets_range range) is.values_are) ∙ m.met);
        has = record { place = m.place; is_there = m.is_there; has = is.has };
      }

-- equal positions at rowids
pub at_parts : (a b : ℤ) (p q : Bool) → At a p ≡ At b q → (a ≡ b) × (p ≡ q)
at_parts a b p q e = ((let x : a ≡ b = cc in x), (let y : p ≡ q = cc in y))

-- a range of one key alone starts before it
before_it : (equal : List Datum) (lower upper : Option Edge) (rowid : ℤ) → IsWholeKey equal lower upper rowid → (from_cut [] (record { equal = equal; lower = lower; upper = upper })).behind ≡ false
before_it equal None None rowid is = ap (λ (l : List Datum). (from_cut [] (record { equal = l; lower = None; upper = None })).behind) is.equal_is
before_it equal None (Some edge) rowid is = absurd (let e : Some edge ≡ None = is.upper_is in cc)
before_it equal (Some edge) None rowid is = absurd (let e : Some edge ≡ None = is.lower_is in cc)
before_it equal (Some edge) (Some other) rowid is = absurd (let e : Some edge ≡ None = is.lower_is in cc)

pub starts_before : (range : Range) (rowid : ℤ) → IsWholeKey range.equal range.lower range.upper rowid → (cut : Cut) → cut ≡ from_cut [] range → cut.behind ≡ false
starts_before range rowid is cut same = ap (λ (c : Cut). c.behind) same ∙ before_it range.equal range.lower range.upper rowid is
