-- The entry that a walk met last, and the order of entries. (Database File Format, section 2.3 "Representation Of SQL Indices")
use Rattle.std.specs.Prelude.{◌≡◌, ◌≢◌, ◌⊎◌, ◌+◌, ◌<◌, ◌≤◌, ◌++◌, ℕ, Bool, List, [], ◌∷◌, length, Option, None, Some}
use Rattle.std.specs.declared.cmp.Ordering.TheVariants.{Less}
use Rattle.values.specs.Datum.{Datum}
use Rattle.values.specs.declared.fault.Fault.{Fault}
use Rattle.values.specs.declared.fault.Fault.TheVariants.{BadOrder, NoMemory}
use Rattle.records.specs.Record.{IsRecord}
use Rattle.btree.specs.declared.image.kind.TreeKind.TheVariants.{Index}
use Rattle.btree.specs.declared.image.kind.Level.{Level}
use Rattle.btree.specs.declared.image.kind.Level.TheVariants.{Leaf, Interior}
use Rattle.btree.specs.image.Broken.{IsInOrder}
use Rattle.btree.specs.image.Pages.{Pages}
use Rattle.btree.specs.image.Tree.{IsPageOf, IsUnder, Reaches, count_at}
use Rattle.btree_cursor.specs.index_entries.Entries.{HasValues}
use Rattle.btree_cursor.specs.key_ranges.Ranges.{key_cmp}
use Rattle.integrity_trees.specs.declared.index_walk.tree.EntryWidths.{EntryWidths}
use Rattle.integrity_trees.specs.declared.entry_prefixes.counting.Prefixes.{Prefixes}
use Rattle.integrity_trees.specs.entry_prefixes.Counting.{EndsWith, IsCounted}
use Rattle.integrity_trees.specs.index_walk.Widths.{IsOfWidth, key_of}

-- the page of an entry, the bytes of its record, and what the entries up to it show; there is no page before the first one
pub record LastData : Type 0 where
  pub page : Option ℕ
  pub bytes : List ℕ
  pub prefixes : Prefixes

-- entries are compared column by column of their keys, a descending one the other way round, and no two keys are alike
abbrev pub IsBefore : EntryWidths → List Bool → List Datum → List Datum → Type 0
IsBefore widths descends x y = key_cmp descends (key_of widths x) (key_of widths y) ≡ Less

-- the entries of page n ascend, and keep the bounds of each interior page above it
abbrev pub IsIndexOrder : Pages → EntryWidths → List Bool → ℕ → ℕ → Type 0
IsIndexOrder pages widths descends root n = IsInOrder (HasValues pages) (IsBefore widths descends) (IsBefore widths descends) pages Index root n

-- the last entry has these values, as many as it may have, where there is one
abbrev pub HasLast : EntryWidths → LastData → Option (List Datum) → Type 0
HasLast widths last None = last.page ≡ None
HasLast widths last (Some x) = (last.page ≢ None) × IsRecord last.bytes x × (IsOfWidth widths x)

-- these values come behind the last ones
abbrev pub ComesAfter : EntryWidths → List Bool → Option (List Datum) → List Datum → Type 0
ComesAfter widths descends None y = Unit {0}
ComesAfter widths descends (Some x) y = IsBefore widths descends x y

-- and so on, each behind the one before it
abbrev pub AscendFrom : EntryWidths → List Bool → Option (List Datum) → List (List Datum) → Type 0
AscendFrom widths descends last [] = Unit {0}
AscendFrom widths descends last (y ∷ rows) = ComesAfter widths descends last y × AscendFrom widths descends (Some y) rows

abbrev pub last_of : Option (List Datum) → List (List Datum) → Option (List Datum)
last_of last [] = last
last_of last (y ∷ rows) = last_of (Some y) rows

-- the last entry is entry j of page m
pub record IsLastAt (pages : Pages) (widths : EntryWidths) (last : LastData) (level : Level) (m j : ℕ) : Type 0 where
  pub page_is : last.page ≡ Some m
  pub values : List Datum
  pub record_is : IsRecord last.bytes values
  pub width_is : IsOfWidth widths values
  pub has : HasValues pages level m j values
  pub page : IsPageOf pages Index level m
  pub within : j < count_at pages m

-- a walk comes to page n: there is no last entry, or it is the one before the child of a page above that page n is under
abbrev pub IsFrom : Pages → EntryWidths → ℕ → LastData → ℕ → Type 0
IsFrom pages widths root last n = (last.page ≡ None)
    ⊎ ((a k : ℕ) × IsLastAt pages widths last Interior a k × Reaches pages Index root a × IsUnder pages Index a (k + 1) n)

-- the last entry is under page n
pub record IsLastUnder (pages : Pages) (widths : EntryWidths) (last : LastData) (n : ℕ) : Type 0 where
  pub level : Level
  pub m : ℕ
  pub j : ℕ
  pub at : IsLastAt pages widths last level m j
  pub reaches : Reaches pages Index n m

-- Which page is blamed where an entry of page n doesn't come behind the last one: an entry of an interior page bounds the page of
-- the last one, which is under its left child.
abbrev pub blamed_at : Level → ℕ → Option ℕ → ℕ
blamed_at Leaf n page = n
blamed_at Interior n None = n
blamed_at Interior n (Some m) = m

-- what entries showed and show, where these rows were counted behind others that end with the last one
pub record CountsRows (old new : Prefixes) (last : Option (List Datum)) (rows : List (List Datum)) : Type 0 where
  pub long : length new.distinct.items ≡ length old.distinct.items
  pub counted : (before : List (List Datum)) → EndsWith before last → IsCounted before old → IsCounted (before ++ rows) new

-- the entry whose record these bytes are was counted behind the last one, where no more columns are counted than a key has
abbrev pub CountsNext : EntryWidths → LastData → List ℕ → Prefixes → Type 0
CountsNext widths old bytes new = (last : Option (List Datum)) (row : List Datum) → HasLast widths old last → IsRecord bytes row
    → IsOfWidth widths row → length old.prefixes.distinct.items ≤ widths.key → CountsRows old.prefixes new last (row ∷ [])

-- a record comes after the last one, was counted, and is the last one now
pub record Follows (widths : EntryWidths) (descends : List Bool) (old : LastData) (bytes : List ℕ) (n : ℕ) (new : LastData) : Type 0 where
  pub page_is : new.page ≡ Some n
  pub bytes_is : new.bytes ≡ bytes
  pub after : (x y : List Datum) → old.page ≢ None → IsRecord old.bytes x → IsOfWidth widths x
      → IsRecord bytes y → IsOfWidth widths y → IsBefore widths descends x y
  pub counts : CountsNext widths old bytes new.prefixes

-- why not: memory ran out, or it doesn't come behind it
abbrev pub FollowsNot : EntryWidths → List Bool → LastData → List ℕ → ℕ → Fault → Type 0
FollowsNot widths descends old bytes blamed fault = (fault ≡ NoMemory) ⊎ ((fault ≡ BadOrder blamed) × (old.page ≢ None)
    × ((x y : List Datum) → IsRecord old.bytes x → IsOfWidth widths x → IsRecord bytes y → IsOfWidth widths y
    → ¬ IsBefore widths descends x y))
