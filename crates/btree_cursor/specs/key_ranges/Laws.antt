-- What a search stands for.
use Rattle.std.specs.Prelude.{◌≡◌, ◌≤◌, Bool, true, false, List, length, map, All, IsPermutation}
use Rattle.std.specs.List.{filter}
use Rattle.values.specs.Datum.{Datum}
use Rattle.btree_cursor.specs.key_ranges.Ranges.{Range, from_cut, to_cut, has_null, is_within, meets, width}

-- where no bound is NULL, the entries between the cuts of a range are those that meet it
abbrev pub CutsAreRange : Type 0
CutsAreRange = (descends : List Bool) (range : Range) (entry : List Datum) → has_null range ≡ false → width range ≤ length entry
    → is_within descends (from_cut descends range) (to_cut descends range) entry ≡ meets range.equal range.lower range.upper entry

-- where one is, none meets it
abbrev pub NullMeetsNothing : Type 0
NullMeetsNothing = (range : Range) (entry : List Datum) → has_null range ≡ true → meets range.equal range.lower range.upper entry ≡ false

-- A search of a tree: `entries` are those of the rows that the tree covers, each as often; `within` tells which of them
-- the search gives, and `fetch` the row of an entry; `chosen` rows are those on which the search's conjuncts are true.
pub record IsSearchOf (rows list : List (List Datum)) (covered chosen : List Datum → Bool) (entry_of : List Datum → List Datum)
    (within : List Datum → Bool) (fetch : List Datum → List Datum) : Type 0 where
  pub entries : IsPermutation list (map entry_of (filter covered rows))
  pub agree : All (λ row. within (entry_of row) ≡ chosen row) rows
  pub covers : All (λ row. chosen row ≡ true → covered row ≡ true) rows
  pub back : All (λ row. fetch (entry_of row) ≡ row) rows

-- it gives exactly the rows on which its conjuncts are true, each as often
abbrev pub SearchIsFilter : Type 0
SearchIsFilter = (rows entries : List (List Datum)) (covered chosen : List Datum → Bool) (entry_of : List Datum → List Datum)
    (within : List Datum → Bool) (fetch : List Datum → List Datum) → IsSearchOf rows entries covered chosen entry_of within fetch
    → IsPermutation (map fetch (filter within entries)) (filter chosen rows)
