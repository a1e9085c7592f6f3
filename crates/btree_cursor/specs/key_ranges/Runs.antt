-- What a cursor gives that goes from one cut of an ascending list to another.
use Rattle.std.specs.Prelude.{◌≡◌, ◌≤◌, All, Bool, true, false, if◌then◌else◌, length, List, [], ◌∷◌, ⊤}
use Rattle.std.specs.List.{filter, list_all}
use Rattle.std.specs.Ordering.{is_lt}
use Rattle.values.specs.Datum.{Datum}
use Rattle.btree_cursor.specs.key_ranges.Ranges.{Cut, Range, from_cut, has_null, is_before, is_within, key_cmp, meets, to_cut, width}

-- what is left from the first on that fails a test
abbrev pub skip_while : {X : Type 0} → (X → Bool) → List X → List X
skip_while test [] = []
skip_while test (x ∷ xs) = if test x then skip_while test xs else x ∷ xs

-- what stands before the first that fails it
abbrev pub take_while : {X : Type 0} → (X → Bool) → List X → List X
take_while test [] = []
take_while test (x ∷ xs) = if test x then x ∷ take_while test xs else []

-- each entry comes before all later ones
abbrev pub Ascend : List Bool → List (List Datum) → Type 0
Ascend descends [] = ⊤
Ascend descends (x ∷ xs) = (list_all (λ y. is_lt (key_cmp descends x y)) xs ≡ true) × Ascend descends xs

-- the entries between two cuts are those that a cursor meets from the first that isn't before one up to the first that
-- isn't before the other
abbrev pub CutsAreOneRun : Type 0
CutsAreOneRun = (descends : List Bool) (from to : Cut) (entries : List (List Datum)) → Ascend descends entries
    → filter (is_within descends from to) entries ≡ take_while (is_before descends to) (skip_while (is_before descends from) entries)

-- so the entries that meet a range are those from its start to its end
abbrev pub RangeIsOneRun : Type 0
RangeIsOneRun = (descends : List Bool) (range : Range) (entries : List (List Datum)) → Ascend descends entries → has_null range ≡ false
    → All (λ entry. width range ≤ length entry) entries
    → filter (meets range.equal range.lower range.upper) entries
    ≡ take_while (is_before descends (to_cut descends range)) (skip_while (is_before descends (from_cut descends range)) entries)
