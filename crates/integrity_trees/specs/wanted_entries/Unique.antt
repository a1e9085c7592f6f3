-- Entries that agree in an index's columns, and how many different first values entries have. (CREATE INDEX, "Unique Indexes")
use Rattle.std.specs.Prelude.{◌≡◌, ◌≢◌, ◌<◌, ◌+◌, ℕ, suc, Bool, IsTrue, [], ◌∷◌, List, length, map, slice_get, take, Some}
use Rattle.std.specs.Ordering.{is_lt}
use Rattle.values.specs.Datum.{null}
use Rattle.values.specs.Row.{Row}
use Rattle.btree_cursor.specs.key_ranges.Ranges.{key_cmp}
use Rattle.integrity_trees.specs.wanted_entries.Bags.{IsOnce, AreIn}

-- two rows agree in so many values
abbrev pub Agree : ℕ → Row → Row → Type 0
Agree width a b = take width a ≡ take width b

abbrev pub HasNoNull : Row → Type 0
HasNoNull values = (at : ℕ) → slice_get values at ≡ Some null → ⊥

-- two entries agree in all indexed columns, and none of these values is NULL
pub record IsNotUnique (width : ℕ) (entries : List Row) : Type 0 where
  pub one : ℕ
  pub other : ℕ
  pub a : Row
  pub b : Row
  pub differ : one ≢ other
  pub one_at : slice_get entries one ≡ Some a
  pub other_at : slice_get entries other ≡ Some b
  pub agree : Agree width a b
  pub full : HasNoNull (take width a)

-- each entry comes before those behind it, whichever columns descend
abbrev pub StandInOrder : List Bool → List Row → Type 0
StandInOrder descends entries = (i j : ℕ) (a b : Row) → i < j → slice_get entries i ≡ Some a → slice_get entries j ≡ Some b
    → IsTrue (is_lt (key_cmp descends a b))

-- entries with the same first values stand together, as they do in the order of an index
abbrev pub AreTogether : ℕ → List Row → Type 0
AreTogether width entries = (i j k : ℕ) (a b c : Row) → i < j → j < k → slice_get entries i ≡ Some a → slice_get entries j ≡ Some b
    → slice_get entries k ≡ Some c → Agree width a c → Agree width a b

-- no two neighbours agree in all indexed columns without a NULL
abbrev pub AreApart : ℕ → List Row → Type 0
AreApart width entries = (i : ℕ) (a b : Row) → slice_get entries i ≡ Some a → slice_get entries (i + 1) ≡ Some b
    → HasNoNull (take width a) → ¬ Agree width a b

-- so many lists are first values of entries: a list of them, each once, has this length
pub record IsPrefixCount (width : ℕ) (entries : List Row) (count : ℕ) : Type 0 where
  pub prefixes : List Row
  pub once : IsOnce prefixes
  pub all : AreIn (map (take width) entries) prefixes
  pub only : AreIn prefixes (map (take width) entries)
  pub count_is : length prefixes ≡ count

-- how often the first values change from one entry to the next, the first entry included
pub data IsRunCount (width : ℕ) : List Row → ℕ → Type 0 where
  none : IsRunCount width [] 0
  one : {a : Row} → IsRunCount width (a ∷ []) 1
  same : {a b : Row} {rest : List Row} {n : ℕ} → Agree width a b → IsRunCount width (b ∷ rest) n → IsRunCount width (a ∷ b ∷ rest) n
  more : {a b : Row} {rest : List Row} {n : ℕ} → ¬ Agree width a b → IsRunCount width (b ∷ rest) n → IsRunCount width (a ∷ b ∷ rest) (suc n)
