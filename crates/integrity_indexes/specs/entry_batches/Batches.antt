-- The entries of a batch, whose codes are joined.
use Rattle.std.specs.Prelude.{◌≡◌, ◌<◌, ◌≤◌, ◌<ℤ◌, ◌∷◌, [], ℕ, ℤ, zero, suc, List, Some, length, slice_get, slice_range}
use Rattle.integrity_trees.specs.wanted_entries.Bags.{Coded}
use Rattle.integrity_indexes.specs.declared.entry_batches.batch.Slot.{Slot}

-- keys ascend
abbrev pub Ascend : List Slot → Type 0
Ascend slots = (i j : ℕ) (a b : Slot) → i < j → slice_get slots i ≡ Some a → slice_get slots j ≡ Some b → a.key <ℤ b.key

-- the slot at a place has this key
pub record HasKeyAt (slots : List Slot) (key : ℤ) (place : ℕ) : Type 0 where
  pub slot : Slot
  pub at : slice_get slots place ≡ Some slot
  pub key_is : slot.key ≡ key

-- the keys of all slots are below this one
abbrev pub AreBelow : ℤ → List Slot → Type 0
AreBelow key slots = (place : ℕ) (slot : Slot) → slice_get slots place ≡ Some slot → slot.key <ℤ key

-- so are those of all entries
abbrev pub ComeBefore : ℤ → List Coded → Type 0
ComeBefore key entries = (place : ℕ) (entry : Coded) → slice_get entries place ≡ Some entry → entry.key <ℤ key

-- the codes lie one behind the other, from `start` on, within so many bytes
abbrev pub IsCut : ℕ → List Slot → ℕ → Type 0
IsCut start [] most = start ≤ most
IsCut start (slot ∷ slots) most = (start ≤ slot.end) × IsCut slot.end slots most

-- where the last of them ends
abbrev pub last_end : ℕ → List Slot → ℕ
last_end start [] = start
last_end start (slot ∷ slots) = last_end slot.end slots

-- the code at a place
abbrev pub code_at : ℕ → List Slot → List ℕ → ℕ → List ℕ
code_at start [] codes place = []
code_at start (slot ∷ slots) codes zero = slice_range codes start slot.end
code_at start (slot ∷ slots) codes (suc place) = code_at slot.end slots codes place

-- the entries
abbrev pub coded : ℕ → List Slot → List ℕ → List Coded
coded start [] codes = []
coded start (slot ∷ slots) codes = record { key = slot.key; code = slice_range codes start slot.end } ∷ coded slot.end slots codes

pub record IsBatch (slots : List Slot) (codes : List ℕ) : Type 0 where
  pub ascend : Ascend slots
  pub cut : IsCut 0 slots (length codes)
