-- Lists none of whose elements stands twice, and which of them are one bag.
use Rattle.std.specs.Prelude.{◌≡◌, ℕ, ℤ, Contains, List, slice_get, Option, Some}
use Rattle.values.specs.Bounds.{IsAbove, IsAtMost}

-- an entry by its key, which is that of its row, and the code of its values
pub record Coded : Type 0 where
  pub key : ℤ
  pub code : List ℕ

-- no element stands at two places
abbrev pub IsOnce : {X : Type 0} → List X → Type 0
IsOnce {X} xs = (i j : ℕ) (x : X) → slice_get xs i ≡ Some x → slice_get xs j ≡ Some x → i ≡ j

-- each element of one list is in the other
abbrev pub AreIn : {X : Type 0} → List X → List X → Type 0
AreIn {X} xs ys = (x : X) → Contains xs x → Contains ys x

-- the keys that one batch is for
abbrev pub IsWithin : Option ℤ → Option ℤ → ℤ → Type 0
IsWithin low high key = IsAbove low key × IsAtMost high key

-- the entries whose keys are in this range are in the list
abbrev pub ArePlaced : List Coded → Option ℤ → Option ℤ → List Coded → Type 0
ArePlaced entries low high wanted = (x : Coded) → Contains entries x → IsWithin low high x.key → Contains wanted x

-- an entry whose key is in this range, and that isn't in the list
pub record IsStray (entries : List Coded) (low high : Option ℤ) (wanted : List Coded) : Type 0 where
  pub entry : Coded
  pub is : Contains entries entry
  pub within : IsWithin low high entry.key
  pub lacks : ¬ Contains wanted entry

-- the list is cut: what it has in this range of keys is the batch
abbrev pub IsBatchOf : List Coded → Option ℤ → Option ℤ → List Coded → Type 0
IsBatchOf wanted low high batch = (x : Coded) → IsWithin low high x.key → Contains wanted x → Contains batch x
