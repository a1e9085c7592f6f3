-- Names, which are the same where they differ in ASCII case alone. (SQL As Understood By SQLite)
use Rattle.std.specs.Prelude.{◌≡◌, ◌<◌, ℕ, Bool, List, bytes_eq, codes, length, map, slice_get, Some, take}
use Rattle.std.specs.Char.{to_ascii_lowercase}
use Rattle.sql_reader_syntax.specs.Tree.{Name}

abbrev pub IsSameName : Name → Name → Type 0
IsSameName a b = map to_ascii_lowercase a ≡ map to_ascii_lowercase b

-- the same as a test
abbrev pub same_name : Name → Name → Bool
same_name a b = bytes_eq (map to_ascii_lowercase a) (map to_ascii_lowercase b)

-- the name at this place is this one
pub record IsNameAt (names : List Name) (name : Name) (place : ℕ) : Type 0 where
  pub other : Name
  pub stands : slice_get names place ≡ Some other
  pub named : IsSameName other name

-- of no two of these, one before the other, the relation holds
abbrev pub AreApart : {A : Type 0} → (A → A → Type 0) → List A → Type 0
AreApart {A = A} R xs = (i j : ℕ) (a b : A) → i < j → slice_get xs i ≡ Some a → slice_get xs j ≡ Some b → ¬ R a b

-- no two of the names are the same
abbrev pub AreDistinct : List Name → Type 0
AreDistinct = AreApart IsSameName

-- a name that only SQLite gives: it begins with `sqlite_`
abbrev pub IsReservedName : Name → Type 0
IsReservedName name = IsSameName (take (length (codes "sqlite_")) name) (codes "sqlite_")
