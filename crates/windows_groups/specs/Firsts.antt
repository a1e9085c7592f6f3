-- The first of many elements in order: which are kept while they come, and that they begin all. (SELECT, "The LIMIT clause")
use Rattle.std.specs.Prelude.{◌≡◌, ◌≤◌, ◌<◌, ◌++◌, ⊤, ℕ, max, All, Bool, List, None, Option, Some, IsPermutation, count_by, not, take}
use Rattle.std.specs.List.Sorted.{IsSortedBy}
use Rattle.windows_groups.specs.declared.first_in_order.TheConstants.{LEAST_GATHERED}

-- as many of these as are looked for, if not all
abbrev pub at_most : {X : Type 0} → Option ℕ → List X → List X
at_most None xs = xs
at_most (Some n) xs = take n xs

-- as many of these as are looked for come before an element, or tie with it
abbrev pub IsBehind : {X : Type 0} → (X → X → Bool) → Option ℕ → List X → X → Type 0
IsBehind less None kept x = ⊥
IsBehind less (Some most) kept x = most ≤ count_by (λ y. not (less x y)) kept

-- of all these elements only such were dropped as are behind those that are kept
pub record IsKeptOf {X : Type 0} (less : X → X → Bool) (most : Option ℕ) (kept all : List X) : Type 0 where
  pub dropped : List X
  pub same : IsPermutation all (kept ++ dropped)
  pub behind : All (IsBehind less most kept) dropped

-- of all these elements some are kept, of which the first ascend
pub record KeepsOf {X : Type 0} (less : X → X → Bool) (most : Option ℕ) (first more all : List X) : Type 0 where
  pub ascends : IsSortedBy less first
  pub of_all : IsKeptOf less most (first ++ more) all

-- as many as are looked for are the first of some permutation of all that ascends
pub record BeginsAll {X : Type 0} (less : X → X → Bool) (most : Option ℕ) (first all : List X) : Type 0 where
  pub ordered : List X
  pub same : IsPermutation all ordered
  pub ascends : IsSortedBy less ordered
  pub begins : at_most most ordered ≡ at_most most first

-- there are no more than are looked for
abbrev pub AreAtMost : Option ℕ → ℕ → Type 0
AreAtMost None count = ⊤
AreAtMost (Some most) count = count ≤ most

-- there are fewer than as many as are gathered before those behind are let go
abbrev pub HasRoom : Option ℕ → ℕ → Type 0
HasRoom None count = ⊤
HasRoom (Some most) count = count < max most LEAST_GATHERED
