-- The numbers of a list, each once.
use Rattle.std.specs.Prelude.{Bool, ℕ, zero, suc, List, [], ◌∷◌, ◌++◌, nat_eq, if◌then◌else◌}
use Rattle.std.specs.List.{list_any}

abbrev pub has_number : List ℕ → ℕ → Bool
has_number numbers x = list_any (λ y. nat_eq y x) numbers

-- those of a list that weren't met before it, each where it stands first
abbrev pub firsts : List ℕ → List ℕ → List ℕ
firsts met [] = []
firsts met (x ∷ xs) = if has_number met x then firsts met xs else x ∷ firsts (met ++ x ∷ []) xs

-- where a number stands first, and behind the list where it doesn't stand in it
abbrev pub place_of : List ℕ → ℕ → ℕ
place_of [] x = zero
place_of (y ∷ numbers) x = if nat_eq y x then zero else suc (place_of numbers x)
