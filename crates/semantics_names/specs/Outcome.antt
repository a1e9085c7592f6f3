-- What is handed out, or the fault that stands in its place.
use Rattle.std.specs.Prelude.{Bool, true, false, List, [], ◌∷◌, Option, Some, None, Result, Ok, Err}
use Rattle.values.specs.declared.fault.Fault.{Fault}

abbrev pub also : {A B : Type 0} → (A → B) → Result A Fault → Result B Fault
also g (Ok a) = Ok (g a)
also g (Err fault) = Err fault

-- the first fault, from left to right
abbrev pub both : {A B C : Type 0} → (A → B → C) → Result A Fault → Result B Fault → Result C Fault
both g (Ok a) b = also (g a) b
both g (Err fault) b = Err fault

abbrev pub followed : {A B : Type 0} → Result A Fault → (A → Result B Fault) → Result B Fault
followed (Ok a) g = g a
followed (Err fault) g = Err fault

-- what is known already, or else this
abbrev pub chosen : {A : Type 0} → Result (Option A) Fault → Result A Fault → Result A Fault
chosen (Ok (Some a)) outcome = Ok a
chosen (Ok None) outcome = outcome
chosen (Err fault) outcome = Err fault

-- each of a list, or the first fault
abbrev pub each : {A B : Type 0} → (A → Result B Fault) → List A → Result (List B) Fault
each f [] = Ok []
each f (x ∷ xs) = both ◌∷◌ (f x) (each f xs)

-- where a rule isn't kept, the fault of that rule
abbrev pub checked : {A : Type 0} → Bool → Fault → Result A Fault → Result A Fault
checked true fault outcome = outcome
checked false fault outcome = Err fault

-- what has to be there
abbrev pub found_or : {A : Type 0} → Fault → Option A → Result A Fault
found_or fault None = Err fault
found_or fault (Some a) = Ok a
