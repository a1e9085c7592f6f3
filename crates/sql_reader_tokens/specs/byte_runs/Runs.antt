-- What a reader that goes from left to right takes from the front of bytes, and what it leaves.
use Rattle.std.specs.Prelude.{ℕ, Bool, true, false, List, [], ◌∷◌, Option, Some, None, nat_eq, if◌then◌else◌}

abbrev pub Taken : Type 0
Taken = List ℕ × List ℕ

abbrev pub cons_taken : ℕ → Taken → Taken
cons_taken b r = (b ∷ r.0, r.1)

-- the longest run, and what is behind it
abbrev pub run_of : (ℕ → Bool) → List ℕ → Taken
run_of p [] = ([], [])
run_of p (b ∷ bs) = if p b then cons_taken b (run_of p bs) else ([], b ∷ bs)

abbrev pub cons_some : ℕ → Option Taken → Option Taken
cons_some b None = None
cons_some b (Some r) = Some (cons_taken b r)

-- what stands before the closing quote, as it is written, and what is behind; `passed` says whether a quote was just
-- passed, which a second one doubles
abbrev pub quoted : ℕ → Bool → List ℕ → Option Taken
quoted quote false [] = None
quoted quote true [] = Some ([], [])
quoted quote false (b ∷ bs) = if nat_eq b quote then quoted quote true bs else cons_some b (quoted quote false bs)
quoted quote true (b ∷ bs) =
    if nat_eq b quote then cons_some quote (cons_some quote (quoted quote false bs)) else Some ([], b ∷ bs)
