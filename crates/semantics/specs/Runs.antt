-- Inner joins of several sources, whose order makes no difference: each row is a choice of one row from each source that
-- every ON keeps. (SELECT, "Determination of input data")
use Rattle.std.specs.Prelude.{◌≡◌, ℕ, Bool, ◌&&◌, true, List, [], ◌∷◌, ◌++◌, All, filter, flat_map, map, IsPermutation}
use Rattle.std.specs.Ordering.{nat_cmp, on, then_cmp}
use Rattle.std.specs.declared.cmp.Ordering.{Ordering}
use Rattle.values.specs.Order.{row_cmp}
use Rattle.values.specs.Row.{Row}
use Rattle.semantics.specs.Joins.{pairs}
use Rattle.semantics.specs.Sequence.{sorted}

-- one row of each source, in the order of the sources
abbrev pub choices : {X : Type 0} → List (List X) → List (List X)
choices [] = [] ∷ []
choices (rows ∷ sources) = flat_map (λ row. map (λ rest. row ∷ rest) (choices sources)) rows

-- a row with the place of its source, as it is written
abbrev pub Placed : Type 0
Placed = ℕ × Row

abbrev pub placed_cmp : Placed → Placed → Ordering
placed_cmp = then_cmp (on (λ (p : Placed). p.0) nat_cmp) (on (λ (p : Placed). p.1) row_cmp)

-- the values of the rows, with the columns put back in the order in which their sources are written
abbrev pub put_back : List Placed → Row
put_back choice = flat_map (λ (p : Placed). p.1) (sorted placed_cmp choice)

-- sources joined in any order give the same bag, with the columns put back
abbrev pub JoinedInAnyOrder : Type 0
JoinedInAnyOrder = (sources others : List (List Placed)) → IsPermutation sources others
    → IsPermutation (map put_back (choices sources)) (map put_back (choices others))

-- ---- a run of inner joins from left to right

-- a source and its ON, which speaks of the values of the sources up to its own
pub record Joined : Type 0 where
  pub rows : List Row
  pub on : Row → Bool

abbrev pub joined_rows : List Row → List Joined → List Row
joined_rows ls [] = ls
joined_rows ls (next ∷ run) = joined_rows (pairs (λ l r. next.on (l ++ r)) ls next.rows) run

-- all conditions hold of the whole row
abbrev pub all_hold : List Joined → Row → Bool
all_hold [] row = true
all_hold (next ∷ run) row = next.on row && all_hold run row

-- a condition says of a longer row what it says of the one that it speaks of
abbrev pub SpeaksOf : (Row → Bool) → Row → Type 0
SpeaksOf condition l = (more : Row) → condition (l ++ more) ≡ condition l

-- each ON of a run speaks of the sources up to its own, beside this row of what stands before the run
abbrev pub SpeakInTurn : List Joined → Row → Type 0
SpeakInTurn [] l = Unit {0}
SpeakInTurn (next ∷ run) l = All (λ r. SpeaksOf next.on (l ++ r) × SpeakInTurn run (l ++ r)) next.rows

-- a row of the left side beside the rows of a choice
abbrev pub beside : List (List Row) → Row → List Row
beside sources l = map (λ choice. l ++ flat_map (λ r. r) choice) (choices sources)

-- a run of inner joins is the choices of one row from each source, side by side, on which every ON is true
abbrev pub RunIsFilter : Type 0
RunIsFilter = (ls : List Row) (run : List Joined) → All (SpeakInTurn run) ls
    → joined_rows ls run ≡ filter (all_hold run) (flat_map (beside (map (λ j. j.rows) run)) ls)
