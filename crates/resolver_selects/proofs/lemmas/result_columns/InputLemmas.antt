-- Columns of FROM, over the rows that result columns speak of.
use Rattle.std.proofs.Common.{◌≡◌, ◌==◌, false, List, [], ◌∷◌, Result, Ok, None, length, map, refl, ap}
use Rattle.values.specs.declared.fault.Fault.{Fault}
use Rattle.semantics_names.specs.Outcome.{both, each, followed}
use Rattle.semantics_names.specs.Statement.{ResultColumn, some_of}
use Rattle.resolver_selects.specs.result_columns.Inputs.{over_rows}

-- over its own rows they are themselves
pub all_themselves : (rs : List ResultColumn) → each (over_rows None) rs ≡ Ok rs
all_themselves [] = refl
all_themselves (r ∷ rs) = ap (λ rest. both ◌∷◌ (Ok r) rest) (all_themselves rs)

-- there are some
pub some_are : {A : Type 0} (view : A → ResultColumn) (fault : Fault) (F : List ResultColumn → Result (List ResultColumn) Fault) (xs : List A)
    → (length xs == 0) ≡ false → followed (some_of fault (map view xs)) F ≡ F (map view xs)
some_are view fault F [] e = absurd cc
some_are view fault F (x ∷ xs) e = refl
