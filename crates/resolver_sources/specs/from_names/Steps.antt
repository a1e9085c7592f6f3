-- One step after another, up to the first fault.
use Rattle.std.specs.Prelude.{List, [], ◌∷◌, Result}
use Rattle.values.specs.declared.fault.Fault.{Fault}
use Rattle.semantics_names.specs.Outcome.{followed}

abbrev pub stepped : {S X : Type 0} → (S → X → Result S Fault) → Result S Fault → List X → Result S Fault
stepped step so_far [] = so_far
stepped step so_far (x ∷ xs) = stepped step (followed so_far (λ s. step s x)) xs
