-- What calls answer that make a tree, or refuse.
use Rattle.std.specs.Prelude.{◌≡◌, ◌⊎◌, Result, Ok, Err}
use Rattle.values.specs.declared.fault.Fault.{Fault}
use Rattle.values.specs.declared.fault.Fault.TheVariants.{NoMemory}

-- A tree exactly where there is one, and that one, or exactly the fault that stands in its place; want of memory says nothing.
abbrev pub Gives : {A B : Type 0} → (A → B) → Result A Fault → Result B Fault → Type 0
Gives view (Ok a) outcome = outcome ≡ Ok (view a)
Gives view (Err fault) outcome = (fault ≡ NoMemory) ⊎ (outcome ≡ Err fault)
