-- A window's terms, and then its frame.
use Rattle.std.proofs.Common.{◌≡◌, Bool, Result, Ok, Err}
use Rattle.values.specs.declared.fault.Fault.{Fault}
use Rattle.values.specs.declared.fault.Fault.TheVariants.{BadFrame}
use Rattle.semantics_names.specs.Outcome.{checked, followed}
use Rattle.resolver_types.specs.term_types.Passed.{passed}

-- a term of ORDER BY has a fault
pub order_fails : {A B : Type 0} (partition : Result A Fault) (order : Result B Fault) (kept : Bool) (fault : Fault) → Ok tt ≡ passed partition
    → Err fault ≡ passed order → Err fault ≡ passed (followed partition (λ _. followed order (λ types. checked kept BadFrame (Ok types))))
order_fails (Ok a) (Ok b) kept fault first second = absurd cc
order_fails (Ok a) (Err other) kept fault first second = second
order_fails (Err other) order kept fault first second = absurd cc
