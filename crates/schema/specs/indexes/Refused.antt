-- Why an index was refused.
use Rattle.std.specs.Prelude.{◌≡◌, string_bytes}
use Rattle.sql_reader_syntax.specs.Tree.{Name}
use Rattle.values.specs.declared.fault.Fault.{Fault}
use Rattle.values.specs.declared.fault.Fault.TheVariants as f

-- memory ran out, or nothing of this name is what was asked for
abbrev pub IsUnmadeObject : {A : Type 0} → (A → Type 0) → Name → Fault → Type 0
IsUnmadeObject Is name f.NoMemory = Unit {0}
IsUnmadeObject {A = A} Is name (f.UnsupportedObject told) = (string_bytes told ≡ name) × ((x : A) → ¬ Is x)
IsUnmadeObject Is name _ = ⊥
