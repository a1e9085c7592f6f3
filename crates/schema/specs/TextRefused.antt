-- Why the text of an object was refused.
use Rattle.std.specs.Prelude.{◌≡◌, string_bytes}
use Rattle.values.specs.declared.fault.Fault.{Fault}
use Rattle.values.specs.declared.fault.Fault.TheVariants as f
use Rattle.sql_reader_syntax.specs.Tree.{Name}

-- of the object of this name it is so that its text spells nothing, or that it is beyond the limits, or memory ran out
abbrev pub IsTextRefused : Type 0 → Type 0 → Name → Fault → Type 0
IsTextRefused SpellsNothing IsBeyond name f.NoMemory = Unit {0}
IsTextRefused SpellsNothing IsBeyond name (f.SchemaText told) = (string_bytes told ≡ name) × SpellsNothing
IsTextRefused SpellsNothing IsBeyond name (f.UnsupportedObject told) = (string_bytes told ≡ name) × IsBeyond
IsTextRefused SpellsNothing IsBeyond name _ = ⊥
