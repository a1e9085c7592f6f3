-- Two lists of types, of which one is shorter.
use Rattle.std.proofs.Common.{◌≡◌, ◌<◌, ℕ, List, [], ◌∷◌, arith, drop, length, Err}
use Rattle.std.proofs.lemmas.List.{at_drop_more}
use Rattle.values.specs.declared.fault.Fault.TheVariants.{ColumnCount}
use Rattle.values.specs.declared.value.Ty.{Ty}
use Rattle.values.specs.declared.value.Ty.TheVariants.{Null}
use Rattle.semantics_names.specs.Types.{one_types}

pub too_few : (first rest : List Ty) (i : ℕ) → i < length first → length rest ≡ 0 → one_types (drop i first) rest ≡ Err ColumnCount
too_few first [] i lt none = at_drop_more (λ xs. one_types xs []) first i Null lt
too_few first (y ∷ ys) i lt none = absurd (omega arith)
