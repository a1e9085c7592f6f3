use Rattle.std.proofs.Common.{◌≡◌, false}
use Rattle.std.specs.List.{AllWithin}
use Rattle.schema_keys.proofs.declared_keys.keys.primary_key.Given as goal
use Rattle.schema_keys.specs.declared.declared_keys.keys.Key.{Key}

abbrev pub invariant-loop-key : goal.invariant-loop-key
invariant-loop-key l = AllWithin (λ (key : Key). key.is_primary ≡ false) l.keys 0 l.key-index
