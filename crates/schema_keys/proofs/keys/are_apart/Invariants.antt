use Rattle.std.proofs.Common.{map, take}
use Rattle.schema_keys.specs.declared_keys.KeyView.{key_data}
use Rattle.schema_keys.specs.Created.{Clash}
use Rattle.schema_keys.specs.Names.{AreApart}
use Rattle.schema_keys.proofs.keys.are_apart.Given as goal

abbrev pub invariant-loop-place : goal.invariant-loop-place
invariant-loop-place l = AreApart Clash (map key_data (take l.place l.keys))
