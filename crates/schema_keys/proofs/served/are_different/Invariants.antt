use Rattle.std.proofs.Common.{map, string_bytes, take}
use Rattle.schema_keys.specs.Names.{AreDistinct}
use Rattle.schema_keys.proofs.served.are_different.Given as goal

abbrev pub invariant-loop-place : goal.invariant-loop-place
invariant-loop-place l = AreDistinct (map (λ n. string_bytes n) (take l.place l.names))
