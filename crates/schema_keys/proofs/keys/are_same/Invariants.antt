use Rattle.std.proofs.Common.{map, string_bytes, take}
use Rattle.std.specs.List.{AllZip}
use Rattle.schema_keys.specs.Names.{IsSameName}
use Rattle.schema_keys.proofs.keys.are_same.Given as goal

abbrev pub invariant-loop-place : goal.invariant-loop-place
invariant-loop-place l =
    AllZip IsSameName (map (λ n. string_bytes n) (take l.place l.first)) (map (λ n. string_bytes n) (take l.place l.second))
