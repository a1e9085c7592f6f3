use Rattle.std.proofs.Common.{◌≡◌, not, take}
use Rattle.std.specs.List.{filter}
use Rattle.schema.specs.indexes.Others.{has_place}
use Rattle.schema.proofs.indexes.others.others_of.Given as goal

abbrev pub invariant-loop-place : goal.invariant-loop-place
invariant-loop-place l = l.others.items ≡ filter (λ place. not (has_place l.columns place)) (take l.place-index l.place-items)
