use Rattle.std.proofs.Common.{◌≡◌, ◌++◌, map, take}
use Rattle.values.specs.Datum.{datum_of}
use Rattle.windows_groups.proofs.row_groups.gathered.push_copies.Given as goal

abbrev pub invariant-loop-value : goal.invariant-loop-value
invariant-loop-value l = map datum_of l.out.items ≡ map datum_of l.fn.out.items ++ map datum_of (take l.value-index l.values)
