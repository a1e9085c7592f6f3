use Rattle.std.proofs.Common.{◌≡◌, map, string_bytes, take}
use Rattle.values.specs.Datum.{text}
use Rattle.shell.proofs.prepared.header_row.Given as goal

abbrev pub invariant-loop-name : goal.invariant-loop-name
invariant-loop-name l = l.row ≡ take l.name-index (map text (map (λ name. string_bytes name) l.names))
