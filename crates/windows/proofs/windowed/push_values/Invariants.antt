use Rattle.std.proofs.Common.{◌≡◌, ◌++◌, map, take, Vec, Global}
use Rattle.values.specs.Datum.{datum_of}
use Rattle.values.specs.declared.value.Value.{Value}
use Rattle.semantics.specs.Sequence.{value_at}
use Rattle.windows.proofs.windowed.push_values.Given as goal

abbrev pub invariant-loop-column : goal.invariant-loop-column
invariant-loop-column l = map datum_of l.row.items
    ≡ map datum_of l.initial.row.items ++ map (λ column. value_at column l.at) (map (λ (column : Vec Value Global). map datum_of column.items) (take l.column-index l.columns))
