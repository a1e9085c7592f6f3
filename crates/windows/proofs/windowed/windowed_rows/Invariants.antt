-- The rows so far, with the values at their places behind them.
use Rattle.std.proofs.Common.{◌≡◌, map}
use Rattle.values.specs.Datum.{datum_of}
use Rattle.windows.proofs.BehindLemmas.{behind}
use Rattle.windows.proofs.windowed.windowed_rows.Given as goal

abbrev pub invariant-loop-given : goal.invariant-loop-given
invariant-loop-given l =
    map (λ row. map datum_of row.items) l.whole.items ≡ behind (map (λ column. map datum_of column.items) l.columns.items) 0 (map (λ row. map datum_of row.items) l.yielded)
