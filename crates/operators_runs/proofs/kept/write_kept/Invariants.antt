use Rattle.std.proofs.Common.{◌≡◌, take}
use Rattle.values.specs.Row.{rows_data}
use Rattle.std.specs.Io.KnownBytes.{Appends}
use Rattle.operators_runs.proofs.StreamLemmas.{shown_text}
use Rattle.operators_runs.proofs.kept.write_kept.Given as goal

abbrev pub invariant-loop-row : goal.invariant-loop-row
invariant-loop-row g l = record {
  written : Appends (g.W.Sink.facts l.fn.out).written (g.W.Sink.facts l.out).written (shown_text l.columns (rows_data (take l.row-index l.rows)));
  failures : (g.W.Sink.facts l.out).failures ≡ (g.W.Sink.facts l.fn.out).failures;
}
