use Rattle.std.proofs.Common.{◌≤◌, ◌-◌, length}
use Rattle.sql_reader_tokens.proofs.lemmas.byte_runs.RunLemmas.{Split}
use Rattle.sql_reader_tokens.proofs.byte_runs.runs.run_len.Given as goal
use Rattle.sql_reader_tokens.specs.byte_runs.Class.{test_of}

abbrev pub invariant-loop-len : goal.invariant-loop-len
invariant-loop-len l = record { within : l.len ≤ length l.text; split : Split (test_of l.class) l.text l.len }

abbrev pub decreases-loop-len : goal.decreases-loop-len
decreases-loop-len l = length l.text - l.len
