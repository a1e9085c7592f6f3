use Rattle.std.proofs.Common.{◌≤◌, ◌-◌, length}
use Rattle.sql_reader_tokens.proofs.lemmas.byte_runs.RunLemmas.{QuotedSo}
use Rattle.sql_reader_tokens.proofs.byte_runs.runs.quoted_len.Given as goal

abbrev pub invariant-loop-len : goal.invariant-loop-len
invariant-loop-len l = record { within : l.len ≤ length l.text; read : QuotedSo l.quote l.text l.len }

abbrev pub decreases-loop-len : goal.decreases-loop-len
decreases-loop-len l = length l.text - l.len
