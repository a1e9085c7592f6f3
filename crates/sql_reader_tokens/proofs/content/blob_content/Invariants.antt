use Rattle.std.proofs.Common.{◌<◌, ◌-◌, length}
use Rattle.sql_reader_tokens.proofs.ContentLemmas.{PairsUpTo}
use Rattle.sql_reader_tokens.proofs.content.blob_content.Given as goal

abbrev pub invariant-loop-at : goal.invariant-loop-at
invariant-loop-at l = record { inside : 0 < l.at; read : PairsUpTo l.digits l.bytes.items l.at }

abbrev pub decreases-loop-at : goal.decreases-loop-at
decreases-loop-at l = length l.digits - l.at
