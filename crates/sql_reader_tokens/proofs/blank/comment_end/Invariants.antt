use Rattle.std.proofs.Common.{◌<◌, ◌-◌, length}
use Rattle.sql_reader_tokens.proofs.CommentLemmas.{NoneBefore}
use Rattle.sql_reader_tokens.proofs.blank.comment_end.Given as goal

abbrev pub invariant-loop-at : goal.invariant-loop-at
invariant-loop-at l = record { inside : 0 < l.at; before : NoneBefore l.text l.at }

abbrev pub decreases-loop-at : goal.decreases-loop-at
decreases-loop-at l = length l.text - l.at
