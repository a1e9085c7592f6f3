-- Each goes down to what may stand in one construct fewer.
use Rattle.std.proofs.Common.{◌+◌, ◌*◌}
use Rattle.sql_reader.proofs.nested_reader.reading.+fn-read-read+read.Given as goal

abbrev pub decreases-fn-read : goal.decreases-fn-read
decreases-fn-read l = 2 * l.below + 1

abbrev pub decreases-read : goal.decreases-read
decreases-read l = 2 * l.depth
