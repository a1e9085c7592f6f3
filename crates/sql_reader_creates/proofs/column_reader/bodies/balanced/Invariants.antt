use Rattle.std.proofs.Common.{◌≡◌, ◌+◌, ◌≤◌, length}
use Rattle.sql_reader_grammar.specs.phrases.Texts.{lexemes_of}
use Rattle.sql_reader_creates.proofs.column_reader.bodies.balanced.Given as goal
use Rattle.sql_reader_creates.specs.column_reader.ColumnReading as spec

abbrev pub invariant-loop-rest : goal.invariant-loop-rest
invariant-loop-rest l = record {
  same : spec.balanced l.depth (lexemes_of l.rest) ≡ spec.balanced 0 (lexemes_of l.tokens);
  within : l.depth + length l.rest ≤ length l.tokens;
}

abbrev pub decreases-loop-rest : goal.decreases-loop-rest
decreases-loop-rest l = length l.rest
