use Rattle.std.proofs.Common.{◌≡◌, ◌<◌, ◌^◌, drop, fold}
use Rattle.sql_reader_tokens.proofs.lexer.decimal.Given as goal
use Rattle.sql_reader_tokens.specs.byte_runs.Bytes.{with_digit, decimal}

abbrev pub invariant-loop-digit : goal.invariant-loop-digit
invariant-loop-digit l = record {
  small : l.number < 2 ^ 63;
  whole : fold with_digit l.number (drop l.digit-index l.digits) ≡ decimal l.digits;
}
