use denote.Shadow.{shadow}
use denote.Text.{Utf8}
use Rattle.std.proofs.Common.{◌≡◌, ◌-◌, ◌≤◌, All, drop, length, map}
use Rattle.sql_reader_tokens.proofs.reading.read_tokens.Given as goal
use Rattle.sql_reader_tokens.specs.Content.{placed_of}
use Rattle.sql_reader_tokens.specs.Tokens.{Reads, StandsIn}

abbrev pub invariant-loop-rest : goal.invariant-loop-rest
invariant-loop-rest l = record {
  is_text : shadow (Utf8 l.rest);
  within : length l.rest ≤ length l.text;
  read : Reads l.grammar (length l.text) l.text (map placed_of l.tokens.items) l.rest;
  tail : l.rest ≡ drop (length l.text - length l.rest) l.text;
  stand : All (λ t. StandsIn l.text (placed_of t)) l.tokens.items;
}

abbrev pub decreases-loop-rest : goal.decreases-loop-rest
decreases-loop-rest l = length l.rest
