use denote.Shadow.{shadow}
use denote.Text.{Utf8}
use Rattle.std.proofs.Common.{◌≡◌, ◌++◌, false, length}
use Rattle.std.specs.Prelude.{string_bytes}
use Rattle.sql_reader_tokens.proofs.content.undouble.Given as goal
use Rattle.sql_reader_tokens.specs.Content.{undoubled}

abbrev pub invariant-loop-rest : goal.invariant-loop-rest
invariant-loop-rest l = record {
  is_text : shadow (Utf8 l.rest);
  read : string_bytes l.content ++ undoubled l.quote false l.rest ≡ undoubled l.quote false l.inside;
}

abbrev pub decreases-loop-rest : goal.decreases-loop-rest
decreases-loop-rest l = length l.rest
