use Rattle.std.proofs.Common.{◌+◌, ◌<◌, ℕ, List, length, arith, subst}
use Rattle.std.specs.Str.{IsCharBoundary}
use Rattle.sql_reader_tokens.proofs.ContentLemmas.{behind_quote}
use Rattle.sql_reader_tokens.proofs.content.split_doubled.Goals as goal

pub split_at-requires : goal.split_at-requires
split_at-requires c =
    let inside : c.run_len-len.result < length c.as_bytes.result.now = omega arith in
    subst (λ (bs : List ℕ). IsCharBoundary bs (c.run_len-len.result + 1)) c.as_bytes.ensures.value
    (behind_quote c.as_bytes.result.now c.run_len-len.result c.args.quote c.as_bytes.ensures.utf8 inside (c.run_len-len.ensures.stops inside) c.requires)
