use Rattle.std.proofs.Common.{Err, ap, ◌∙◌}
use Rattle.sql_reader_tokens.specs.source_texts.Sources.{source_of}
use Rattle.sql_reader_creates.proofs.IndexTexts.{told_long, told_short}
use Rattle.sql_reader_creates.proofs.index.settled.Goals as goal

pub returns-in-Err-Limit : goal.returns-in-Err-Limit
returns-in-Err-Limit c =
    told_short (source_of c.args.text.now c.args.tokens.now) c.args.tokens.now c.index.result 0
    c.index.ensures (c.in-Err-Limit.is ∙ ap (λ e. Err e) c.in-Err-Limit.field-0-is)
    c.if-tokens-le-MAX_LEVELS.true

pub returns-in_default : goal.returns-in_default
returns-in_default c =
    told_long (source_of c.args.text.now c.args.tokens.now) c.args.tokens.now c.index.result
    c.in-Err-Limit.field-0 c.index.ensures c.in-Err-Limit.is c.if-tokens-le-MAX_LEVELS.false
