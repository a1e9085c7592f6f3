use Rattle.values.proofs.SinkLemmas.{Writes-more}
use Rattle.values.proofs.sink.write_all.Goals as goal

pub returns-in-Ok-2-clause-writes : goal.returns-in-Ok-2-clause-writes
returns-in-Ok-2-clause-writes g c =
    Writes-more c.args.text.now c.in-Ok.taken _ _ _ _ c.in-Ok.ensures.takes.0 c.in-Ok.ensures.takes.1 c.write_pieces.ensures.writes
