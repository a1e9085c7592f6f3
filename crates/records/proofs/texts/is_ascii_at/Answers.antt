use Rattle.records.proofs.AsciiLemmas.{ascii_lanes}
use Rattle.records.proofs.texts.is_ascii_at.Goals as goal

pub returns : goal.returns
returns c = ascii_lanes c.args.bytes.now c.args.at c.requires
