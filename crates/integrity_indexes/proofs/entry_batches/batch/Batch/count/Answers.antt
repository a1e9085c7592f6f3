use Rattle.std.proofs.Common.{◌∙◌, ap, length, sym}
use Rattle.integrity_indexes.proofs.lemmas.entry_batches.CutLemmas.{long_coded}
use Rattle.integrity_indexes.proofs.entry_batches.batch.Batch.count.Goals as goal

pub returns : goal.returns
returns c = c.len.ensures ∙ c.self.inside.slots.ok.0 ∙ sym (long_coded 0 c.self.inside.slots.items c.self.inside.codes.items) ∙ ap length c.self.view_is
