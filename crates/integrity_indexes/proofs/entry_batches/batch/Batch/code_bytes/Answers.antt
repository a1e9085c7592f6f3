use Rattle.std.proofs.Common.{◌∙◌, ap, length, sum_by, zero-add}
use Rattle.integrity_indexes.specs.entry_batches.Batches.{last_end}
use Rattle.integrity_indexes.proofs.lemmas.entry_batches.CutLemmas.{end_sums}
use Rattle.integrity_indexes.proofs.entry_batches.batch.Batch.code_bytes.Goals as goal

pub returns : goal.returns
returns c =
    c.end_of.ensures ∙ ap (last_end 0) c.as_slice.ensures.value
    ∙ end_sums 0 c.self.inside.slots.items c.self.inside.codes.items c.self.invariant.cut
    ∙ zero-add _ ∙ ap (sum_by (λ entry. length entry.code)) c.self.view_is
