use Rattle.std.proofs.Common.{◌∙◌, ap, sym}
use Rattle.values.specs.Datum.{datum_of}
use Rattle.semantics.specs.Sequence.{directed_cmp}
use Rattle.semantics.specs.Windows.{moved}
use Rattle.resolver_terms.specs.SelectView.{direction_of}
use Rattle.windows.proofs.lemmas.frames.EdgeLemmas.{not_int, other_moved}
use Rattle.windows.proofs.frames.edges.compare_moved.Goals as goal

pub returns-in_default-value : goal.returns-in_default-value
returns-in_default-value c =
    let d = direction_of c.args.direction in
    let v = datum_of c.args.value.now in
    c.compare_by.ensures ∙ ap (λ h. directed_cmp d v (datum_of h)) c.in-Int.is
    ∙ other_moved d v c.in-Int.from c.args.by (not_int c.args.value.now c.in_default-value.not-Int)
    ∙ sym (ap (λ h. directed_cmp d v (moved d.descending c.args.by (datum_of h))) c.in-Int.is)
