use Rattle.std.proofs.Common.{rules}
use Rattle.explain_labels.specs.declared.labels.SourceLabel.TheFolds.{fold-roll-SourceLabel, fold_out-SourceLabel}
use Rattle.explain_labels.specs.declared.labels.SourceLabel.TheViews.{the_lemmas}
use Rattle.explain_labels.proofs.LabelLemmas.{named_at}
use Rattle.explain_labels.proofs.names.called.Goals as goal

pub returns-in-Some : goal.returns-in-Some
returns-in-Some c =
    rw (← named_at c.args.name.now c.args.items.now, ← c.item_named.ensures, c.in-Some.is)
    (search (rules, the_lemmas, fold-roll-SourceLabel, fold_out-SourceLabel))

pub returns-in-None : goal.returns-in-None
returns-in-None c =
    rw (← named_at c.args.name.now c.args.items.now, ← c.item_named.ensures, c.in-None.is)
    (search (rules, the_lemmas, fold-roll-SourceLabel, fold_out-SourceLabel))
