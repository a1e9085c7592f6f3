use Rattle.std.proofs.Common.{rules, ◌∙◌, false, replicate, ap}
use Rattle.operators_results.proofs.lemmas.compound_results.SetLemmas.{none_met}
use Rattle.operators_results.proofs.compound_results.sets.no_marks.Goals as goal

pub returns-clause-marks : goal.returns-clause-marks
returns-clause-marks c =
    c.in_ok-marks.ensures.items_if_clones_equal (λ y same. search rules) ∙ ap (λ n. replicate n false) c.len.ensures.len ∙ none_met c.args.set.now.keys
