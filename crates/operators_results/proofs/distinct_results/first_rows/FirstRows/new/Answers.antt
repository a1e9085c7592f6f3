use Rattle.std.proofs.Common.{◌∙◌, ap}
use Rattle.operators_results.specs.Slices.{sliced}
use Rattle.operators_results.specs.distinct_results.Firsts.{firsts, unmet}
use Rattle.windows_groups.proofs.lemmas.distinct_rows.FirstLemmas.{unmet_none}
use Rattle.operators_results.proofs.distinct_results.first_rows.FirstRows.new.Goals as goal

pub returns : goal.returns
returns c = λ rows. ap (λ met. sliced c.args.slice (unmet met (firsts rows))) c.new.ensures.empty ∙ ap (sliced c.args.slice) (unmet_none (firsts rows))
