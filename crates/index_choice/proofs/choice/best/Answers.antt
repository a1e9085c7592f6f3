use Rattle.std.proofs.Common.{ap, map}
use Rattle.index_choice.specs.Paths.{path_data}
use Rattle.index_choice.proofs.LeastLemmas.{least_is_least}
use Rattle.index_choice.proofs.choice.best.Goals as goal

pub returns-clause-least : goal.returns-clause-least
returns-clause-least c =
    least_is_least (map path_data c.args.paths.now) (path_data c.best_of.result.now) (path_data c.in-Some.first.now) (map path_data c.in-Some.rest.now)
    (ap (map path_data) c.in-Some.ensures.cases.0) c.best_of.ensures
