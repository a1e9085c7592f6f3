use Rattle.std.proofs.Common.{◌≡◌, drop, map}
use Rattle.index_choice.specs.Paths.{least_of, path_data}
use Rattle.index_choice.proofs.choice.best_of.Given as goal

abbrev pub invariant-loop-path : goal.invariant-loop-path
invariant-loop-path l = least_of (path_data l.fn.first) (map path_data l.rest) ≡ least_of (path_data l.best) (map path_data (drop l.path-index l.rest))
