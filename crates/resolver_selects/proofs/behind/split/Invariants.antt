-- The terms and the names so far.
use Rattle.std.proofs.Common.{◌≡◌, map, string_bytes}
use Rattle.expr.specs.View.{term}
use Rattle.resolver_exprs.specs.scopes.ResultView.{result_of}
use Rattle.resolver_selects.proofs.behind.split.Given as goal

abbrev pub invariant-loop-result : goal.invariant-loop-result
invariant-loop-result l = record {
  terms : map term l.columns.items ≡ map (λ c. c.term) (map result_of l.yielded);
  names : map (λ n. string_bytes n) l.names.items ≡ map (λ c. c.name) (map result_of l.yielded);
}
