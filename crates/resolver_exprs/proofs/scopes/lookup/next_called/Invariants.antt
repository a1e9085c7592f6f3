-- No column before this one is called so.
use Rattle.std.proofs.Common.{◌≡◌, drop, option_map}
use Rattle.semantics_names.specs.Scope.{called}
use Rattle.resolver_exprs.proofs.scopes.lookup.next_called.Given as goal

abbrev pub invariant-loop-at : goal.invariant-loop-at
invariant-loop-at l =
    let table = option_map (λ t. t.now) l.table in
    called table l.name l.from (drop l.from l.scope) ≡ called table l.name l.at (drop l.at l.scope)
