-- No column before this one is called so.
use Rattle.std.proofs.Common.{◌≡◌, drop, option_map}
use Rattle.semantics_names.specs.Statement.{declared_name}
use Rattle.resolver_exprs.proofs.scopes.lookup.declared_name.Given as goal

abbrev pub invariant-loop-shown : goal.invariant-loop-shown
invariant-loop-shown l =
    let table = option_map (λ t. t.now) l.table in
    declared_name l.scope table l.name ≡ declared_name (drop l.shown-index l.scope) table l.name
