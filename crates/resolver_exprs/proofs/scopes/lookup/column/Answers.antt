use Rattle.std.proofs.Common.{inr, option_map, rules}
use Rattle.resolver_exprs.proofs.lemmas.scopes.ScopeLemmas.{two_columns}
use Rattle.resolver_exprs.proofs.scopes.lookup.column.Goals as goal

pub returns-then-is_some : goal.returns-then-is_some
returns-then-is_some c =
    inr
    (two_columns (option_map (λ t. t.now) c.args.table) c.args.name.now c.args.scope.now c.in-Some.at c.next_called-2.result c.in-Some.ensures c.next_called-2.ensures
    (search rules))
