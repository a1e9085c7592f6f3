use Rattle.std.proofs.Common.{None, inr, rules}
use Rattle.resolver_exprs.proofs.lemmas.scopes.ScopeLemmas.{two}
use Rattle.resolver_exprs.proofs.scopes.lookup.places.Goals as goal

pub returns-then-is_some : goal.returns-then-is_some
returns-then-is_some c =
    inr
    (two None c.args.name.now c.args.scope.now c.in-Some.at c.next_called-2.result c.in-Some.ensures c.next_called-2.ensures
    (search rules))
