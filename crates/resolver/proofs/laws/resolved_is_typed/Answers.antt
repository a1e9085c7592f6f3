use Rattle.std.proofs.Common.{subst}
use Rattle.semantics.specs.Typed.{IsTyped}
use Rattle.resolver.specs.Resolved.{tables_of}
use Rattle.resolver.proofs.KnownLemmas.{same_types}
use Rattle.resolver.proofs.laws.resolved_is_typed.Goals as goal

pub returns : goal.returns
returns c tables tree named resolved =
    subst (λ types. IsTyped types named.query) (same_types tables) (c.typed_as_meaning.ensures (tables_of tables) tree named resolved)
