-- The copies so far are those of what stands before this one.
use Rattle.std.proofs.Common.{◌≡◌, map, take}
use Rattle.expr.specs.CopyView.{copied}
use Rattle.semantics.specs.Mapped.{mapped_key}
use Rattle.resolver_terms.specs.SelectView.{key_of}
use Rattle.resolver_terms.proofs.copies.terms.order_with.Given as goal

abbrev pub invariant-loop-key : goal.invariant-loop-key
invariant-loop-key l = map key_of l.copies.items ≡ map (mapped_key (copied l.leaves)) (map key_of (take l.key-index l.order))
