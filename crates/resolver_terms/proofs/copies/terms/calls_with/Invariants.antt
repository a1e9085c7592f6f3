-- The copies so far are those of what stands before this one.
use Rattle.std.proofs.Common.{◌≡◌, map, take}
use Rattle.expr.specs.CopyView.{copied}
use Rattle.semantics.specs.Mapped.{mapped_call}
use Rattle.resolver_terms.specs.SelectView.{call_of}
use Rattle.resolver_terms.proofs.copies.terms.calls_with.Given as goal

abbrev pub invariant-loop-call : goal.invariant-loop-call
invariant-loop-call l = map call_of l.copies.items ≡ map (mapped_call (copied l.leaves)) (map call_of (take l.call-index l.calls))
