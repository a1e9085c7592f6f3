-- The copies so far are those of what stands before this one.
use Rattle.std.proofs.Common.{◌≡◌, map, take}
use Rattle.expr.specs.CopyView.{copied}
use Rattle.semantics.specs.Mapped.{mapped_sort}
use Rattle.resolver_terms.specs.SelectView.{sort_of}
use Rattle.resolver_terms.proofs.copies.terms.sorts_with.Given as goal

abbrev pub invariant-loop-sort : goal.invariant-loop-sort
invariant-loop-sort l = map sort_of l.copies.items ≡ map (mapped_sort (copied l.leaves)) (map sort_of (take l.sort-index l.order))
