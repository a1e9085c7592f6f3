-- The lists are one exactly where what is left of each is.
use Rattle.std.proofs.Common.{◌≡◌, ◌↔◌, drop, map}
use Rattle.values.specs.Datum.{datum_of}
use Rattle.expr.specs.Contract.{trees}
use Rattle.expr.specs.Filled.{literals}
use Rattle.expr_types.proofs.same_trees.members.are_members.Given as goal

abbrev pub invariant-loop-item : goal.invariant-loop-item
invariant-loop-item l =
    (trees (drop l.item-index l.items) ≡ literals (map datum_of l.rest)) ↔ (trees l.items ≡ literals l.set)
