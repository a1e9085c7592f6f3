-- The expressions so far are literals.
use Rattle.std.proofs.Common.{◌≡◌, map, take}
use Rattle.expr.specs.Filled.{literal_value}
use Rattle.expr.specs.Term.{literal}
use Rattle.expr.specs.View.{term}
use Rattle.expr.proofs.tree.are_literals.Given as goal

abbrev pub invariant-loop-item : goal.invariant-loop-item
invariant-loop-item l = map term (take l.item-index l.items) ≡ map (λ e. literal (literal_value (term e))) (take l.item-index l.items)
