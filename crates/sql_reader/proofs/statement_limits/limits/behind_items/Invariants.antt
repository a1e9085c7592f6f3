-- What the rest of a list leaves of what is left, the whole list leaves of what was left before it.
use Rattle.std.proofs.Common.{◌≡◌, drop, map}
use Rattle.sql_reader.specs.statement_limits.Spending.{after_items}
use Rattle.sql_reader_grammar.specs.statement_trees.StatementView.{item_of}
use Rattle.sql_reader.proofs.statement_limits.limits.behind_items.Given as goal

abbrev pub invariant-loop-item : goal.invariant-loop-item
invariant-loop-item l =
    after_items (map item_of (drop l.item-index l.items)) l.left
    ≡ after_items (map item_of l.items) l.initial.left
