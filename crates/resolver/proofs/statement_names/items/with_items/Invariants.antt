-- The items so far, before those that are left, come to all of them.
use Rattle.std.proofs.Common.{◌≡◌, drop, map}
use Rattle.semantics_names.specs.Statement.{queried}
use Rattle.resolver.specs.statement_names.Whole.{items_by}
use Rattle.resolver.specs.statement_names.WithView.{with_data}
use Rattle.sql_reader_grammar.specs.statement_trees.StatementView.{item_of}
use Rattle.resolver.proofs.statement_names.items.with_items.Given as goal

abbrev pub invariant-loop-item : goal.invariant-loop-item
invariant-loop-item l =
    items_by (queried l.depth) (with_data l.fn.with) (map item_of l.items)
    ≡ items_by (queried l.depth) (with_data l.all) (map item_of (drop l.item-index l.items))
