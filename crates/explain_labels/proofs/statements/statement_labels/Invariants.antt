use Rattle.std.proofs.Common.{◌≡◌, ◌++◌, [], drop, map, take}
use Rattle.sql_reader_grammar.specs.statement_trees.StatementView.{item_of}
use Rattle.explain_labels.specs.Labels as spec
use Rattle.explain_labels.specs.View.{item_labels_of, names_seen}
use Rattle.explain_labels.proofs.statements.statement_labels.Given as goal

abbrev pub invariant-loop-at : goal.invariant-loop-at
invariant-loop-at l =
    map item_labels_of l.items.items ++ spec.items_after (names_seen (take l.at l.written)) (map item_of (drop l.at l.written))
    ≡ spec.items_after [] (map item_of l.written)
