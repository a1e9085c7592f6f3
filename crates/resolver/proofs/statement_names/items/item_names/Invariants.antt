-- The names so far are those of the items before this one.
use Rattle.std.proofs.Common.{◌≡◌, map, string_bytes, take}
use Rattle.sql_reader_grammar.specs.statement_trees.StatementView.{item_of}
use Rattle.resolver.proofs.statement_names.items.item_names.Given as goal

abbrev pub invariant-loop-item : goal.invariant-loop-item
invariant-loop-item l = map (λ n. string_bytes n) l.names.items ≡ map (λ i. i.name) (map item_of (take l.item-index l.items))
