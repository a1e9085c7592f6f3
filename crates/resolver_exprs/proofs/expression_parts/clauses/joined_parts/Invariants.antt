-- The parts so far, before those of what is left, are those of all behind what was found before.
use Rattle.std.proofs.Common.{◌≡◌, ◌++◌, drop, map}
use Rattle.std.specs.List.{flat_map}
use Rattle.resolver_exprs.specs.expression_parts.Found.{found_in}
use Rattle.semantics_names.specs.Parts as spec
use Rattle.sql_reader_grammar.specs.statement_trees.TreeView.{joined_of}
use Rattle.resolver_exprs.proofs.expression_parts.clauses.joined_parts.Given as goal

abbrev pub invariant-loop-next : goal.invariant-loop-next
invariant-loop-next l =
    found_in l.found ++ flat_map (λ j. spec.on_parts j.1.1) (map joined_of (drop l.next-index l.others))
    ≡ found_in l.initial.found ++ flat_map (λ j. spec.on_parts j.1.1) (map joined_of l.others)
