-- Each window before this one has a name of its own.
use Rattle.std.proofs.Common.{◌≡◌, drop, map}
use Rattle.sql_reader_grammar.specs.Reading.{definitions_of}
use Rattle.semantics_names.specs.Statement as spec
use Rattle.sql_reader_grammar.specs.statement_trees.TreeView.{definition_of}
use Rattle.resolver_selects.proofs.select_clauses.definitions.are_distinct.Given as goal

abbrev pub invariant-loop-at : goal.invariant-loop-at
invariant-loop-at l =
    spec.are_distinct (spec.window_names (definitions_of (map definition_of l.windows)))
    ≡ spec.are_distinct (spec.window_names (definitions_of (map definition_of (drop l.at l.windows))))
