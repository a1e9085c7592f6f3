-- The parts so far, before those of what is left, are those of all behind what was found before.
use Rattle.std.proofs.Common.{◌≡◌, ◌++◌, drop, map}
use Rattle.resolver_exprs.specs.expression_parts.Found.{found_in}
use Rattle.sql_reader_grammar.specs.Reading.{definitions_of}
use Rattle.semantics_names.specs.Parts as spec
use Rattle.sql_reader_grammar.specs.statement_trees.TreeView.{definition_of}
use Rattle.resolver_exprs.proofs.expression_parts.clauses.definitions_parts.Given as goal

abbrev pub invariant-loop-definition : goal.invariant-loop-definition
invariant-loop-definition l =
    found_in l.found ++ spec.definitions_parts (definitions_of (map definition_of (drop l.definition-index l.windows)))
    ≡ found_in l.initial.found ++ spec.definitions_parts (definitions_of (map definition_of l.windows))
