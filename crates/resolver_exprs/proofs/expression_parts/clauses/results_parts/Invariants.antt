-- The parts so far, before those of what is left, are those of all behind what was found before.
use Rattle.std.proofs.Common.{◌≡◌, ◌++◌, drop, map}
use Rattle.resolver_exprs.specs.expression_parts.Found.{found_in}
use Rattle.sql_reader_grammar.specs.Reading.{results_of}
use Rattle.semantics_names.specs.Parts as spec
use Rattle.sql_reader_grammar.specs.statement_trees.TreeView.{result_of}
use Rattle.resolver_exprs.proofs.expression_parts.clauses.results_parts.Given as goal

abbrev pub invariant-loop-column : goal.invariant-loop-column
invariant-loop-column l =
    found_in l.found ++ spec.results_parts (results_of (map result_of (drop l.column-index l.columns)))
    ≡ found_in l.initial.found ++ spec.results_parts (results_of (map result_of l.columns))
