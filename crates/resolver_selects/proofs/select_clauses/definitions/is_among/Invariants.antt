-- No window before this one is named so.
use Rattle.std.proofs.Common.{◌≡◌, drop, map}
use Rattle.sql_reader_grammar.specs.Reading.{definitions_of}
use Rattle.semantics_names.specs.Statement as spec
use Rattle.sql_reader_grammar.specs.statement_trees.TreeView.{definition_of}
use Rattle.resolver_selects.proofs.select_clauses.definitions.is_among.Given as goal

abbrev pub invariant-loop-window : goal.invariant-loop-window
invariant-loop-window l =
    spec.is_among l.name (spec.window_names (definitions_of (map definition_of l.windows)))
    ≡ spec.is_among l.name (spec.window_names (definitions_of (map definition_of (drop l.window-index l.windows))))
