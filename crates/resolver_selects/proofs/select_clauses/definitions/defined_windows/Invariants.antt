-- The windows so far, before those of what is left, are those of all.
use Rattle.std.proofs.Common.{◌≡◌, ◌++◌, drop, map}
use Rattle.sql_reader_grammar.specs.Reading.{definitions_of}
use Rattle.semantics_names.specs.Outcome.{also}
use Rattle.semantics_names.specs.Statement as spec
use Rattle.sql_reader_grammar.specs.statement_trees.TreeView.{definition_of}
use Rattle.resolver_selects.specs.window_names.DefinedView.{defined_of}
use Rattle.resolver_selects.proofs.select_clauses.definitions.defined_windows.Given as goal

abbrev pub invariant-loop-definition : goal.invariant-loop-definition
invariant-loop-definition g l =
    spec.defined_of (g.I.InnerQueries.answers l.inner) (g.P.Place.meaning l.place) (definitions_of (map definition_of l.windows))
    ≡ also (λ rest. map defined_of l.defined.items ++ rest)
    (spec.defined_of (g.I.InnerQueries.answers l.inner) (g.P.Place.meaning l.place) (definitions_of (map definition_of (drop l.definition-index l.windows))))
