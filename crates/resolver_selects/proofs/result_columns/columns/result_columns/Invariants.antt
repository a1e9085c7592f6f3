-- The columns so far, before those of what is left, are those of all.
use Rattle.std.proofs.Common.{◌≡◌, ◌++◌, drop, map, option_map}
use Rattle.sql_reader_grammar.specs.Reading.{results_of}
use Rattle.semantics_names.specs.Outcome.{also}
use Rattle.semantics_names.specs.Statement as spec
use Rattle.expr.specs.View.{term}
use Rattle.resolver_selects.specs.result_columns.Inputs.{input_of}
use Rattle.resolver_exprs.specs.scopes.ResultView.{result_of}
use Rattle.sql_reader_grammar.specs.statement_trees.TreeView as trees
use Rattle.resolver_selects.proofs.result_columns.columns.result_columns.Given as goal

abbrev pub invariant-loop-column : goal.invariant-loop-column
invariant-loop-column g l =
    let all = spec.all_results (g.I.InnerQueries.answers l.inner) l.scope (input_of (option_map (λ terms. map term terms.now) l.by))
    (g.P.Place.meaning l.place) in
    all (results_of (map trees.result_of l.columns))
    ≡ also (λ rest. map result_of l.results.items ++ rest) (all (results_of (map trees.result_of (drop l.column-index l.columns))))
