-- The terms so far, before those of what is left, are the terms of all.
use Rattle.std.proofs.Common.{◌≡◌, ◌++◌, drop, map}
use Rattle.semantics_names.specs.Outcome.{also}
use Rattle.semantics_names.specs.Statement as spec
use Rattle.expr.specs.View.{term}
use Rattle.sql_reader_grammar.specs.statement_trees.TreeView.{expr_of}
use Rattle.sql_reader_syntax.specs.ExprTree.{trees_of}
use Rattle.resolver_selects.proofs.select_clauses.grouping.keys.Given as goal

abbrev pub invariant-loop-e : goal.invariant-loop-e
invariant-loop-e g l =
    spec.by_of (g.I.InnerQueries.answers l.inner) l.scope (trees_of (map expr_of l.groups))
    ≡ also (λ rest. map term l.keys.items ++ rest)
    (spec.by_of (g.I.InnerQueries.answers l.inner) l.scope (trees_of (map expr_of (drop l.e-index l.groups))))
