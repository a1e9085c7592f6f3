-- The terms so far, before those of what is left, are the terms of all.
use Rattle.std.proofs.Common.{◌≡◌, ◌++◌, drop, map}
use Rattle.sql_reader_grammar.specs.Reading.{terms_of}
use Rattle.semantics_names.specs.Outcome.{also}
use Rattle.semantics_names.specs.Places as spec
use Rattle.resolver_terms.specs.SelectView.{sort_of}
use Rattle.sql_reader_grammar.specs.statement_trees.TreeView as trees
use Rattle.resolver_selects.proofs.window_names.windows.order.Given as goal

abbrev pub invariant-loop-sort : goal.invariant-loop-sort
invariant-loop-sort g l =
    spec.sorted (g.I.InnerQueries.answers l.inner) (g.P.Place.meaning l.place) (terms_of (map trees.term_of l.terms))
    ≡ also (λ rest. map sort_of l.order.items ++ rest)
    (spec.sorted (g.I.InnerQueries.answers l.inner) (g.P.Place.meaning l.place) (terms_of (map trees.term_of (drop l.sort-index l.terms))))
