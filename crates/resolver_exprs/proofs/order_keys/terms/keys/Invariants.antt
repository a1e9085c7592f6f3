-- The terms so far, before those of what is left, are the terms of all.
use Rattle.std.proofs.Common.{◌≡◌, ◌++◌, drop, map, option_map, string_bytes}
use Rattle.sql_reader_grammar.specs.Reading.{terms_of}
use Rattle.semantics_names.specs.Outcome.{also}
use Rattle.semantics_names.specs.Statement as spec
use Rattle.sql_reader_grammar.specs.statement_trees.TreeView as trees
use Rattle.resolver_exprs.specs.order_keys.Named.{on_rows}
use Rattle.resolver_exprs.proofs.order_keys.terms.keys.Given as goal
use Rattle.resolver_terms.specs.SelectView.{key_of}

abbrev pub invariant-loop-sort : goal.invariant-loop-sort
invariant-loop-sort g l =
    let all = spec.keys_of (map (λ n. string_bytes n) l.names)
    (on_rows (g.I.InnerQueries.answers l.inner) (option_map (λ p. g.P.Place.meaning p.now) l.place)) in
    all (terms_of (map trees.term_of l.order))
    ≡ also (λ rest. map key_of l.keys.items ++ rest) (all (terms_of (map trees.term_of (drop l.sort-index l.order))))
