-- What is found so far, before what is left, gives the first of all.
use Rattle.std.proofs.Common.{◌≡◌, [], drop, map}
use Rattle.std.specs.List.{filter_map}
use Rattle.semantics_names.specs.Places as spec
use Rattle.semantics_names.specs.Same.{is_same_aggregate}
use Rattle.semantics_names.specs.Statement.{firsts}
use Rattle.resolver_terms.specs.SelectView.{aggregate_of}
use Rattle.sql_reader_grammar.specs.statement_trees.TreeView.{expr_of}
use Rattle.resolver_exprs.proofs.places.mentions.first_aggregates.Given as goal

abbrev pub invariant-loop-part : goal.invariant-loop-part
invariant-loop-part g l =
    let said = spec.aggregate_of (g.I.InnerQueries.answers l.inner) (g.P.Place.meaning l.place) in
    firsts is_same_aggregate [] (filter_map said (map (λ e. expr_of e.now) l.parts))
    ≡ firsts is_same_aggregate (map aggregate_of l.aggregates.items) (filter_map said (map (λ e. expr_of e.now) (drop l.part-index l.parts)))
