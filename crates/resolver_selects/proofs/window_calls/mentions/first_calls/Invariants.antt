-- What is found so far, before what is left, gives the first of all.
use Rattle.std.proofs.Common.{◌≡◌, [], drop, map}
use Rattle.std.specs.List.{filter_map}
use Rattle.semantics_names.specs.Places as spec
use Rattle.semantics_names.specs.Same.{is_same_call}
use Rattle.semantics_names.specs.Statement.{firsts}
use Rattle.resolver_terms.specs.SelectView.{call_of}
use Rattle.sql_reader_grammar.specs.statement_trees.TreeView.{expr_of}
use Rattle.resolver_selects.specs.window_names.DefinedView.{defined_of}
use Rattle.resolver_selects.proofs.window_calls.mentions.first_calls.Given as goal

abbrev pub invariant-loop-part : goal.invariant-loop-part
invariant-loop-part g l =
    let said = spec.call_of (g.I.InnerQueries.answers l.inner) (g.P.Place.meaning l.place) (map defined_of l.defined) in
    firsts is_same_call [] (filter_map said (map (λ e. expr_of e.now) l.parts))
    ≡ firsts is_same_call (map call_of l.calls.items) (filter_map said (map (λ e. expr_of e.now) (drop l.part-index l.parts)))
