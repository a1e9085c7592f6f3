use Rattle.std.proofs.Common.{map, option_map, subst, sym}
use Rattle.semantics_names.specs.Places as spec
use Rattle.resolver_terms.specs.Outcome.{Gives}
use Rattle.resolver_terms.specs.SelectView.{function_of}
use Rattle.sql_reader_syntax.specs.ExprView.{maybe_of}
use Rattle.sql_reader_grammar.specs.statement_trees.TreeView.{expr_of}
use Rattle.sql_reader_syntax.specs.ExprTree.{trees_of}
use Rattle.resolver_selects.proofs.lemmas.window_calls.CallLemmas.{no_aggregate}
use Rattle.resolver_selects.proofs.window_calls.functions.function.Goals as goal

pub returns-in-None : goal.returns-in-None
returns-in-None g c =
    let answers = g.I.InnerQueries.answers c.args.inner.now in
    let says = g.P.Place.meaning c.args.place.now in
    let items = trees_of (map expr_of c.args.items.now) in
    let filter = maybe_of (option_map (λ e. expr_of e.value) c.args.filter.now) in
    subst (Gives function_of c.ranking_unless.result)
    (sym (no_aggregate (spec.aggregate_call answers says (spec.aggregate_named c.args.name) items filter)
    (spec.ranking_unless answers says filter c.args.name items) (rw c.in-None.is at c.in_ok-aggregate.ensures))) c.ranking_unless.ensures
