use Rattle.std.proofs.Common.{ap, option_map}
use Rattle.semantics_names.specs.Places as spec
use Rattle.resolver_exprs.proofs.lemmas.places.AggregateLemmas.{several_are_none}
use Rattle.resolver_exprs.specs.places.Transposed.{transposed}
use Rattle.sql_reader_syntax.specs.ExprView.{maybe_of}
use Rattle.sql_reader_grammar.specs.statement_trees.TreeView.{expr_of}
use Rattle.resolver_exprs.proofs.places.aggregates.aggregate_call.Goals as goal

pub returns-in-len2-up : goal.returns-in-len2-up
returns-in-len2-up g c =
    ap transposed (several_are_none (g.I.InnerQueries.answers c.args.inner.now) (g.P.Place.meaning c.args.place.now)
    (spec.aggregate_named c.args.name) c.args.items.now (maybe_of (option_map (λ e. expr_of e.value) c.args.filter.now)) c.in-len2-up.len_at_least)
