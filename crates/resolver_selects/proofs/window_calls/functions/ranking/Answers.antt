use Rattle.std.proofs.Common.{map, subst, sym}
use Rattle.resolver_terms.specs.Outcome.{Gives}
use Rattle.resolver_terms.specs.SelectView.{function_of}
use Rattle.sql_reader_grammar.specs.statement_trees.TreeView.{expr_of}
use Rattle.sql_reader_syntax.specs.ExprTree.{trees_of}
use Rattle.resolver_selects.proofs.lemmas.window_calls.RankingLemmas.{ranking_is}
use Rattle.resolver_selects.proofs.window_calls.functions.ranking.Goals as goal

pub returns : goal.returns
returns g c =
    subst (Gives function_of c.by_name.result)
    (sym (ranking_is (g.I.InnerQueries.answers c.args.inner.now) (g.P.Place.meaning c.args.place.now) c.args.name
    (trees_of (map expr_of c.args.items.now)))) c.by_name.ensures
