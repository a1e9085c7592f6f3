use Rattle.std.proofs.Common.{◌≡◌, ◌⊎◌, Err, map, rules, subst, sym, ap, ◌∙◌}
use Rattle.std.proofs.lemmas.Result.{err_from_is_err_and}
use Rattle.values.specs.declared.fault.Fault.TheVariants.{NoMemory}
use Rattle.resolver_sources.proofs.lemmas.from_names.FromLemmas.{first_refused, first_taken}
use Rattle.semantics_names.specs.Statement.{from_of}
use Rattle.resolver_terms.specs.Outcome.{Gives}
use Rattle.resolver_sources.specs.source_names.GivenView.{given_of, known_of, sources_of}
use Rattle.sql_reader_grammar.specs.statement_trees.TreeView as trees
use Rattle.sql_reader_grammar.specs.declared.statement_trees.expressions.Expr.TheFolds.{fold_out-Sources}
use Rattle.sql_reader_grammar.specs.declared.statement_trees.expressions.Expr.TheViews.{the_lemmas}
use Rattle.sql_reader_grammar.specs.declared.statement_trees.queries.Sources.{out-Sources}
use Rattle.sql_reader_syntax.specs.ExprTree.{FromTree}
use Rattle.resolver_sources.proofs.from_names.froms.sources.Goals as goal

pub returns-in_err-given : goal.returns-in_err-given
returns-in_err-given g c =
    let answers = g.I.InnerQueries.answers c.args.inner.now in
    let known = map known_of c.args.known.now in
    let queries = g.Q.Queries.meaning c.args.queries.now in
    let from = out-Sources c.args.from.now in
    let first = trees.source_of from.first in
    let others = map trees.joined_of from.others.items in
    let tree : trees.sources_of c.args.from.now ≡ trees.joined_all (FromTree.First first) others =
    search (rules, the_lemmas, fold_out-Sources) in
    let p = err_from_is_err_and c.from_residual.result c.from_residual.ensures.1 in
    let refused = first_refused answers known queries first others c.in_err-given.field-0.0 c.in_err-given.ensures in
    rw (p.1, p.2) (subst (λ t. (c.in_err-given.field-0.0 ≡ NoMemory) ⊎ (from_of known queries answers t ≡ Err c.in_err-given.field-0.0)) (sym tree) refused)

pub returns : goal.returns
returns g c =
    let answers = g.I.InnerQueries.answers c.args.inner.now in
    let known = map known_of c.args.known.now in
    let queries = g.Q.Queries.meaning c.args.queries.now in
    let first = trees.source_of (out-Sources c.args.from.now).first in
    let others = map trees.joined_of c.as_slice.result.now in
    let tree : trees.sources_of c.args.from.now ≡ trees.joined_all (FromTree.First first) others =
    search (rules, the_lemmas, fold_out-Sources) in
    let taken = first_taken answers known queries first others (given_of c.in_ok-given.given) (sources_of c.in_ok-left.left)
    c.in_ok-given.ensures c.in_ok-left.ensures in
    subst (Gives sources_of c.all_joined.result) (sym (ap (from_of known queries answers) tree ∙ taken)) c.all_joined.ensures
