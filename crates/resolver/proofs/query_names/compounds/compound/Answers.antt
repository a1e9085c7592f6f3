use Rattle.std.proofs.Common.{◌<◌, map, subst, sym}
use Rattle.std.proofs.lemmas.List.{length-map}
use Rattle.std.proofs.lemmas.Result.{err_from_is_err_and}
use Rattle.sql_reader_grammar.specs.Reading.{terms_of}
use Rattle.resolver.proofs.lemmas.query_names.CompoundLemmas.{all_taken, first_refused, other_refused}
use Rattle.resolver_terms.specs.Outcome.{Gives}
use Rattle.resolver_sources.specs.source_names.GivenView.{known_of, queried_of}
use Rattle.sql_reader_grammar.specs.statement_trees.TreeView.{arranged_of, core_of, term_of}
use Rattle.sql_reader_syntax.specs.ExprTree.{QueryTree}
use Rattle.resolver.proofs.query_names.compounds.compound.Goals as goal

pub returns-in_err-left : goal.returns-in_err-left
returns-in_err-left g c =
    let p = err_from_is_err_and c.from_residual.result c.from_residual.ensures.1 in
    rw (p.1, p.2) (first_refused (map known_of c.args.known.now) (g.Q.Queries.meaning c.args.queries.now) (terms_of (map term_of c.args.order.now))
    (QueryTree.Core (core_of c.args.first.now)) (map arranged_of c.args.others.now) (subst (λ n. 0 < n) (sym (length-map c.args.others.now arranged_of)) c.requires.joined) c.in_err-left.field-0.0 c.in_err-left.ensures)

pub returns-in_err-all : goal.returns-in_err-all
returns-in_err-all g c =
    let p = err_from_is_err_and c.from_residual-in_err-all.result c.from_residual-in_err-all.ensures.1 in
    rw (p.1, p.2) (other_refused (map known_of c.args.known.now) (g.Q.Queries.meaning c.args.queries.now) (terms_of (map term_of c.args.order.now))
    (QueryTree.Core (core_of c.args.first.now)) (map arranged_of c.args.others.now) (subst (λ n. 0 < n) (sym (length-map c.args.others.now arranged_of)) c.requires.joined) (queried_of c.in_ok-left.left) c.in_ok-left.ensures
    c.in_err-all.field-0.0 c.in_err-all.ensures)

pub returns : goal.returns
returns g c =
    subst (Gives queried_of c.ordered.result) (sym (all_taken (map known_of c.args.known.now) (g.Q.Queries.meaning c.args.queries.now)
    (terms_of (map term_of c.args.order.now)) (QueryTree.Core (core_of c.args.first.now)) (map arranged_of c.args.others.now) (subst (λ n. 0 < n) (sym (length-map c.args.others.now arranged_of)) c.requires.joined)
    (queried_of c.in_ok-left.left) c.in_ok-left.ensures (queried_of c.in_ok-all.all) c.in_ok-all.ensures)) c.ordered.ensures
