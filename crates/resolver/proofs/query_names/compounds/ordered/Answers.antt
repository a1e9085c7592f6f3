use Rattle.std.proofs.Common.{Ok, map, ap, string_bytes, sym, ◌∙◌}
use Rattle.std.proofs.lemmas.Result.{err_from_is_err_and}
use Rattle.sql_reader_grammar.specs.Reading.{terms_of}
use Rattle.resolver.proofs.lemmas.query_names.CompoundLemmas.{order_refused, order_taken}
use Rattle.resolver_sources.specs.source_names.GivenView.{queried_of}
use Rattle.sql_reader_grammar.specs.statement_trees.TreeView.{term_of}
use Rattle.resolver.proofs.query_names.compounds.ordered.Goals as goal
use Rattle.resolver_terms.specs.SelectView.{key_of}

pub returns-in_err-order : goal.returns-in_err-order
returns-in_err-order g c =
    let p = err_from_is_err_and c.from_residual.result c.from_residual.ensures.1 in
    rw (p.1, p.2) (order_refused (terms_of (map term_of c.args.order.now)) (queried_of c.args.query) (map (λ n. string_bytes n) c.as_slice.result.now)
    (ap (map (λ n. string_bytes n)) c.as_slice.ensures.value) c.in_err-order.field-0.0 c.in_err-order.ensures)

pub returns : goal.returns
returns g c =
    order_taken (terms_of (map term_of c.args.order.now)) (queried_of c.args.query) (map (λ n. string_bytes n) c.as_slice.result.now)
    (ap (map (λ n. string_bytes n)) c.as_slice.ensures.value) (map key_of c.in_ok-order.order.items) c.in_ok-order.ensures
    ∙ ap Ok (sym c.in_order.ensures)
