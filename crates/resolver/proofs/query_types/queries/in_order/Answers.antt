use Rattle.std.proofs.Common.{map, option_map, ap, inr, ◌∙◌}
use Rattle.std.proofs.lemmas.Result.{err_from_is_err_and}
use Rattle.resolver_types.specs.body_types.RowView.{row_of}
use Rattle.semantics_names.specs.Outcome.{each}
use Rattle.resolver.proofs.lemmas.query_types.OrderLemmas.{keys_refused}
use Rattle.resolver.specs.query_types.Keys.{key_over}
use Rattle.resolver_types.specs.term_types.Passed.{passed}
use Rattle.resolver.proofs.query_types.queries.in_order.Goals as goal
use Rattle.resolver_terms.specs.SelectView.{key_of}

pub returns-in_err-check_keys : goal.returns-in_err-check_keys
returns-in_err-check_keys c =
    let over = option_map (λ r. row_of r.now) c.args.over in
    let types = c.args.types.items in
    let keys = map key_of c.args.order.now in
    let p = err_from_is_err_and c.from_residual.result c.from_residual.ensures.1 in
    rw (p.1, p.2) (inr (keys_refused (each (λ k. key_over over types k.by) keys) types c.in_err-check_keys.field-0.0
    (c.in_err-check_keys.ensures ∙ ap (λ types. passed (each (λ k. key_over over types k.by) keys)) c.as_slice.ensures.value)))
