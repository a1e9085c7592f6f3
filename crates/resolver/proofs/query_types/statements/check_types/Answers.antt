use Rattle.std.proofs.Common.{map}
use Rattle.std.proofs.lemmas.Result.{err_from_is_err_and}
use Rattle.resolver_bodies.specs.BodyView.{body_of}
use Rattle.resolver.proofs.lemmas.query_types.StatementLemmas.{query_refused, query_taken}
use Rattle.resolver.proofs.query_types.statements.check_types.Goals as goal

pub returns-in_err-_types : goal.returns-in_err-_types
returns-in_err-_types c = λ named same_beside same_body same_order.
    let p = err_from_is_err_and c.from_residual-in_err-_types.result c.from_residual-in_err-_types.ensures.1 in
    rw (p.1, p.2) (query_refused (map (λ t. t.items) c.args.tables.now) named (map body_of c.args.beside.now) same_beside
    c.in_ok-check_bodies.ensures c.in_err-_types.field-0.0 (c.in_err-_types.ensures named.query same_body same_order))

pub returns : goal.returns
returns c = λ named same_beside same_body same_order.
    query_taken (map (λ t. t.items) c.args.tables.now) named (map body_of c.args.beside.now) same_beside c.in_ok-check_bodies.ensures
    c.in_ok-_types._types.items (c.in_ok-_types.ensures named.query same_body same_order)
