use Rattle.std.proofs.Common.{◌++◌, Ok, map, string_bytes, ap, sym, ◌∙◌}
use Rattle.std.proofs.lemmas.Result.{err_from_is_err_and}
use Rattle.semantics_names.specs.Sources.{conjunction}
use Rattle.expr.specs.View.{term}
use Rattle.resolver_sources.proofs.lemmas.source_names.UsingLemmas.{matches, matches_none}
use Rattle.resolver_sources.specs.source_names.Matched.{condition}
use Rattle.resolver_sources.proofs.source_names.using.using.Goals as goal

pub returns-in_err-equalities : goal.returns-in_err-equalities
returns-in_err-equalities c =
    let p = err_from_is_err_and c.from_residual.result c.from_residual.ensures.1 in
    rw (p.1, p.2) (matches_none c.args.right c.args.left.now (map (λ n. string_bytes n) c.args.names.now) c.in_err-equalities.field-0.0
    c.in_err-equalities.ensures)

pub returns : goal.returns
returns c =
    let equalities = map term c.in_ok-equalities.equalities.items in
    matches c.args.right c.args.left.now (map (λ n. string_bytes n) c.args.names.now) c.equalities.new.left equalities c.in_ok-equalities.ensures
    ∙ ap (λ right. Ok (condition (c.equalities.new.left ++ right) (conjunction equalities))) (sym c.hide.ensures)
    ∙ ap (λ scope. Ok (condition scope (conjunction equalities))) (sym c.in_ok-append.ensures)
    ∙ ap (λ t. Ok (condition c.append.new.self t)) (sym c.in_ok-condition.ensures)
