use Rattle.std.proofs.Common.{map, refl, sym, ap}
use Rattle.std.proofs.lemmas.Result.{err_from_is_err_and}
use Rattle.resolver_bodies.specs.BodyView.{body_of}
use Rattle.resolver_bodies.specs.NamedView.{named_data}
use Rattle.resolver.proofs.resolved.typed.Goals as goal
use Rattle.resolver_terms.specs.SelectView.{key_of}

pub returns-in_err-check_types : goal.returns-in_err-check_types
returns-in_err-check_types c =
    let p = err_from_is_err_and c.from_residual.result c.from_residual.ensures.1 in
    rw (p.1, p.2)
    (c.in_err-check_types.ensures (named_data c.args.named) (ap (map body_of) (sym c.as_slice.ensures.value)) refl
    (ap (map key_of) (sym c.as_slice-2.ensures.value)))

pub returns : goal.returns
returns c =
    c.in_ok-check_types.ensures (named_data c.args.named) (ap (map body_of) (sym c.as_slice.ensures.value)) refl
    (ap (map key_of) (sym c.as_slice-2.ensures.value))
