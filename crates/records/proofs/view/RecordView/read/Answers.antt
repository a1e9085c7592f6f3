use Rattle.std.proofs.Common.{sym, subst, inl}
use Rattle.std.proofs.lemmas.Result.{err_from_is_err_and}
use Rattle.records.specs.Record.{AreBodies, AreTypes}
use Rattle.records.proofs.RecordLemmas.{with_header, one_record, not_broken, broken_types, broken_bodies}
use Rattle.records.proofs.view.RecordView.read.Goals as goal

pub returns-in_default-clause-only : goal.returns-in_default-clause-only
returns-in_default-clause-only c = λ values is. absurd (c.in_default.ensures.none is.header.spelt is.bodies is.header.split)

pub returns-in_default-clause-fault : goal.returns-in_default-clause-fault
returns-in_default-clause-fault c = inl (λ types bodies h. c.in_default.ensures.none h.spelt bodies h.split)

pub returns-in_err-types-clause-only : goal.returns-in_err-types-clause-only
returns-in_err-types-clause-only c = λ values is.
    let bytes = c.args.bytes.now in
    let fault = c.in_err-types.field-0.0 in
    let broken = broken_types fault bytes c.in-Some.spelt.now c.in-Some.bodies.now c.in-Some.ensures.found c.in_err-types.ensures.none in
    let p = err_from_is_err_and c.from_residual.result c.from_residual.ensures.1 in
    rw (p.1, p.2) (not_broken fault bytes values broken is)

pub returns-in_err-types-clause-fault : goal.returns-in_err-types-clause-fault
returns-in_err-types-clause-fault c =
    let fault = c.in_err-types.field-0.0 in
    let p = err_from_is_err_and c.from_residual.result c.from_residual.ensures.1 in
    rw (p.1, p.2) (broken_types fault c.args.bytes.now c.in-Some.spelt.now c.in-Some.bodies.now c.in-Some.ensures.found c.in_err-types.ensures.none)

pub returns-in_err-fields-clause-only : goal.returns-in_err-fields-clause-only
returns-in_err-fields-clause-only c = λ values is.
    let bytes = c.args.bytes.now in
    let fault = c.in_err-fields.field-0.0 in
    let are = subst (AreTypes c.in-Some.spelt.now) (sym c.as_slice.ensures) c.in_ok-types.ensures.found in
    let broken =
    broken_bodies fault bytes (with_header _ bytes c.in-Some.spelt.now c.as_slice.result.now c.in-Some.bodies.now c.in-Some.ensures.found are c.in_err-fields.ensures.fault) in
    let p = err_from_is_err_and c.from_residual-in_err-fields.result c.from_residual-in_err-fields.ensures.1 in
    rw (p.1, p.2) (not_broken fault bytes values broken is)

pub returns-clause-only : goal.returns-clause-only
returns-clause-only c = λ values is.
    let bytes = c.args.bytes.now in
    let are = subst (AreTypes c.in-Some.spelt.now) (sym c.as_slice.ensures) c.in_ok-types.ensures.found in
    let found =
    with_header (λ types bodies. AreBodies types bodies _) bytes c.in-Some.spelt.now c.as_slice.result.now c.in-Some.bodies.now c.in-Some.ensures.found are c.in_ok-fields.ensures.found in
    one_record bytes _ values found is
