use Rattle.std.proofs.Common.{sym, ap, ◌∙◌, arith}
use Rattle.values.specs.Datum.{datum_of, text}
use Rattle.schema.proofs.ObjectLemmas.{no_kind, no_number, no_text}
use Rattle.schema.proofs.objects.object_of.Goals as goal

pub returns-in_err-kind-clause-none : goal.returns-in_err-kind-clause-none
returns-in_err-kind-clause-none c =
    let least = c.in-len5.len_at_least in
    rw c.from_residual.ensures
    (no_kind c.as_slice.result.now c.args.row.now c.as_slice.ensures c.kind-item.result c.as_str.result.now (omega (arith, least))
    c.kind-item.is (ap datum_of c.in-Text-Text-Text.is-0 ∙ ap text (sym c.as_str.ensures.value)) c.in_err-kind.ensures.none)

pub returns-in_err-root-clause-none : goal.returns-in_err-root-clause-none
returns-in_err-root-clause-none c =
    let least = c.in-len5.len_at_least in
    rw c.from_residual-in_err-root.ensures
    (no_number c.as_slice.result.now c.args.row.now c.as_slice.ensures c.root-item.result (omega (arith, least)) c.root-item.is
    c.in_err-root.ensures.none)

pub returns-in_err-sql-clause-none : goal.returns-in_err-sql-clause-none
returns-in_err-sql-clause-none c =
    let least = c.in-len5.len_at_least in
    rw c.from_residual-in_err-sql.ensures
    (no_text c.as_slice.result.now c.args.row.now c.as_slice.ensures c.sql-item.result (omega (arith, least)) c.sql-item.is
    c.in_err-sql.ensures.none)
