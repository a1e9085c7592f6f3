use Rattle.std.proofs.Common.{Contains, inl, inr, subst}
use Rattle.std.proofs.lemmas.Result.{err_from_is_err_and}
use Rattle.schema.specs.ObjectView.{object_data}
use Rattle.schema.specs.Refused.{IsBadSchema, IsLeftOut}
use Rattle.schema.proofs.index_said.index_said.Goals as goal

pub returns-in_default-clause-refused : goal.returns-in_default-clause-refused
returns-in_default-clause-refused c = λ rows has are apart. IsBadSchema.row c.args.row.now has c.in_default.ensures.none

pub returns-in_err-index_by-in-Index-clause-refused : goal.returns-in_err-index_by-in-Index-clause-refused
returns-in_err-index_by-in-Index-clause-refused c =
    let p = err_from_is_err_and c.from_residual.result c.from_residual.ensures.1 in
    rw (p.1, p.2)
    (λ rows has are apart. c.in_err-index_by-in-Index.ensures.refused rows (subst (Contains rows) c.in-Some.ensures.found has) are apart)

pub returns-in-Table-clause-other : goal.returns-in-Table-clause-other
returns-in-Table-clause-other c =
    inl (record { object = object_data c.in-Some.object; row_is = c.in-Some.ensures.found; kind_is = c.in-Table.is })

pub returns-in-Trigger-clause-other : goal.returns-in-Trigger-clause-other
returns-in-Trigger-clause-other c =
    inr (record { object = object_data c.in-Some.object; row_is = c.in-Some.ensures.found; kind_is = c.in-Trigger.is })

pub returns-in_ok-from_str-in-View-clause-refused : goal.returns-in_ok-from_str-in-View-clause-refused
returns-in_ok-from_str-in-View-clause-refused c = λ rows has are apart. record {
  object = object_data c.in-Some.object;
  stands = subst (Contains rows) c.in-Some.ensures.found has;
  name_is = c.in_ok-from_str-in-View.ensures.ok;
  is = IsLeftOut.view c.in-View.is;
}
