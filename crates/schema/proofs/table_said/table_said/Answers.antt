use Rattle.std.proofs.Common.{Contains, inl, inr, subst}
use Rattle.std.proofs.lemmas.Result.{err_from_is_err_and}
use Rattle.schema.specs.ObjectView.{object_data}
use Rattle.schema.specs.Refused.{IsBadSchema, IsLeftOut}
use Rattle.schema.proofs.RefusalLemmas.{none_told, some_told, text_none, textless}
use Rattle.schema.proofs.table_said.table_said.Goals as goal

pub returns-in_default-clause-refused : goal.returns-in_default-clause-refused
returns-in_default-clause-refused c = λ rows has. IsBadSchema.row c.args.row.now has c.in_default.ensures.none

pub returns-in_err-table_by-in-Table-clause-refused : goal.returns-in_err-table_by-in-Table-clause-refused
returns-in_err-table_by-in-Table-clause-refused c =
    let p = err_from_is_err_and c.from_residual.result c.from_residual.ensures.1 in
    rw (p.1, p.2)
    (λ rows has. c.in_err-table_by-in-Table.ensures.refused rows (subst (Contains rows) c.in-Some.ensures.found has))

pub returns-in-Index-clause-other : goal.returns-in-Index-clause-other
returns-in-Index-clause-other c =
    inl (record { object = object_data c.in-Some.object; row_is = c.in-Some.ensures.found; kind_is = c.in-Index.is })

pub returns-in_ok-from_str-in-View-clause-refused : goal.returns-in_ok-from_str-in-View-clause-refused
returns-in_ok-from_str-in-View-clause-refused c = λ rows has. record {
  object = object_data c.in-Some.object;
  stands = subst (Contains rows) c.in-Some.ensures.found has;
  name_is = c.in_ok-from_str-in-View.ensures.ok;
  is = IsLeftOut.view c.in-View.is;
}

pub returns-in-Trigger-clause-refused : goal.returns-in-Trigger-clause-refused
returns-in-Trigger-clause-refused c = λ rows has.
    let kind = c.in-Trigger.is in
    textless c.args.pages (object_data c.in-Some.object) rows (subst (Contains rows) c.in-Some.ensures.found has)
    (text_none c.in-Some.object.sql (none_told c.in-Some.object.sql c.is_none.result c.is_none.ensures c.if-is_none.true))
    (λ e. absurd cc)

pub returns-in-Trigger-2-clause-other : goal.returns-in-Trigger-2-clause-other
returns-in-Trigger-2-clause-other c =
    inr (record {
      object = object_data c.in-Some.object;
      row_is = c.in-Some.ensures.found;
      kind_is = c.in-Trigger-2.is;
      has_text = some_told c.in-Some.object.sql c.is_none.result c.is_none.ensures c.if-is_none.false;
    })
