use Rattle.std.proofs.Common.{◌-◌, ◌+◌, ◌≡◌, ◌≤◌, arith, ap, refl}
use Rattle.values.specs.Datum.{datum_of_ref}
use Rattle.records_tables.specs.stored_rows.Reading.{Reading}
use Rattle.records_tables.proofs.lemmas.stored_rows.ReadingLemmas.{not_passed, value_lacks, value_read}
use Rattle.records_tables.proofs.stored_rows.row_reader.RowReader.stored.Goals as goal

pub returns-then-not-passed-clause-none : goal.returns-then-not-passed-clause-none
returns-then-not-passed-clause-none c =
    let here = c.self.inside in
    let now : Reading = record { table = here.table.now; rowid = here.rowid; payload = here.payload.now; unread = here.fields; at = here.at } in
    let before : here.at ≤ c.args.column = rw (ap (λ (r : Reading). r.at) c.self.view_is) c.requires.before in
    let place : here.at + (c.args.column - here.at) ≡ c.args.column = omega (arith, before) in
    rw (← c.self.view_is)
    (λ row is. not_passed now row c.skip-passed.new.self c.args.column (c.args.column - here.at) place (c.if-not-passed.ensures.none refl) is)

pub returns-in_err-value-clause-none : goal.returns-in_err-value-clause-none
returns-in_err-value-clause-none c =
    let here = c.self.inside in
    let now : Reading = record { table = here.table.now; rowid = here.rowid; payload = here.payload.now; unread = here.fields; at = here.at } in
    let before : here.at ≤ c.args.column = rw (ap (λ (r : Reading). r.at) c.self.view_is) c.requires.before in
    let place : here.at + (c.args.column - here.at) ≡ c.args.column = omega (arith, before) in
    rw (c.from_residual.ensures, c.in_err-value.ensures.stays, ← c.self.view_is)
    (λ row is. value_lacks now row c.skip-passed.new.self c.args.column (c.args.column - here.at) place (c.if-not-passed.ensures.past refl) c.in_err-value.ensures.none is)

pub returns-clause-found : goal.returns-clause-found
returns-clause-found c =
    let here = c.self.inside in
    let now : Reading = record { table = here.table.now; rowid = here.rowid; payload = here.payload.now; unread = here.fields; at = here.at } in
    let before : here.at ≤ c.args.column = rw (ap (λ (r : Reading). r.at) c.self.view_is) c.requires.before in
    let place : here.at + (c.args.column - here.at) ≡ c.args.column = omega (arith, before) in
    rw (← c.self.view_is)
    (λ row is. value_read now row c.skip-passed.new.self c.args.column (c.args.column - here.at) place (c.if-not-passed.ensures.past refl)
    c.read.new.self (datum_of_ref c.in_ok-value.value) c.in_ok-value.ensures.more c.in_ok-value.ensures.found is)
