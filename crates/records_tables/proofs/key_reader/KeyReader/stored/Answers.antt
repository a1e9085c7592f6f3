use Rattle.std.proofs.Common.{◌-◌, ◌+◌, ◌≡◌, ◌≤◌, ◌<◌, ◌^◌, length, rules, arith, ap, refl}
use Rattle.values.specs.Datum.{datum_of_ref}
use Rattle.records_tables.specs.Keyed.{KeyReading}
use Rattle.records_tables.proofs.FieldLemmas.{unread_none, unread_passed, unread_read, unread_short}
use Rattle.records_tables.proofs.key_reader.KeyReader.stored.Goals as goal

pub returns-then-not-passed-clause-none : goal.returns-then-not-passed-clause-none
returns-then-not-passed-clause-none c =
    let here = c.self.inside in
    let before : here.at ≤ c.args.place = rw (ap (λ (r : KeyReading). r.at) c.self.view_is) c.requires.before in
    let place : here.at + (c.args.place - here.at) ≡ c.args.place = omega (arith, before) in
    rw (← c.self.view_is)
    (λ row is.
    let short = unread_short is.values here.fields c.skip-passed.new.self here.at (c.args.place - here.at) c.args.place place (c.if-not-passed.ensures.none refl) is.unread_are in
    (short.0, record { values = is.values; record_is = is.record_is; makes = is.makes; unread_are = short.1 }))

pub returns-in_err-value-clause-none : goal.returns-in_err-value-clause-none
returns-in_err-value-clause-none c =
    let here = c.self.inside in
    let before : here.at ≤ c.args.place = rw (ap (λ (r : KeyReading). r.at) c.self.view_is) c.requires.before in
    let place : here.at + (c.args.place - here.at) ≡ c.args.place = omega (arith, before) in
    rw (c.from_residual.ensures, c.in_err-value.ensures.stays, ← c.self.view_is)
    (λ row is.
    let passed = unread_passed is.values here.fields c.skip-passed.new.self here.at (c.args.place - here.at) c.args.place place (c.if-not-passed.ensures.past refl) is.unread_are in (
      unread_none is.values c.skip-passed.new.self c.args.place passed c.in_err-value.ensures.none,
      record { values = is.values; record_is = is.record_is; makes = is.makes; unread_are = passed },
    ))

pub returns-clause-found : goal.returns-clause-found
returns-clause-found c =
    let here = c.self.inside in
    let before : here.at ≤ c.args.place = rw (ap (λ (r : KeyReading). r.at) c.self.view_is) c.requires.before in
    let place : here.at + (c.args.place - here.at) ≡ c.args.place = omega (arith, before) in
    rw (← c.self.view_is)
    (λ row is.
    let passed = unread_passed is.values here.fields c.skip-passed.new.self here.at (c.args.place - here.at) c.args.place place (c.if-not-passed.ensures.past refl) is.unread_are in
    let read = unread_read is.values c.skip-passed.new.self c.args.place passed c.read.new.self (datum_of_ref c.in_ok-value.value) c.in_ok-value.ensures.more c.in_ok-value.ensures.found in
    (read.0, record { values = is.values; record_is = is.record_is; makes = is.makes; unread_are = read.1 }))

pub overflow_add-self : goal.overflow_add-self
overflow_add-self c =
    let here = c.self.inside in
    let more : c.args.place < length here.table.now.columns = rw (ap (λ (r : KeyReading). r.table) c.self.view_is) c.requires.more in
    let width = c.self.invariant.width_is in
    let few = c.self.invariant.fits in
    let most : c.args.place + 1 < 2 ^ 64 = omega (arith, more, width, few) in
    search (rules, most)
