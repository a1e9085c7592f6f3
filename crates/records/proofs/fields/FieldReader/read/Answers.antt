use Rattle.std.proofs.Common.{ℤ, [], subst, rules, refl, w64, SFits, arith}
use Rattle.std.proofs.lemmas.Int.{to_z-of_z}
use Rattle.std.proofs.lemmas.List.{take_rest}
use Rattle.values.specs.Datum.{datum_of_ref}
use Rattle.records.specs.Serial.{BeginsField, BreaksFront}
use Rattle.records.proofs.UnreadLemmas.{unread_broken, unread_cut, unread_read, unread_skipped}
use Rattle.records.proofs.fields.FieldReader.read.Goals as goal

pub returns-in_err-serial-clause-none : goal.returns-in_err-serial-clause-none
returns-in_err-serial-clause-none c =
    rw (← c.self.view_is) (rw c.from_residual.ensures (unread_cut _ (c.in_err-serial.ensures.none.0 refl)))

pub returns-in_default-clause-none : goal.returns-in_default-clause-none
returns-in_default-clause-none c =
    let fits : SFits w64 c.in_ok-serial.serial = search rules in
    let broken =
    subst (λ (s : ℤ). BreaksFront c.in_default.field-0 s c.self.inside.bodies.now) (to_z-of_z w64 c.in_ok-serial.serial fits) c.in_default.ensures.fault in
    rw (← c.self.view_is)
    (unread_broken c.in_default.field-0 _ c.in_ok-serial.serial c.in_ok-serial.size c.in_ok-serial.ensures.found broken)

pub returns-clause-found : goal.returns-clause-found
returns-clause-found c =
    let fits : SFits w64 c.in_ok-serial.serial = search rules in
    let begins =
    subst (λ (s : ℤ). BeginsField s c.self.inside.bodies.now (datum_of_ref c.in-Ok.value) c.in-Ok.rest.now) (to_z-of_z w64 c.in_ok-serial.serial fits) c.in-Ok.ensures.found in
    rw (← c.self.view_is, take_rest c.self.inside.spelt.now c.in_ok-serial.size)
    (unread_read _ c.in_ok-serial.serial c.in_ok-serial.size (datum_of_ref c.in-Ok.value) c.in-Ok.rest.now c.in_ok-serial.ensures.found begins)

pub returns-clause-more : goal.returns-clause-more
returns-clause-more c =
    rw (← c.self.view_is) (λ u. omega (arith, (unread_skipped _ c.in_ok-serial.serial c.in_ok-serial.size c.in_ok-serial.ensures.found [] u).0))
