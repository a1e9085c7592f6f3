use Rattle.std.proofs.Common.{◌≡◌, ◌++◌, ◌∷◌, [], ℤ, pos, List, map, get_or, sym, ap, subst, refl, inr, ◌∙◌, rules, w64, SFits, append_assoc}
use Rattle.std.proofs.lemmas.Int.{to_z-of_z}
use Rattle.std.proofs.lemmas.List.{append-nil, drop_all, map_push}
use Rattle.std.proofs.lemmas.Result.{err_from_is_err_and}
use Rattle.values.specs.Datum.{Datum, datum_of_ref}
use Rattle.records.specs.Serial.{BeginsField, BreaksFront}
use Rattle.records.specs.Record.{AreBodies}
use Rattle.records.proofs.ListLemmas.{not_empty, empty}
use Rattle.records.proofs.BodyLemmas.{bodies_step, place_step, place_broken, left_over}
use Rattle.records.proofs.reading.fields_of.Goals as goal

pub loop-serial-init : goal.loop-serial-init
loop-serial-init c = record {
  found = λ more h. subst (λ (l : List Datum). AreBodies c.args.types.now c.args.bodies.now l) (sym (ap (λ vs. map datum_of_ref vs ++ more) c.new-fields.ensures.items)) h;
  place = record { front = []; parts = refl; len = refl };
}

pub returns-in_err-value-clause-fault : goal.returns-in_err-value-clause-fault
returns-in_err-value-clause-fault c =
    let types = c.args.types.now in
    let i = c.loop-serial.serial-index in
    let rest = c.loop-serial.rest.now in
    let fault = c.in_err-value.field-0.0 in
    let serial = get_or types i (pos 0) in
    let fits : SFits w64 serial = search rules in
    let broken = subst (λ (s : ℤ). BreaksFront fault s rest) (to_z-of_z w64 serial fits) c.in_err-value.ensures.fault in
    let p = err_from_is_err_and c.from_residual.result c.from_residual.ensures.1 in
    rw (p.1, p.2) (place_broken fault types c.args.bodies.now i (pos 0) rest c.loop-serial-test.true c.loop-serial.invariant.place broken)

pub loop-serial-preserved : goal.loop-serial-preserved
loop-serial-preserved c =
    let types = c.args.types.now in
    let i = c.loop-serial.serial-index in
    let rest = c.loop-serial.rest.now in
    let after = c.in_ok-value.after.now in
    let value = datum_of_ref c.in_ok-value.value in
    let values = c.loop-serial.fields.items in
    let serial = get_or types i (pos 0) in
    let fits : SFits w64 serial = search rules in
    let begins : BeginsField serial rest value after =
    subst (λ (s : ℤ). BeginsField s rest value after) (to_z-of_z w64 serial fits) c.in_ok-value.ensures.found in
    let pushed : map datum_of_ref c.push.new.self.items ≡ map datum_of_ref values ++ value ∷ [] =
    ap (map datum_of_ref) c.in_ok-push.ensures.ok ∙ map_push datum_of_ref values c.in_ok-value.value in
    record {
      found = λ more h.
          let joined : map datum_of_ref c.push.new.self.items ++ more ≡ map datum_of_ref values ++ (value ∷ more) =
          ap (λ (l : List Datum). l ++ more) pushed ∙ append_assoc (map datum_of_ref values) (value ∷ []) more in
          subst (λ (l : List Datum). AreBodies types c.args.bodies.now l) (sym joined)
          (c.loop-serial.invariant.found (value ∷ more) (bodies_step types i (pos 0) rest after value more c.loop-serial-test.true begins h));
      place = place_step types c.args.bodies.now i (pos 0) rest after value c.loop-serial-test.true c.loop-serial.invariant.place begins;
    }

pub returns-clause-found : goal.returns-clause-found
returns-clause-found c =
    let types = c.args.types.now in
    let none = empty c.loop-serial.rest.now c.is_empty.result c.is_empty.ensures c.if-not-is_empty.false in
    let done =
    subst (λ (ts : List ℤ). AreBodies ts c.loop-serial.rest.now []) (sym (drop_all c.loop-serial.serial-index types c.loop-serial-test.false)) none in
    subst (λ (l : List Datum). AreBodies types c.args.bodies.now l) (append-nil (map datum_of_ref c.loop-serial.fields.items)) (c.loop-serial.invariant.found [] done)

pub returns-then-not-is_empty-clause-fault : goal.returns-then-not-is_empty-clause-fault
returns-then-not-is_empty-clause-fault c =
    inr (left_over c.args.types.now c.args.bodies.now c.loop-serial.serial-index c.loop-serial.rest.now c.loop-serial-test.false c.loop-serial.invariant.place
    (not_empty c.loop-serial.rest.now c.is_empty.result c.is_empty.ensures c.if-not-is_empty.true))
