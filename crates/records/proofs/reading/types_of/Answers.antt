use Rattle.std.proofs.Common.{◌≡◌, ◌∷◌, ◌++◌, ◌∙◌, ℤ, ℕ, List, [], refl, sym, ap, subst, rules, append_assoc, SFits, w64}
use Rattle.std.proofs.lemmas.Int.{to_z-of_z}
use Rattle.std.proofs.lemmas.List.{take_rest, append-nil}
use Rattle.records.specs.Varint.{BeginsVarint}
use Rattle.records.specs.Record.{AreTypes}
use Rattle.records.proofs.ListLemmas.{not_empty, empty}
use Rattle.records.proofs.HeaderLemmas.{types_step, types_tail, types_cut}
use Rattle.records.proofs.reading.types_of.Goals as goal

pub returns-in_default-clause-none : goal.returns-in_default-clause-none
returns-in_default-clause-none c = λ types are.
    let tail = c.loop-rest.invariant.only types are in
    types_cut c.loop-rest.rest.now tail.0 (not_empty c.loop-rest.rest.now c.is_empty.result c.is_empty.ensures c.loop-rest-test.true) (c.in_default.ensures.none.0 refl) tail.1

pub loop-rest-preserved : goal.loop-rest-preserved
loop-rest-preserved c =
    let rest = c.loop-rest.rest.now in
    let len = c.in-Some.len in
    let serial = c.in-Some.serial in
    let before = c.loop-rest.types.items in
    let cut = take_rest rest len in
    let begins : BeginsVarint rest serial len = c.in-Some.ensures.found in
    let fits : SFits w64 serial = search rules in
    let pushed : c.push.new.self.items ≡ before ++ serial ∷ [] =
    c.in_ok-push.ensures.ok ∙ ap (λ (z : ℤ). before ++ z ∷ []) (to_z-of_z w64 serial fits) in
    record {
      found = λ more are.
          let items : c.push.new.self.items ++ more ≡ before ++ (serial ∷ more) =
          ap (λ (l : List ℤ). l ++ more) pushed ∙ append_assoc before (serial ∷ []) more in
          subst (λ (l : List ℤ). AreTypes c.args.spelt.now l) (sym items)
          (c.loop-rest.invariant.found (serial ∷ more) (types_step rest len serial more begins (subst (λ (b : List ℕ). AreTypes b more) cut are)));
      only = λ all are.
          let tail = c.loop-rest.invariant.only all are in
          let h = types_tail rest len serial tail.0 begins tail.1 in
          (h.0, subst (λ (b : List ℕ). AreTypes b h.0) (sym cut) h.1);
    }

pub returns-clause-found : goal.returns-clause-found
returns-clause-found c =
    let none = empty c.loop-rest.rest.now c.is_empty.result c.is_empty.ensures c.loop-rest-test.false in
    subst (λ (l : List ℤ). AreTypes c.args.spelt.now l) (append-nil c.loop-rest.types.items) (c.loop-rest.invariant.found [] none)
