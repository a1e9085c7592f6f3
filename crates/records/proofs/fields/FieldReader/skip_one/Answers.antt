use Rattle.std.proofs.Common.{◌<◌, ◌≡◌, ℕ, length, subst, rules, refl, w64, SFits, ap, ◌∙◌}
use Rattle.std.proofs.lemmas.Int.{to_z-of_z}
use Rattle.std.proofs.lemmas.List.{take_rest}
use Rattle.records.specs.Serial.{body_len}
use Rattle.records.proofs.UnreadLemmas.{none_behind_cut, none_in_short, unread_skipped}
use Rattle.records.proofs.fields.FieldReader.skip_one.Goals as goal

pub returns-in_default-clause-none : goal.returns-in_default-clause-none
returns-in_default-clause-none c = λ no. rw (← c.self.view_is) (none_behind_cut _ (c.in_default.ensures.none.0 refl))

pub returns-then-self-len-clause-none : goal.returns-then-self-len-clause-none
returns-then-self-len-clause-none c = λ no.
    let fits : SFits w64 c.in-Some.serial = search rules in
    let len : c.len_of-len.result ≡ body_len c.in-Some.serial = c.len_of-len.ensures ∙ ap body_len (to_z-of_z w64 c.in-Some.serial fits) in
    rw (← c.self.view_is)
    (none_in_short _ c.in-Some.serial c.in-Some.size c.in-Some.ensures.found (subst (λ (n : ℕ). length c.self.inside.bodies.now < n) len c.if-self-len.true))

pub returns-clause-past : goal.returns-clause-past
returns-clause-past c = λ yes.
    let fits : SFits w64 c.in-Some.serial = search rules in
    let len : c.len_of-len.result ≡ body_len c.in-Some.serial = c.len_of-len.ensures ∙ ap body_len (to_z-of_z w64 c.in-Some.serial fits) in
    rw (← c.self.view_is, take_rest c.self.inside.spelt.now c.in-Some.size, take_rest c.self.inside.bodies.now c.len_of-len.result, len)
    (unread_skipped _ c.in-Some.serial c.in-Some.size c.in-Some.ensures.found)
