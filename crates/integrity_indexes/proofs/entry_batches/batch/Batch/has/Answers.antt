use Rattle.std.proofs.Common.{◌≡◌, ◌∙◌, Contains, List, false, true, subst, sym, w64}
use Rattle.std.proofs.lemmas.Int.{to_z-of_z}
use Rattle.integrity_trees.specs.wanted_entries.Bags.{Coded}
use Rattle.integrity_indexes.specs.entry_batches.Batches.{Ascend, coded}
use Rattle.integrity_indexes.proofs.lemmas.entry_batches.KeyLemmas.{entry_code, entry_key, has_entry}
use Rattle.integrity_indexes.proofs.entry_batches.batch.Batch.has.Goals as goal

pub returns-in-None : goal.returns-in-None
returns-in-None c =
    let slots = c.as_slice-slots.result.now in
    let codes = c.self.inside.codes.items in
    let same : coded 0 slots codes ≡ c.args.self.now = (λ k. coded 0 (c.as_slice-slots.ensures.value k) codes) ∙ c.self.view_is in
    let none = rw (to_z-of_z w64 c.args.key c.ranges.key) at c.in-None.ensures.none in (
      λ t. absurd (let e : false ≡ true = t in cc),
      λ h. let p = entry_key slots codes c.args.key c.args.code.now
          (subst (λ (l : List Coded). Contains l (record { key = c.args.key; code = c.args.code.now })) (sym same) h) in absurd (none p.0 p.1),
    )

pub returns-in-Some : goal.returns-in-Some
returns-in-Some c =
    let slots = c.as_slice-slots.result.now in
    let codes = c.as_slice.result.now in
    let same : coded 0 slots codes ≡ c.args.self.now = (λ k. coded 0 (c.as_slice-slots.ensures.value k) (c.as_slice.ensures.value k)) ∙ c.self.view_is in
    let ascend = subst Ascend (sym c.as_slice-slots.ensures.value) c.self.invariant.ascend in
    let found = rw (to_z-of_z w64 c.args.key c.ranges.key) at c.in-Some.ensures.found in (
      λ t. subst (λ (l : List Coded). Contains l (record { key = c.args.key; code = c.args.code.now })) same
          (has_entry slots codes c.args.key c.args.code.now c.in-Some.place found (sym c.code_of.ensures ∙ c.is_same.ensures.0 t)),
      λ h. c.is_same.ensures.1 (c.code_of.ensures ∙ entry_code slots codes c.args.key c.args.code.now ascend c.in-Some.place found
          (subst (λ (l : List Coded). Contains l (record { key = c.args.key; code = c.args.code.now })) (sym same) h)),
    )
