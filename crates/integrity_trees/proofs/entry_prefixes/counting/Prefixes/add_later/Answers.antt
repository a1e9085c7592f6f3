use Rattle.std.proofs.Common.{◌≡◌, ◌∙◌, ◌+◌, ◌++◌, ◌≤◌, List, Some, ℕ, ap, drop, inl, inr, length, min, slice_get, subst, sym, take}
use Rattle.std.specs.Prelude.{◌↔◌, IsTrue}
use Rattle.std.proofs.lemmas.List.{take_at}
use Rattle.values.specs.Bounds.{counted}
use Rattle.integrity_trees.specs.wanted_entries.Unique.{HasNoNull}
use Rattle.integrity_trees.specs.declared.entry_prefixes.counting.Prefixes.{Prefixes}
use Rattle.integrity_trees.proofs.lemmas.entry_prefixes.CountLemmas.{HasTold, later_entry}
use Rattle.integrity_trees.proofs.entry_prefixes.counting.Prefixes.add_later.Goals as goal
use Rattle.integrity_trees.proofs.entry_prefixes.counting.Prefixes.add_later.Goals.{then-repeats_last, else-repeats_last}

pub returns-clause-counted : goal.returns-clause-counted
returns-clause-counted c = λ rows one row ends row_is long_row agree differ are.
    let self = c.if-repeats_last.self in
    let told : HasTold c.repeats_last.result c.args.self.now self = elim c.if-repeats_last.branch [
      | then-repeats_last w ↦ inl (w.if-repeats_last.true, ap (λ (p : Prefixes). p.repeats) w.self-is)
      | else-repeats_last w ↦ inr (w.if-repeats_last.false, ap (λ (p : Prefixes). p.repeats) w.self-is)
    ] in
    let items : self.distinct.items ≡ c.args.self.now.distinct.items = elim c.if-repeats_last.branch [
      | then-repeats_last w ↦ ap (λ (p : Prefixes). p.distinct.items) w.self-is
      | else-repeats_last w ↦ ap (λ (p : Prefixes). p.distinct.items) w.self-is
    ] in
    let slice : c.as_mut_slice.result.now ≡ c.args.self.now.distinct.items = c.as_mut_slice.ensures.value ∙ items in
    let width : c.len-width.result ≡ length c.args.self.now.distinct.items = c.len-width.ensures ∙ c.args.self.now.distinct.ok.0 in
    let counts = c.count_from.new.distinct in
    let written : take self.distinct.len (counts ++ drop (length counts) self.distinct.items) ≡ counts =
    take_at counts (drop (length counts) self.distinct.items) self.distinct.len
    (c.count_from.ensures.long ∙ ap length c.as_mut_slice.ensures.value ∙ sym self.distinct.ok.0) in
    let long : c.len-width.result ≤ length row = subst (λ (n : ℕ). n ≤ length row) (sym width) long_row in
    later_entry rows one row c.args.self.now _ c.args.agreeing c.min-shared.result c.repeats_last.result ends
    (ap length written ∙ c.count_from.ensures.long ∙ ap length slice)
    (λ columns count less at. subst (λ (l : List ℕ). slice_get l columns ≡ Some count) (sym written)
    (c.count_from.ensures.fewer columns count less (subst (λ (l : List ℕ). slice_get l columns ≡ Some count) (sym slice) at)))
    (λ columns count least at. subst (λ (l : List ℕ). slice_get l columns ≡ Some (counted (count + 1))) (sym written)
    (c.count_from.ensures.more columns count least (subst (λ (l : List ℕ). slice_get l columns ≡ Some count) (sym slice) at)))
    (c.min-shared.ensures ∙ ap (min c.args.agreeing) width) told are agree differ
    (subst (λ (n : ℕ). IsTrue c.repeats_last.result ↔ ((c.min-shared.result ≡ n) × HasNoNull (take n row))) width
    (c.repeats_last.ensures row row_is long))
