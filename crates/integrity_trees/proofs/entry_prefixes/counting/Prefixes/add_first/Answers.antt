use Rattle.std.proofs.Common.{◌≡◌, ◌∙◌, ◌+◌, ◌++◌, List, Some, ℕ, ap, arith, drop, length, refl, slice_get, subst, sym, take}
use Rattle.std.proofs.lemmas.List.{take_at}
use Rattle.values.specs.Bounds.{counted}
use Rattle.integrity_trees.proofs.lemmas.entry_prefixes.CountLemmas.{first_entry}
use Rattle.integrity_trees.proofs.entry_prefixes.counting.Prefixes.add_first.Goals as goal

pub returns-clause-counted : goal.returns-clause-counted
returns-clause-counted c = λ row are.
    let self = c.args.self.now in
    let slice : c.as_mut_slice.result.now ≡ self.distinct.items = c.as_mut_slice.ensures.value in
    let counts = c.count_from.new.distinct in
    let written : take self.distinct.len (counts ++ drop (length counts) self.distinct.items) ≡ counts =
    take_at counts (drop (length counts) self.distinct.items) self.distinct.len
    (c.count_from.ensures.long ∙ ap length c.as_mut_slice.ensures.value ∙ sym self.distinct.ok.0) in
    first_entry row self _ (ap length written ∙ c.count_from.ensures.long ∙ ap length slice)
    (λ columns count at. subst (λ (l : List ℕ). slice_get l columns ≡ Some (counted (count + 1))) (sym written)
    (c.count_from.ensures.more columns count (omega arith) (subst (λ (l : List ℕ). slice_get l columns ≡ Some count) (sym slice) at)))
    refl are
