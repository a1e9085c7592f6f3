use Rattle.std.proofs.Common.{◌≡◌, ◌+◌, ℕ, false, true, List, [], ◌∷◌, ◌++◌, add-one, drop, drop-cons, get_or, ap, subst, sym, ◌∙◌, rules}
use Rattle.records_tables.specs.primary_rows.Firsts.{firsts, has_number}
use Rattle.records_tables.proofs.lemmas.primary_rows.FirstLemmas.{step_met, step_new}
use Rattle.records_searches.proofs.finders.put_each.Goals.{then-not-contains+in_ok-push, else-not-contains}
use Rattle.records_searches.proofs.finders.put_each.Goals as goal

pub loop-number-preserved : goal.loop-number-preserved
loop-number-preserved c =
    let numbers = c.args.numbers.now in
    let i = c.loop-number.number-index in
    let met = c.loop-number.met.items in
    let x : ℕ = get_or numbers i 0 in
    let next : drop i numbers ≡ x ∷ drop (i + 1) numbers = drop-cons numbers i 0 c.loop-number-test.true ∙ ap (λ (k : ℕ). x ∷ drop k numbers) (sym (add-one i)) in
    let told : c.contains.result ≡ has_number met x = c.contains.ensures.value ∙ ap (λ (l : List ℕ). has_number l x) c.deref.ensures.value in
    let so_far = subst (λ (l : List ℕ). met ++ firsts met l ≡ c.args.met.now.items ++ firsts c.args.met.now.items numbers) next c.loop-number.invariant in
    elim c.if-not-contains.branch [
      | then-not-contains+in_ok-push w ↦
          let new : has_number met x ≡ false = sym told ∙ w.if-not-contains.true in
          let pushed : c.if-not-contains.met.items ≡ met ++ x ∷ [] = search rules in
          subst (λ (l : List ℕ). l ++ firsts l (drop (i + 1) numbers) ≡ c.args.met.now.items ++ firsts c.args.met.now.items numbers) (sym pushed)
          (step_new met x (drop (i + 1) numbers) new ∙ so_far)
      | else-not-contains w ↦
          let old : has_number met x ≡ true = sym told ∙ w.if-not-contains.false in
          let same : c.if-not-contains.met.items ≡ met = search rules in
          subst (λ (l : List ℕ). l ++ firsts l (drop (i + 1) numbers) ≡ c.args.met.now.items ++ firsts c.args.met.now.items numbers) (sym same)
          (step_met met x (drop (i + 1) numbers) old ∙ so_far)
    ]
