-- The steps of the run of equality bounds.
use Rattle.std.proofs.Common.{◌≡◌, ◌<◌, ℕ, suc, ◌+◌, Bool, List, [], ◌∷◌, ◌++◌, length, drop, get_or, Some, None, sym, ap, ◌∙◌, arith, append_assoc, append-nil}
use Rattle.std.proofs.Math.Seq.{drop-cons}
use Rattle.index_choice.specs.declared.comparisons.Side.TheVariants.{Equal}
use Rattle.index_choice.specs.Bounds.{ConjunctData, first_bound}
use Rattle.index_choice.specs.Paths.{equal_run, run_from}

module _ (known : List Bool) (conjuncts : List ConjunctData) (columns run : List ℕ) (i : ℕ) (lt : i < length columns)
    (so-far : equal_run known conjuncts columns ≡ run ++ equal_run known conjuncts (drop i columns)) where
  next : equal_run known conjuncts columns
      ≡ run ++ run_from (first_bound known conjuncts Equal (get_or columns i 0)) (equal_run known conjuncts (drop (suc i) columns))
  next = so-far ∙ ap (λ xs. run ++ equal_run known conjuncts xs) (drop-cons columns i 0 lt)

  pub stops : None ≡ first_bound known conjuncts Equal (get_or columns i 0) → run ≡ equal_run known conjuncts columns
  stops none = sym (next ∙ ap (λ o. run ++ run_from o (equal_run known conjuncts (drop (suc i) columns))) (sym none) ∙ append-nil run)

  pub grows : (at : ℕ) (new : List ℕ) → Some at ≡ first_bound known conjuncts Equal (get_or columns i 0) → new ≡ run ++ at ∷ []
      → equal_run known conjuncts columns ≡ new ++ equal_run known conjuncts (drop (i + 1) columns)
  grows at new some is =
      let rest = equal_run known conjuncts (drop (suc i) columns) in
      let more : suc i ≡ i + 1 = omega arith in
      next ∙ ap (λ o. run ++ run_from o rest) (sym some) ∙ sym (append_assoc run (at ∷ []) rest) ∙ ap (λ xs. xs ++ rest) (sym is)
      ∙ ap (λ (k : ℕ). new ++ equal_run known conjuncts (drop k columns)) more
