-- The keys of one page: a cell has one, and one more key ascends within the bounds.
use Rattle.std.proofs.Common.{◌≡◌, ℕ, ℤ, zero, suc, ◌+◌, ◌<◌, ◌<ℤ◌, ◌≤ℤ◌, List, drop, length, Bool, true, false, ◌&&◌, IsTrue, IsFalse, ◌↔◌, Option, Some, None, refl, sym, ◌∙◌, subst, arith, add-one, below_more}
use Rattle.std.proofs.lemmas.Int.{ints}
use Rattle.records.proofs.VarintLemmas.{one_front}
use Rattle.btree.specs.declared.image.kind.Level.{Level}
use Rattle.btree.specs.declared.image.kind.Level.TheVariants.{Leaf, Interior}
use Rattle.btree.specs.image.Layout.{cell_place}
use Rattle.btree.specs.image.Cell.{CellData}
use Rattle.btree.proofs.lemmas.image.RowidLemmas.{one_cell_rowid}
use Rattle.btree.specs.Bytes.{IsRowCell, IsDividerCell}
use Rattle.values.specs.Bounds.{IsAbove, IsAtMost}
use Rattle.records_tables.specs.stored_rows.Keys.{HasKeyAt, KeysFit, FitSoFar}

module _ (at most : ℕ) (page : List ℕ) where
  pub no_leaf_key : (level : Level) (i : ℕ) → level ≡ Leaf → ((cell : CellData) → ¬ IsRowCell at most page i cell)
      → (key : ℤ) → ¬ HasKeyAt at most page level i key
  no_leaf_key Leaf i e none key h = none h.0 h.1
  no_leaf_key Interior i e none key h = absurd cc

  pub no_interior_key : (level : Level) (i : ℕ) → level ≡ Interior → ((key : ℤ) → ¬ IsDividerCell at page i key)
      → (key : ℤ) → ¬ HasKeyAt at most page level i key
  no_interior_key Leaf i e none key h = absurd cc
  no_interior_key Interior i e none key h = none key h

  some_one : (a b : ℤ) → Some a ≡ Some b → a ≡ b
  some_one a b e = cc

  -- a cell has one key
  pub one_key : (level : Level) (i : ℕ) (x y : ℤ) → HasKeyAt at most page level i x → HasKeyAt at most page level i y → x ≡ y
  one_key Leaf i x y (c, one, c_is) (d, other, d_is) =
      let same = one_cell_rowid (length page) (drop (cell_place at Leaf page i) page) c d one.is.is other.is.is in
      some_one x one.is.is.rowid (sym c_is ∙ one.is.is.has_rowid) ∙ same ∙ sym (some_one y other.is.is.rowid (sym d_is ∙ other.is.is.has_rowid))
  one_key Interior i x y one other =
      (one_front (drop 4 (drop (cell_place at Interior page i) page)) x y one.is.length other.is.length one.is.key_is other.is.key_is).0

-- what is above a key that keeps a bound keeps it too, and what is at most one
pub above_more : (low : Option ℤ) (x k : ℤ) → IsAbove low x → x <ℤ k → IsAbove low k
above_more None x k above less = tt
above_more (Some low) x k above less = omega (arith, ints)

pub most_more : (high : Option ℤ) (x k : ℤ) → IsAtMost high x → k ≤ℤ x → IsAtMost high k
most_more None x k most less = tt
most_more (Some high) x k most less = omega (arith, ints)

-- of keys of which each cell has one
module _ (HasKey : ℕ → ℤ → Type 0) (one : (i : ℕ) (x y : ℤ) → HasKey i x → HasKey i y → x ≡ y) (low high : Option ℤ) where
  -- what is above the last key is above each key before it, and above the bound
  above_all : (last : Option ℤ) (i : ℕ) (k : ℤ) → FitSoFar HasKey low high last i → IsAbove last k
      → ((j : ℕ) (x : ℤ) → j < i → HasKey j x → x <ℤ k) × IsAbove low k
  above_all last zero k far above = ((λ j x within. absurd (omega arith)), subst (λ (b : Option ℤ). IsAbove b k) far.last_is above)
  above_all last (suc i) k far above =
      let before : far.last_is.0 <ℤ k = subst (λ (b : Option ℤ). IsAbove b k) far.last_is.1 above in
      let has = far.last_is.2 in
      let each : (j : ℕ) → j < i + 1 → (x : ℤ) → HasKey j x → x <ℤ k = below_more (λ j. (x : ℤ) → HasKey j x → x <ℤ k) i
      (λ j l x h. let less : x <ℤ far.last_is.0 = far.fit.ascends j i x far.last_is.0 l (omega arith) h has in omega (arith, ints))
      (λ x h. let e : x ≡ far.last_is.0 = one i x far.last_is.0 h has in subst (λ (z : ℤ). z <ℤ k) (sym e) before) in
      ((λ j x within h. each j (omega arith) x h), above_more low far.last_is.0 k (far.fit.above i far.last_is.0 (omega arith) has) before)

  pub fit_more : (last : Option ℤ) (i : ℕ) (k : ℤ) → FitSoFar HasKey low high last i → IsAbove last k → IsAtMost high k → HasKey i k
      → FitSoFar HasKey low high (Some k) (i + 1)
  fit_more last i k far above most has =
      let all = above_all last i k far above in
      record {
        last_is = rw add-one (k, refl, has);
        fit = record {
          ascends = λ j m x y less within. below_more (λ m. (j : ℕ) (x y : ℤ) → j < m → HasKey j x → HasKey m y → x <ℤ y) i
              (λ m l j x y less. far.fit.ascends j m x y less l)
              (λ j x y less hx hy. subst (λ (z : ℤ). x <ℤ z) (one i k y has hy) (all.0 j x less hx)) m within j x y less;
          above = λ j x within. below_more (λ j. (x : ℤ) → HasKey j x → IsAbove low x) i (λ j l x. far.fit.above j x l)
              (λ x h. subst (λ (z : ℤ). IsAbove low z) (one i k x has h) all.1) j within x;
          most = λ j x within. below_more (λ j. (x : ℤ) → HasKey j x → IsAtMost high x) i (λ j l x. far.fit.most j x l)
              (λ x h. subst (λ (z : ℤ). IsAtMost high z) (one i k x has h) most) j within x;
        };
      }

  pub not_above : (last : Option ℤ) (i count : ℕ) (k : ℤ) → FitSoFar HasKey low high last i → i < count → HasKey i k
      → KeysFit HasKey count low high → IsAbove last k
  not_above last zero count k far within has fits = subst (λ (b : Option ℤ). IsAbove b k) (sym far.last_is) (fits.above 0 k within has)
  not_above last (suc i) count k far within has fits =
      subst (λ (b : Option ℤ). IsAbove b k) (sym far.last_is.1) (fits.ascends i (suc i) far.last_is.0 k (omega arith) within far.last_is.2 has)

  pub fit_all : (last : Option ℤ) (i count : ℕ) → i ≡ count → FitSoFar HasKey low high last i → KeysFit HasKey count low high
  fit_all last i count e far = subst (λ (n : ℕ). KeysFit HasKey n low high) e far.fit

  -- one more key, where it is known whether those before it fit
  module _ (last : Option ℤ) (i : ℕ) (k : ℤ) (has : HasKey i k) where
    pub step_fits : (fit within : Bool) → (IsTrue fit → FitSoFar HasKey low high last i) → (IsTrue within ↔ (IsAbove last k × IsAtMost high k))
        → IsTrue (fit && within) → FitSoFar HasKey low high (Some k) (i + 1)
    step_fits true true far keeps e = let h = keeps.0 refl in fit_more last i k (far refl) h.0 h.1 has
    step_fits true false far keeps e = absurd cc
    step_fits false within far keeps e = absurd cc

    pub step_unfit : (count : ℕ) (fit within : Bool) → i < count → (IsTrue fit → FitSoFar HasKey low high last i) → (IsFalse fit → KeysFit HasKey count low high → ⊥)
        → (IsTrue within ↔ (IsAbove last k × IsAtMost high k)) → IsFalse (fit && within) → KeysFit HasKey count low high → ⊥
    step_unfit count true true inside far not keeps e fits = absurd cc
    step_unfit count true false inside far not keeps e fits =
        let f : false ≡ true = keeps.1 (not_above last i count k (far refl) inside has fits, fits.most i k inside has) in cc
    step_unfit count false within inside far not keeps e fits = not refl fits
