-- The counts of a walk.
use Rattle.std.proofs.Common.{◌≡◌, ℕ, zero, suc, ◌+◌, ◌<◌, [], length, refl, sym, ◌∙◌, ap, arith, add-one, sum_by}
use Rattle.std.specs.List.{range_with_len}
use Rattle.std.proofs.lemmas.List.Concat.{length-flat_map}
use Rattle.std.proofs.lemmas.List.Sums.{sum_by-cons}
use Rattle.btree.specs.declared.image.kind.TreeKind.{TreeKind}
use Rattle.btree.specs.image.Pages.{Pages}
use Rattle.btree.specs.image.Tree.{child_at, count_at}
use Rattle.btree.specs.image.Shape.{places_under, size_under}
use Rattle.values.specs.Bounds.{counted}
use Rattle.integrity_trees.specs.tree_walk.Counts.{cells_before, places_at_child, size_before}

-- a sum of counts that stay at the greatest
add_counted : (a b : ℕ) → counted (counted a + counted b) ≡ counted (a + b)
add_counted a b = omega arith

sum_more : (g : ℕ → ℕ) (n i : ℕ) → sum_by g (range_with_len i (suc n)) ≡ sum_by g (range_with_len i n) + g (i + n)
sum_more g zero i =
    let e : g (i + 0) ≡ g i = ap g (omega arith) in
    let one = sum_by-cons g i [] in
    omega (arith, e, one)
sum_more g (suc n) i =
    let rest = sum_more g n (i + 1) in
    let e : g ((i + 1) + n) ≡ g (i + suc n) = ap g (omega arith) in
    let long = sum_by-cons g i (range_with_len (i + 1) (suc n)) in
    let short = sum_by-cons g i (range_with_len (i + 1) n) in
    omega (arith, rest, e, long, short)

module _ (pages : Pages) (kind : TreeKind) (n : ℕ) where
  cells_more : (levels i : ℕ) → cells_before pages kind levels n (i + 1) ≡ cells_before pages kind levels n i + length (places_at_child pages kind levels n i)
  cells_more levels i =
      let f = λ (k : ℕ). places_at_child pages kind levels n k in
      let one : i + 1 ≡ suc i = omega arith in
      let all = length-flat_map f (range_with_len 0 (suc i)) in
      let before = length-flat_map f (range_with_len 0 i) in
      let sums = sum_more (λ k. length (places_at_child pages kind levels n k)) i 0 in
      let at : length (f (0 + i)) ≡ length (f i) = ap (λ (k : ℕ). length (places_at_child pages kind levels n k)) (omega arith) in
      ap (λ (k : ℕ). cells_before pages kind levels n k) one ∙ omega (arith, all, before, sums, at)

  size_more : (levels i : ℕ) → size_before pages levels n (i + 1) ≡ size_before pages levels n i + size_under pages levels (child_at pages n i)
  size_more levels i =
      let one : i + 1 ≡ suc i = omega arith in
      let sums = sum_more (λ k. size_under pages levels (child_at pages n k)) i 0 in
      let at : size_under pages levels (child_at pages n (0 + i)) ≡ size_under pages levels (child_at pages n i) = ap (λ (k : ℕ). size_under pages levels (child_at pages n k)) (omega arith) in
      ap (λ (k : ℕ). size_before pages levels n k) one ∙ omega (arith, sums, at)

  -- before the first child no levels matter
  same_cells : (i levels now : ℕ) → (0 < i → levels ≡ now) → cells_before pages kind levels n i ≡ cells_before pages kind now n i
  same_cells zero levels now same = refl
  same_cells (suc i) levels now same = ap (λ (k : ℕ). cells_before pages kind k n (suc i)) (same (omega arith))

  same_size : (i levels now : ℕ) → (0 < i → levels ≡ now) → size_before pages levels n i ≡ size_before pages now n i
  same_size zero levels now same = refl
  same_size (suc i) levels now same = ap (λ (k : ℕ). size_before pages k n (suc i)) (same (omega arith))

  -- one child more, and the cell behind it
  module _ (i levels now : ℕ) (same : 0 < i → levels ≡ now) where
    pub cells_step : (cells more all : ℕ) → cells ≡ counted (cells_before pages kind levels n i) → more ≡ counted (length (places_at_child pages kind now n i))
        → all ≡ counted (cells + more) → all ≡ counted (cells_before pages kind now n (i + 1))
    cells_step cells more all before under sum =
        sum ∙ ap (λ (x : ℕ). counted (x + more)) (before ∙ ap counted (same_cells i levels now same)) ∙ ap (λ (x : ℕ). counted (counted (cells_before pages kind now n i) + x)) under
        ∙ add_counted (cells_before pages kind now n i) (length (places_at_child pages kind now n i)) ∙ ap counted (sym (cells_more now i))

    pub size_step : (size more all : ℕ) → size ≡ counted (size_before pages levels n i) → more ≡ counted (size_under pages now (child_at pages n i))
        → all ≡ counted (size + more) → all ≡ counted (size_before pages now n (i + 1))
    size_step size more all before under sum =
        sum ∙ ap (λ (x : ℕ). counted (x + more)) (before ∙ ap counted (same_size i levels now same)) ∙ ap (λ (x : ℕ). counted (counted (size_before pages now n i) + x)) under
        ∙ add_counted (size_before pages now n i) (size_under pages now (child_at pages n i)) ∙ ap counted (sym (size_more now i))

  -- all children
  pub cells_all : (levels i : ℕ) → i ≡ count_at pages n + 1 → cells_before pages kind levels n i ≡ length (places_under pages kind (suc levels) n)
  cells_all levels i e = ap (λ (k : ℕ). cells_before pages kind levels n k) (e ∙ add-one (count_at pages n))

  pub size_all : (levels i : ℕ) → i ≡ count_at pages n + 1 → size_before pages levels n i ≡ size_under pages (suc levels) n
  size_all levels i e = ap (λ (k : ℕ). size_before pages levels n k) (e ∙ add-one (count_at pages n))
