-- A tree that has a shape is sound.
use Rattle.std.proofs.Common.{◌≡◌, ◌≢◌, ℕ, zero, suc, ◌+◌, ◌<◌, ◌≤◌, refl, subst, ⊎_elim, arith}
use Rattle.std.proofs.lemmas.Bool.{cases_lt}
use Rattle.btree.specs.declared.image.kind.TreeKind.{TreeKind}
use Rattle.btree.specs.declared.image.kind.Level.TheVariants.{Leaf, Interior}
use Rattle.btree.specs.image.Broken.{HasUnevenLeaves, IsSound}
use Rattle.btree.specs.image.Pages.{Pages}
use Rattle.btree.specs.image.Shape.{HasShape, IsBranch, IsFilled, most_levels}
use Rattle.btree.specs.image.Sound.{IsSoundTree}
use Rattle.btree.specs.image.Tree.{IsChild, IsPageOf, StandsAt, below, top, child_at, count_at}
use Rattle.btree.proofs.lemmas.image.ShapeLemmas.{not_both}

module _ (pages : Pages) (kind : TreeKind) where
  -- so many levels under a page stands a leaf
  leaf_under : (levels depth root n : ℕ) → HasShape pages kind levels n → StandsAt pages kind root depth n
      → (m : ℕ) × StandsAt pages kind root (levels + depth) m × IsPageOf pages kind Leaf m
  leaf_under zero depth root n shape stands = let e : depth ≡ 0 + depth = omega arith in (n, subst (λ (x : ℕ). StandsAt pages kind root x n) e stands, shape)
  leaf_under (suc levels) depth root n shape stands =
      let first = shape.1 0 (omega arith) in
      let found = leaf_under levels (suc depth) root (child_at pages n 0) first.1
      (below 0 stands (record { interior = shape.0; within = omega arith; is = refl; number = first.0 })) in
      let e : levels + suc depth ≡ suc levels + depth = omega arith in
      (found.0, subst (λ (x : ℕ). StandsAt pages kind root x found.0) e found.1, found.2)

  leaf_at : (root depth n i levels : ℕ) → StandsAt pages kind root depth n → IsPageOf pages kind Interior n → i ≤ count_at pages n
      → IsBranch pages kind levels (child_at pages n i) → (m : ℕ) × StandsAt pages kind root (levels + suc depth) m × IsPageOf pages kind Leaf m
  leaf_at root depth n i levels stands page within branch = leaf_under levels (suc depth) root (child_at pages n i) branch.1
      (below i stands (record { interior = page; within = within; is = refl; number = branch.0 }))

  -- two children with other levels below them
  pub uneven : (root depth n i levels other : ℕ) → StandsAt pages kind root depth n → IsPageOf pages kind Interior n → i ≤ count_at pages n
      → IsBranch pages kind levels (child_at pages n 0) → IsBranch pages kind other (child_at pages n i) → other ≢ levels → HasUnevenLeaves pages kind root
  uneven root depth n i levels other stands page within first later differ =
      let a = leaf_at root depth n 0 levels stands page (omega arith) first in
      let b = leaf_at root depth n i other stands page within later in
      ⊎_elim
      (λ (less : levels < other). record { one = a.0; other = b.0; depth = levels + suc depth; deeper = other + suc depth; one_at = a.1; other_at = b.1; one_leaf = a.2; other_leaf = b.2; differ = omega arith })
      (λ (least : other ≤ levels). record { one = b.0; other = a.0; depth = other + suc depth; deeper = levels + suc depth; one_at = b.1; other_at = a.1; one_leaf = b.2; other_leaf = a.2; differ = omega arith })
      (cases_lt levels other)

  -- a page that stands so deep in a tree with a shape
  record IsPart (levels depth n : ℕ) : Type 0 where
    height : ℕ
    shape : HasShape pages kind height n
    filled : 1 < depth → IsFilled pages height n
    deep : height + depth ≡ suc levels

  part_below : (levels depth n i m height : ℕ) → HasShape pages kind height n → height + depth ≡ suc levels → 1 ≤ depth → IsChild pages kind n i m → IsPart levels (suc depth) m
  part_below levels depth n i m zero shape deep some child = absurd (not_both pages kind n shape child.interior)
  part_below levels depth n i m (suc height) shape deep some child =
      let branch = shape.1 i child.within in
      record {
        height = height;
        shape = subst (λ (x : ℕ). HasShape pages kind height x) child.is branch.1;
        filled = λ more. subst (λ (x : ℕ). IsFilled pages height x) child.is branch.2;
        deep = omega (arith, deep);
      }

  some_depth : {root depth n : ℕ} → StandsAt pages kind root depth n → 1 ≤ depth
  some_depth top = omega arith
  some_depth (below i stands child) = omega arith

  part : (levels root : ℕ) → HasShape pages kind levels root → {depth n : ℕ} → StandsAt pages kind root depth n → IsPart levels depth n
  part levels root shape top = record { height = levels; shape = shape; filled = λ more. absurd (omega (arith, more)); deep = omega arith }
  part levels root shape (below {depth} {n} {m} i stands child) =
      let up = part levels root shape stands in part_below levels depth n i m up.height up.shape up.deep (some_depth stands) child

  leaf_level : (height n : ℕ) → HasShape pages kind height n → IsPageOf pages kind Leaf n → height ≡ 0
  leaf_level zero n shape leaf = refl
  leaf_level (suc height) n shape leaf = absurd (not_both pages kind n leaf shape.0)

  leaf_depth : (levels root depth n : ℕ) → HasShape pages kind levels root → StandsAt pages kind root depth n → IsPageOf pages kind Leaf n → depth ≡ suc levels
  leaf_depth levels root depth n shape stands leaf =
      let here = part levels root shape stands in
      let e : here.height ≡ 0 = leaf_level here.height n here.shape leaf in
      let deep = here.deep in
      omega (arith, e, deep)

  -- a page that isn't the root stands below it
  not_top : {root depth n : ℕ} → StandsAt pages kind root depth n → n ≢ root → 1 < depth
  not_top top other = absurd (other refl)
  not_top (below i stands child) other = let some = some_depth stands in omega (arith, some)

  sound_page : (root n height : ℕ) → HasShape pages kind height n → (n ≢ root → IsFilled pages height n) → IsSound pages kind root n
  sound_page root n zero shape filled = record { level = Leaf; page = shape; children = λ interior i within. absurd cc; filled = λ leaf. filled }
  sound_page root n (suc height) shape filled = record { level = Interior; page = shape.0; children = λ interior i within. (shape.1 i within).0; filled = λ leaf ne. absurd cc }

  pub sound_of_shape : (levels root : ℕ) → levels < most_levels → HasShape pages kind levels root → IsSoundTree pages kind root
  sound_of_shape levels root few shape = record {
    each = λ n reaches.
        let here = part levels root shape reaches.1 in
        sound_page root n here.height here.shape (λ other. here.filled (not_top reaches.1 other));
    even = λ u.
        let one = leaf_depth levels root u.depth u.one shape u.one_at u.one_leaf in
        let other = leaf_depth levels root u.deeper u.other shape u.other_at u.other_leaf in
        let differ = u.differ in
        absurd (omega (arith, one, other, differ));
    shallow = λ d.
        let here = part levels root shape d.stands in
        let level = here.deep in
        let deep = d.deep in
        absurd (omega (arith, level, deep, few));
  }

  -- one branch more, of as many levels as those before it
  pub more_branches : (n i levels now : ℕ) → (0 < i → levels ≡ now) → ((k : ℕ) → k < i → IsBranch pages kind levels (child_at pages n k))
      → IsBranch pages kind now (child_at pages n i) → (k : ℕ) → k < i + 1 → IsBranch pages kind now (child_at pages n k)
  more_branches n i levels now same branches here k less = ⊎_elim
      (λ (early : k < i). subst (λ (x : ℕ). IsBranch pages kind x (child_at pages n k)) (same (omega (arith, early))) (branches k early))
      (λ (late : i ≤ k). let e : i ≡ k = omega (arith, less, late) in subst (λ (x : ℕ). IsBranch pages kind now (child_at pages n x)) e here)
      (cases_lt k i)

  pub inner_shape : (n i levels : ℕ) → IsPageOf pages kind Interior n → i ≡ count_at pages n + 1 → ((k : ℕ) → k < i → IsBranch pages kind levels (child_at pages n k))
      → HasShape pages kind (suc levels) n
  inner_shape n i levels page end branches = (page, λ k within. branches k (omega (arith, end, within)))
