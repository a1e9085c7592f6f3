-- A tree none of whose pages is broken has a shape.
use Rattle.std.proofs.Common.{◌≡◌, ℕ, zero, suc, ◌+◌, ◌<◌, ◌≤◌, refl, sym, ◌∙◌, subst, ⊎_elim, arith}
use Rattle.std.proofs.lemmas.Bool.{cases_lt}
use Rattle.btree.specs.declared.image.kind.TreeKind.{TreeKind}
use Rattle.btree.specs.declared.image.kind.TreeKind.TheVariants.{Table, Index}
use Rattle.btree.specs.declared.image.kind.Level.{Level}
use Rattle.btree.specs.declared.image.kind.Level.TheVariants.{Leaf, Interior}
use Rattle.btree.specs.image.Pages.{Pages, IsNumber}
use Rattle.btree.specs.image.Layout.{flag_of}
use Rattle.btree.specs.image.Tree.{IsPageOf, IsChild, StandsAt, top, below, Reaches, count_at, child_at}
use Rattle.btree.specs.image.Shape.{HasShape, IsFilled}
use Rattle.btree.specs.image.Broken.{HasUnevenLeaves}
use Rattle.btree.specs.image.Sound.{IsSoundTree, HasSomeShape}

flags_differ : (kind : TreeKind) → flag_of kind Leaf ≡ flag_of kind Interior → ⊥
flags_differ Table e = let f : ◌≡◌ {A = ℕ} 13 5 = e in cc
flags_differ Index e = let f : ◌≡◌ {A = ℕ} 10 2 = e in cc

module _ (pages : Pages) (kind : TreeKind) where
  pub not_both : (n : ℕ) → IsPageOf pages kind Leaf n → IsPageOf pages kind Interior n → ⊥
  not_both n leaf interior = flags_differ kind (sym leaf.header.flag_is ∙ interior.header.flag_is)

  pub one_level : (level other : Level) (n : ℕ) → IsPageOf pages kind level n → IsPageOf pages kind other n
      → level ≡ other
  one_level Leaf Leaf n a b = refl
  one_level Leaf Interior n a b = absurd (not_both n a b)
  one_level Interior Leaf n a b = absurd (not_both n b a)
  one_level Interior Interior n a b = refl

  pub child_of : (n i : ℕ) → IsPageOf pages kind Interior n → i ≤ count_at pages n → IsNumber pages (child_at pages n i)
      → IsChild pages kind n i (child_at pages n i)
  child_of n i interior within number = record { interior = interior; within = within; is = refl; number = number }

  -- what a shape says of a child
  pub shape_child : (height n i : ℕ) → HasShape pages kind (suc height) n → i ≤ count_at pages n
      → IsChild pages kind n i (child_at pages n i)
  shape_child height n i shape within = child_of n i shape.0 within (shape.1 i within).0

module _ (pages : Pages) (kind : TreeKind) (root : ℕ) where
  -- the root of a tree that has an interior page is one
  root_interior : {depth n : ℕ} → StandsAt pages kind root depth n → IsPageOf pages kind Interior n
      → IsPageOf pages kind Interior root
  root_interior top interior = interior
  root_interior (below i stands c) interior = root_interior stands c.interior

  -- so many levels below a page stands a leaf
  first_leaf : (levels depth n : ℕ) → StandsAt pages kind root depth n → HasShape pages kind levels n
      → (m : ℕ) × StandsAt pages kind root (levels + depth) m × IsPageOf pages kind Leaf m
  first_leaf zero depth n stands shape = let e : depth ≡ 0 + depth = omega arith in (n, subst (λ (d : ℕ). StandsAt pages kind root d n) e stands, shape)
  first_leaf (suc levels) depth n stands shape =
      let within : 0 ≤ count_at pages n = omega arith in
      let r = first_leaf levels (suc depth) (child_at pages n 0) (below 0 stands (shape_child pages kind levels n 0 shape within)) (shape.1 0 within).1 in
      let e : levels + suc depth ≡ suc levels + depth = omega arith in (r.0, subst (λ (d : ℕ). StandsAt pages kind root d r.0) e r.1, r.2)

  leaves_differ : (one other depth m n : ℕ) → one < other → StandsAt pages kind root depth m
      → StandsAt pages kind root depth n
      → HasShape pages kind one m → HasShape pages kind other n → HasUnevenLeaves pages kind root
  leaves_differ one other depth m n less at_m at_n shape_m shape_n =
      let a = first_leaf one depth m at_m shape_m in
      let b = first_leaf other depth n at_n shape_n in
      record {
        one = a.0;
        other = b.0;
        depth = one + depth;
        deeper = other + depth;
        one_at = a.1;
        other_at = b.1;
        one_leaf = a.2;
        other_leaf = b.2;
        differ = omega arith;
      }

module _ (pages : Pages) (kind : TreeKind) (root : ℕ) (tree : IsSoundTree pages kind root) where
  -- shapes at one depth have the same levels
  even_levels : (one other depth m n : ℕ) → StandsAt pages kind root depth m → StandsAt pages kind root depth n
      → HasShape pages kind one m
      → HasShape pages kind other n → one ≡ other
  even_levels one other depth m n at_m at_n shape_m shape_n = ⊎_elim
      (λ (less : one < other). absurd (tree.even (leaves_differ pages kind root one other depth m n less at_m at_n shape_m shape_n)))
      (λ (most : other ≤ one). ⊎_elim
      (λ (more : other < one). absurd (tree.even (leaves_differ pages kind root other one depth n m more at_n at_m shape_n shape_m)))
      (λ (least : one ≤ other). omega arith)
      (cases_lt other one))
      (cases_lt one other)

  filled_below : (levels m : ℕ) → Reaches pages kind root m → IsPageOf pages kind Interior root
      → HasShape pages kind levels m → IsFilled pages levels m
  filled_below zero m reaches interior shape =
      let sound = tree.each m reaches in
      sound.filled (one_level pages kind sound.level Leaf m sound.page shape)
      (λ (e : m ≡ root). not_both pages kind root (subst (λ (n : ℕ). IsPageOf pages kind Leaf n) e shape) interior)
  filled_below (suc levels) m reaches interior shape = tt

  abbrev HasLevels : ℕ → ℕ → Type 0
  HasLevels most n = (levels : ℕ) × (levels ≤ most) × HasShape pages kind levels n

  -- a page's children have shapes, and so all the same
  fan_shape : (most depth n : ℕ) → StandsAt pages kind root depth n → IsPageOf pages kind Interior n
      → ((i : ℕ) → i ≤ count_at pages n → IsChild pages kind n i (child_at pages n i) × HasLevels most (child_at pages n i)) → HasLevels (suc most) n
  fan_shape most depth n stands interior each =
      let first = each 0 (omega arith) in
      let same : (i : ℕ) → i ≤ count_at pages n → HasShape pages kind first.1.0 (child_at pages n i) = λ i within.
      let here = each i within in
      subst (λ (levels : ℕ). HasShape pages kind levels (child_at pages n i))
      (even_levels here.1.0 first.1.0 (suc depth) (child_at pages n i) (child_at pages n 0) (below i stands here.0) (below 0 stands first.0) here.1.2 first.1.2)
      here.1.2 in (
        suc first.1.0,
        omega (arith, first.1.1),
        (
          interior,
          λ i within. (
            (each i within).0.number,
            same i within,
            filled_below first.1.0 (child_at pages n i) (suc depth, below i stands (each i within).0) (root_interior pages kind root stands interior) (same i within),
          ),
        ),
      )

  bottom_shape : (level : Level) (n : ℕ) → StandsAt pages kind root 20 n → IsPageOf pages kind level n
      → (level ≡ Interior → (i : ℕ) → i ≤ count_at pages n → IsNumber pages (child_at pages n i)) → HasLevels 0 n
  bottom_shape Leaf n stands page numbers = (0, omega arith, page)
  bottom_shape Interior n stands page numbers =
      let within : 0 ≤ count_at pages n = omega arith in
      absurd (tree.shallow (record {
        page = child_at pages n 0;
        depth = 21;
        stands = below 0 stands (child_of pages kind n 0 page within (numbers refl 0 within));
        deep = omega arith;
      }))

  level_shape : (level : Level) (most depth n : ℕ) → StandsAt pages kind root depth n → IsPageOf pages kind level n
      → (level ≡ Interior → (i : ℕ) → i ≤ count_at pages n → IsNumber pages (child_at pages n i))
      → ((i : ℕ) → IsChild pages kind n i (child_at pages n i) → HasLevels most (child_at pages n i))
      → HasLevels (suc most) n
  level_shape Leaf most depth n stands page numbers each = (0, omega arith, page)
  level_shape Interior most depth n stands page numbers each =
      fan_shape most depth n stands page (λ i within. let c = child_of pages kind n i page within (numbers refl i within) in (c, each i c))

  shape_below : (most depth n : ℕ) → most + depth ≡ 20 → StandsAt pages kind root depth n → HasLevels most n
  shape_below zero depth n e stands =
      let sound = tree.each n (depth, stands) in
      let last : depth ≡ 20 = omega arith in
      bottom_shape sound.level n (subst (λ (d : ℕ). StandsAt pages kind root d n) last stands) sound.page sound.children
  shape_below (suc most) depth n e stands =
      let sound = tree.each n (depth, stands) in
      level_shape sound.level most depth n stands sound.page sound.children
      (λ i c. shape_below most (suc depth) (child_at pages n i) (omega arith) (below i stands c))

  pub sound_shape : HasSomeShape pages kind root
  sound_shape = let r = shape_below 19 1 root (omega arith) top in record { levels = r.0; few = omega (arith, r.1); shape = r.2 }
