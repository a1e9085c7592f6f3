-- What a walked tree says of the pages that its root reaches.
use Rattle.std.proofs.Common.{◌≡◌, ℕ, ℤ, zero, suc, ◌+◌, ◌<◌, ◌≤◌, ◌<ℤ◌, ◌≤ℤ◌, Option, Some, None, refl, sym, subst, ⊎_elim, arith, add-one}
use Rattle.std.proofs.lemmas.Bool.{cases_lt}
use Rattle.btree.specs.declared.image.kind.TreeKind.TheVariants.{Table}
use Rattle.btree.specs.declared.image.kind.Level.{Level}
use Rattle.btree.specs.declared.image.kind.Level.TheVariants.{Leaf, Interior}
use Rattle.btree.specs.image.Pages.{Pages}
use Rattle.btree.specs.image.Tree.{IsPageOf, IsChild, IsUnder, StandsAt, top, below, Reaches, child_at, count_at}
use Rattle.btree.specs.image.Shape.{HasShape, IsFilled}
use Rattle.btree.specs.image.Broken.{HasRowid, IsSound, IsRowOrder}
use Rattle.btree.specs.image.Sound.{IsSoundTable}
use Rattle.btree.proofs.lemmas.image.RowidLemmas.{one_rowid}
use Rattle.btree.proofs.lemmas.image.ShapeLemmas.{not_both}
use Rattle.values.specs.Bounds.{IsAbove, IsAtMost}
use Rattle.records_tables.specs.stored_rows.Keys.{KeysFit}
use Rattle.integrity_trees.specs.table_walk.Walked.{IsLowAt, IsHighAt, IsTree}
use Rattle.records_tables.proofs.lemmas.stored_rows.KeyLemmas.{above_more, most_more}

module _ (pages : Pages) where
  low_tight : (n : ℕ) (low high l : Option ℤ) (i : ℕ) (k : ℤ) → KeysFit (HasRowid pages Interior n) (count_at pages n) low high → i ≤ count_at pages n
      → IsLowAt pages n low i l → IsAbove l k → IsAbove low k
  low_tight n low high l zero k fit within is above = subst (λ (b : Option ℤ). IsAbove b k) is above
  low_tight n low high l (suc i) k fit within (key, is, has) above =
      above_more low key k (fit.above i key (omega arith) has) (subst (λ (b : Option ℤ). IsAbove b k) is above)

  high_tight : (n : ℕ) (low high h : Option ℤ) (i : ℕ) (k : ℤ) → KeysFit (HasRowid pages Interior n) (count_at pages n) low high
      → IsHighAt pages n high i h → IsAtMost h k → IsAtMost high k
  high_tight n low high h i k fit is most = ⊎_elim
      (λ (within : i < count_at pages n). let at = is.inner within in
      most_more high at.0 k (fit.most i at.0 within at.2) (subst (λ (b : Option ℤ). IsAtMost b k) at.1 most))
      (λ (past : count_at pages n ≤ i). subst (λ (b : Option ℤ). IsAtMost b k) (is.last past) most)
      (cases_lt i (count_at pages n))

  module _ (root : ℕ) where
    -- page n heads a tree within a larger one, `depth` levels below its head, which has depth 1
    pub record IsPart (low high : Option ℤ) (levels depth n : ℕ) : Type 0 where
      pub height : ℕ
      pub low_here : Option ℤ
      pub high_here : Option ℤ
      pub tree : IsTree pages root height low_here high_here n
      pub tight_low : (k : ℤ) → IsAbove low_here k → IsAbove low k
      pub tight_high : (k : ℤ) → IsAtMost high_here k → IsAtMost high k
      pub level : height + depth ≡ suc levels

    -- the tree of a child of a tree's head
    part_of_child : (low high : Option ℤ) (levels depth n i m height : ℕ) (low_here high_here : Option ℤ)
        → IsTree pages root height low_here high_here n
        → ((k : ℤ) → IsAbove low_here k → IsAbove low k) → ((k : ℤ) → IsAtMost high_here k → IsAtMost high k)
        → height + depth ≡ suc levels → IsChild pages Table n i m → IsPart low high levels (suc depth) m
    part_of_child low high levels depth n i m zero low_here high_here tree tight_low tight_high level c =
        absurd (not_both pages Table n tree.0 c.interior)
    part_of_child low high levels depth n i m (suc height) low_here high_here tree tight_low tight_high level c =
        let branch = (tree.2 i c.within).1 in
        record {
          height = height;
          low_here = branch.0;
          high_here = branch.1;
          tree = subst (λ (x : ℕ). IsTree pages root height branch.0 branch.1 x) c.is branch.4;
          tight_low = λ k above. tight_low k (low_tight n low_here high_here branch.0 i k tree.1 c.within branch.2 above);
          tight_high = λ k most. tight_high k (high_tight n low_here high_here branch.1 i k tree.1 branch.3 most);
          level = omega arith;
        }

    pub part : (low high : Option ℤ) (levels head : ℕ) {depth n : ℕ} → IsTree pages root levels low high head
        → StandsAt pages Table head depth n → IsPart low high levels depth n
    part low high levels head tree top = record {
      height = levels;
      low_here = low;
      high_here = high;
      tree = tree;
      tight_low = λ k h. h;
      tight_high = λ k h. h;
      level = omega arith;
    }
    part low high levels head tree (below {depth} {n} {m} i stands c) =
        let up = part low high levels head tree stands in
        part_of_child low high levels depth n i m up.height up.low_here up.high_here up.tree up.tight_low up.tight_high up.level c

    -- a leaf stands as deep as the tree's levels say
    leaf_level : (height : ℕ) (low high : Option ℤ) (n : ℕ) → IsTree pages root height low high n → IsPageOf pages Table Leaf n → height ≡ 0
    leaf_level zero low high n tree leaf = refl
    leaf_level (suc height) low high n tree leaf = absurd (not_both pages Table n leaf tree.0)

    leaf_depth : (levels head depth n : ℕ) → IsTree pages root levels None None head → StandsAt pages Table head depth n
        → IsPageOf pages Table Leaf n → depth ≡ suc levels
    leaf_depth levels head depth n tree stands leaf =
        let here = part None None levels head tree stands in
        let e : here.height ≡ 0 = leaf_level here.height here.low_here here.high_here n here.tree leaf in
        let l : here.height + depth ≡ suc levels = here.level in
        omega arith

    -- what a tree says of its head
    sound_head : (height : ℕ) (low high : Option ℤ) (n : ℕ) → IsTree pages root height low high n → IsSound pages Table root n
    sound_head zero low high n tree = record {
      level = Leaf;
      page = tree.0;
      children = λ interior i within. absurd cc;
      filled = λ leaf. tree.2;
    }
    sound_head (suc height) low high n tree = record {
      level = Interior;
      page = tree.0;
      children = λ interior i within. (tree.2 i within).0;
      filled = λ leaf ne. absurd cc;
    }

    -- the keys of a tree's head fit, whichever level it is taken for
    fit_head : (height : ℕ) (low high : Option ℤ) (level : Level) (n : ℕ) → IsTree pages root height low high n
        → IsPageOf pages Table level n → KeysFit (HasRowid pages level n) (count_at pages n) low high
    fit_head zero low high Leaf n tree page = tree.1
    fit_head zero low high Interior n tree page = absurd (not_both pages Table n tree.0 page)
    fit_head (suc height) low high Leaf n tree page = absurd (not_both pages Table n page tree.0)
    fit_head (suc height) low high Interior n tree page = tree.1

    -- the keys under child i keep the bounds that child i has
    pub record KeepsBounds (low high : Option ℤ) (a i : ℕ) (y : ℤ) : Type 0 where
      pub l : Option ℤ
      pub h : Option ℤ
      pub low_is : IsLowAt pages a low i l
      pub high_is : IsHighAt pages a high i h
      pub above : IsAbove l y
      pub most : IsAtMost h y

    under_fits : (height : ℕ) (low high : Option ℤ) (a i n : ℕ) (level : Level) → IsTree pages root height low high a → IsUnder pages Table a i n
        → IsPageOf pages Table level n → (j : ℕ) (y : ℤ) → j < count_at pages n → HasRowid pages level n j y → KeepsBounds low high a i y
    under_fits zero low high a i n level tree under page j y within has = absurd (not_both pages Table a tree.0 under.is.interior)
    under_fits (suc height) low high a i n level tree under page j y within has =
        let branch = (tree.2 i under.is.within).1 in
        let child = subst (λ (x : ℕ). IsTree pages root height branch.0 branch.1 x) under.is.is branch.4 in
        let here = part branch.0 branch.1 height under.head child under.reaches.1 in
        let fits = fit_head here.height here.low_here here.high_here level n here.tree page in
        record {
          l = branch.0;
          h = branch.1;
          low_is = branch.2;
          high_is = branch.3;
          above = here.tight_low y (fits.above j y within has);
          most = here.tight_high y (fits.most j y within has);
        }

    in_order : (levels n : ℕ) → IsTree pages root levels None None root → Reaches pages Table root n → IsRowOrder pages root n
    in_order levels n tree reaches = record {
      ascends = λ level i j x y page less within hx hy.
          let here = part None None levels root tree reaches.1 in
          (fit_head here.height here.low_here here.high_here level n here.tree page).ascends i j x y less within hx hy;
      most = λ level a i j x y up under inside page within hx hy.
          let here = part None None levels root tree up.1 in
          let keeps = under_fits here.height here.low_here here.high_here a i n level here.tree under page j y within hy in
          let at = keeps.high_is.inner inside in
          subst (λ (z : ℤ). y ≤ℤ z) (one_rowid pages Interior a i at.0 x at.2 hx) (subst (λ (b : Option ℤ). IsAtMost b y) at.1 keeps.most);
      above = λ level a i j x y up under page within hx hy.
          let here = part None None levels root tree up.1 in
          let keeps = under_fits here.height here.low_here here.high_here a (i + 1) n level here.tree under page j y within hy in
          let at = low_after a here.low_here i keeps.l keeps.low_is in
          subst (λ (z : ℤ). z <ℤ y) (one_rowid pages Interior a i at.0 x at.2 hx) (subst (λ (b : Option ℤ). IsAbove b y) at.1 keeps.above);
    }
      where
        low_after : (a : ℕ) (low : Option ℤ) (i : ℕ) (l : Option ℤ) → IsLowAt pages a low (i + 1) l → (key : ℤ) × (l ≡ Some key) × HasRowid pages Interior a i key
        low_after a low i l is = rw add-one at is

    -- a tree that was walked from its root is sound
    pub sound_table : (levels : ℕ) → levels + 1 ≤ 20 → IsTree pages root levels None None root → IsSoundTable pages root
    sound_table levels shallow tree = record {
      tree = record {
        each = λ n reaches. let here = part None None levels root tree reaches.1 in sound_head here.height here.low_here here.high_here n here.tree;
        even = λ u.
            let one : u.depth ≡ suc levels = leaf_depth levels root u.depth u.one tree u.one_at u.one_leaf in
            let other : u.deeper ≡ suc levels = leaf_depth levels root u.deeper u.other tree u.other_at u.other_leaf in
            let differ = u.differ in
            absurd (omega arith);
        shallow = λ d.
            let here = part None None levels root tree d.stands in
            let level : here.height + d.depth ≡ suc levels = here.level in
            let deep = d.deep in
            absurd (omega arith);
      };
      order = λ n reaches. in_order levels n tree reaches;
    }

    -- a child isn't the root: the root is interior, as a page with children is, or the leaf that it is has a cell
    shape_under : (height : ℕ) (low high : Option ℤ) (n : ℕ) → IsPageOf pages Table Interior root → IsTree pages root height low high n
        → HasShape pages Table height n × IsFilled pages height n
    shape_under zero low high n interior tree =
        (tree.0, tree.2 (λ e. not_both pages Table n tree.0 (subst (λ (x : ℕ). IsPageOf pages Table Interior x) (sym e) interior)))
    shape_under (suc height) low high n interior tree =
        ((tree.0, λ i within. let b = tree.2 i within in let below = shape_under height b.1.0 b.1.1 (child_at pages n i) interior b.1.4 in (b.0, below.0, below.1)), tt)

    pub root_shape : (levels : ℕ) → IsTree pages root levels None None root → HasShape pages Table levels root
    root_shape zero tree = tree.0
    root_shape (suc levels) tree = (shape_under (suc levels) None None root tree.0 tree).0
