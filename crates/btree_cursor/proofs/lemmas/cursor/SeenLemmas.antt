-- What a cursor learns of a page that it asked for, and of the child that comes next.
use Rattle.std.proofs.Common.{◌≡◌, ◌≢◌, ℕ, suc, ◌+◌, ◌<◌, ◌≤◌, List, [], ◌∷◌, ◌++◌, sym, ◌∙◌, subst, arith}
use Rattle.btree.specs.declared.image.kind.TreeKind.{TreeKind}
use Rattle.btree.specs.declared.image.kind.Level.{Level}
use Rattle.btree.specs.declared.image.kind.Level.TheVariants.{Leaf, Interior}
use Rattle.btree.specs.image.Pages.{Pages, IsNumber}
use Rattle.btree.specs.image.Tree.{Place, HasHeader, IsPageOf, child_at, count_at}
use Rattle.btree_cursor.specs.declared.cursor.cursor.Frame.{Frame}
use Rattle.btree_cursor.specs.cursor.Rest.{Holds, IsBehind, HasCellsFrom, IsLeft, IsStanding, IsStep}
use Rattle.btree.proofs.PageLemmas.{flag_of-same}
use Rattle.btree_cursor.proofs.lemmas.cursor.RestLemmas.{IsTurn, ends, goes, turn_at, heading_filled, heading_leaf, heading_down, behind_next, left_step, left_up}

module _ (pages : Pages) (kind : TreeKind) where
  -- the page that is headed for has a header, which tells what it is
  pub shape_header : (levels n : ℕ) → IsTurn pages kind levels n → (level : Level) × HasHeader pages kind level n
  shape_header levels n (ends page is) = (Leaf, page.header)
  shape_header levels n (goes below page is) = (Interior, page.header)

  same_level : (n : ℕ) (one other : Level) → HasHeader pages kind one n → HasHeader pages kind other n → one ≡ other
  same_level n one other h i = flag_of-same kind one other (sym h.flag_is ∙ i.flag_is)

  leaf_of : (levels n : ℕ) → IsTurn pages kind levels n → HasHeader pages kind Leaf n → IsPageOf pages kind Leaf n
  leaf_of levels n (ends page is) header = page
  leaf_of levels n (goes below page is) header = let e : Leaf ≡ Interior = same_level n Leaf Interior header page.header in cc

  interior_of : (levels n : ℕ) → IsTurn pages kind levels n → HasHeader pages kind Interior n → IsPageOf pages kind Interior n
  interior_of levels n (ends page is) header = let e : Interior ≡ Leaf = same_level n Interior Leaf header page.header in cc
  interior_of levels n (goes below page is) header = page

  module _ (total : ℕ) (frames : List Frame) (n : ℕ) (places : List Place) (asked budget : ℕ) (h : HasCellsFrom pages kind total frames n places asked budget) where
    pub heading_header : (level : Level) × HasHeader pages kind level n
    heading_header = shape_header h.levels n (turn_at pages kind h.levels n h.shape)

    pub heading_leaf_page : HasHeader pages kind Leaf n → IsPageOf pages kind Leaf n
    heading_leaf_page header = leaf_of h.levels n (turn_at pages kind h.levels n h.shape) header

    pub heading_interior_page : HasHeader pages kind Interior n → IsPageOf pages kind Interior n
    heading_interior_page header = interior_of h.levels n (turn_at pages kind h.levels n h.shape) header

-- What is learnt of a page that was asked for on the way down: it was seen as these pages have it.
module _ (pages seen : Pages) (same : seen ≡ pages) (kind : TreeKind) (total : ℕ) (frames : List Frame) (n : ℕ) (frame : Frame) (number : frame.number ≡ n)
    (places : List Place) (asked now budget : ℕ) (h : HasCellsFrom pages kind total frames n places asked budget) (holds : Holds seen frame) (more : now ≤ asked + 1) where
  heads : HasCellsFrom seen kind total frames frame.number places asked budget
  heads = subst (λ (x : Pages). HasCellsFrom x kind total frames frame.number places asked budget) (sym same) (subst (λ (x : ℕ). HasCellsFrom pages kind total frames x places asked budget) (sym number) h)

  at_number : (level : Level) → HasHeader seen kind level n → HasHeader seen kind level frame.number
  at_number level header = subst (λ (x : ℕ). HasHeader seen kind level x) (sym number) header

  -- a leaf below the root has a cell
  pub leaf_filled : HasHeader seen kind Leaf n → frames ≢ [] → frame.count ≡ 0 → ⊥
  leaf_filled header some none =
      let page = heading_leaf_page seen kind total frames frame.number places asked budget heads (at_number Leaf header) in
      let full : 0 < count_at seen frame.number = heading_filled seen kind total frames frame.number places asked budget heads some page in
      let count : frame.count ≡ count_at seen frame.number = holds.count in
      omega arith

  pub leaf_stands : HasHeader seen kind Leaf n → frame.level ≡ Leaf → frame.at ≡ 0 → IsStanding pages kind total frames frame places now budget
  leaf_stands header level at =
      let page = heading_leaf_page seen kind total frames frame.number places asked budget heads (at_number Leaf header) in
      subst (λ (x : Pages). IsStanding x kind total frames frame places now budget) same (heading_leaf seen kind total frames frame places asked now budget heads page holds level at more)

  module _ (header : HasHeader seen kind Interior n) where
    pub interior_page : IsPageOf seen kind Interior frame.number
    interior_page = heading_interior_page seen kind total frames frame.number places asked budget heads (at_number Interior header)

    down_heads : frame.level ≡ Interior → frame.at ≡ 0 → HasCellsFrom seen kind total (frames ++ frame ∷ []) (child_at seen frame.number 0) places now budget
    down_heads level at = heading_down seen kind total frames places frame asked now budget heads interior_page holds level at more

    pub first_child : frame.level ≡ Interior → frame.at ≡ 0 → IsNumber seen (child_at seen frame.number 0)
    first_child level at = (down_heads level at).number

    pub goes_down : (m : ℕ) → m ≡ child_at seen frame.number 0 → (all : List Frame) → all ≡ frames ++ frame ∷ [] → frame.level ≡ Interior → frame.at ≡ 0 → HasCellsFrom pages kind total all m places now budget
    goes_down m m_is all all_is level at =
        subst (λ (x : Pages). HasCellsFrom x kind total all m places now budget) same
        (subst (λ (x : List Frame). HasCellsFrom seen kind total x m places now budget) (sym all_is)
        (subst (λ (x : ℕ). HasCellsFrom seen kind total (frames ++ frame ∷ []) x places now budget) (sym m_is) (down_heads level at)))

-- The last frame, where it has no child left.
module _ (pages : Pages) (kind : TreeKind) (total levels : ℕ) (all frames : List Frame) (frame : Frame) (rest : List Place) (asked budget : ℕ) (left : IsLeft pages kind total levels all rest asked budget)
    (is : all ≡ frames ++ frame ∷ []) where
  pub last_step : IsStep pages kind levels frame
  last_step = left_step pages kind total levels all frames frame rest asked budget left is

  pub last_end : frame.count ≤ frame.at → IsLeft pages kind total (suc levels) frames rest asked budget
  last_end past =
      let count : frame.count ≡ count_at pages frame.number = last_step.holds.count in
      left_up pages kind total levels all frames frame rest asked budget left is (omega arith)

-- The child after the one that a frame has taken.
module _ (pages : Pages) (kind : TreeKind) (total : ℕ) (frames : List Frame) (frame : Frame) (places : List Place) (asked budget : ℕ) (b : IsBehind pages kind total frames frame places asked budget)
    (more : frame.at < frame.count) where
  pub next_within : frame.at + 1 ≤ count_at pages frame.number
  next_within = let count : frame.count ≡ count_at pages frame.number = b.step.holds.count in omega arith

  pub next_number : IsNumber pages (child_at pages frame.number (frame.at + 1))
  next_number = (b.step.children (frame.at + 1) next_within).0

  pub next_heads : (m : ℕ) → m ≡ child_at pages frame.number (frame.at + 1) → (now : List Frame) → now ≡ frames ++ (record frame { at = frame.at + 1 }) ∷ []
      → HasCellsFrom pages kind total now m places asked budget
  next_heads m m_is now now_is =
      let here = behind_next pages kind total frames frame places asked budget b (let w : frame.at + 1 ≤ count_at pages frame.number = next_within in omega arith) in
      subst (λ (x : List Frame). HasCellsFrom pages kind total x m places asked budget) (sym now_is)
      (subst (λ (x : ℕ). HasCellsFrom pages kind total (frames ++ (record frame { at = frame.at + 1 }) ∷ []) x places asked budget) (sym m_is) here)
