-- The steps of a cursor over a sound tree.
use Rattle.std.proofs.Common.{◌≡◌, ◌≢◌, ℕ, zero, suc, ◌+◌, ◌-◌, ◌<◌, ◌≤◌, List, [], ◌∷◌, ◌++◌, length, drop, get_or, nat_lt, false, refl, sym, ◌∙◌, ap, subst, arith, append_assoc, append-nil, ⊎_elim, ◌⊎◌, inl, inr}
use Rattle.std.specs.List.{range_with_len, flat_map}
use Rattle.std.specs.Prelude.{sum_by}
use Rattle.std.proofs.lemmas.List.{drop_more, drop_all, length_push, same_from_push}
use Rattle.std.proofs.lemmas.List.FromFn.{length-map-range_with_len, get_or-map-range_with_len}
use Rattle.std.proofs.lemmas.List.Sums.{sum_by-cons}
use Rattle.std.proofs.lemmas.Bool.{cases_lt, lt-ltb, cond-true, cond-false}
use Rattle.btree.specs.declared.image.kind.TreeKind.{TreeKind}
use Rattle.btree.specs.declared.image.kind.TreeKind.TheVariants.{Table, Index}
use Rattle.btree.specs.declared.image.kind.Level.{Level}
use Rattle.btree.specs.declared.image.kind.Level.TheVariants.{Leaf, Interior}
use Rattle.btree.specs.image.Pages.{Pages, IsNumber}
use Rattle.btree.specs.image.Tree.{Place, HasEntries, count_at, child_at, IsPageOf}
use Rattle.btree.specs.image.Shape.{HasShape, IsFilled, place_at, places_in, places_under, size_under, with_own, own_places}
use Rattle.btree.specs.image.Layout.{flag_of}
use Rattle.btree_cursor.specs.declared.cursor.cursor.Frame.{Frame}
use Rattle.btree_cursor.specs.cursor.Rest.{places_from, places_after, size_from, Holds, IsStep, IsStack, bottom, inner, IsLeft, HasCellsFrom, IsInLeaf, IsBehind, IsOnCell, IsOn, IsStanding, at_cell, is_past}

flags_differ : (kind : TreeKind) → flag_of kind Leaf ≡ flag_of kind Interior → ⊥
flags_differ Table e = let f : ◌≡◌ {A = ℕ} 13 5 = e in cc
flags_differ Index e = let f : ◌≡◌ {A = ℕ} 10 2 = e in cc

-- what is under a child, and then what comes after it
with_own_split : (kind : TreeKind) (under own : List Place) → with_own kind under own ≡ under ++ with_own kind [] own
with_own_split Table under own = sym (append-nil under)
with_own_split Index under own = refl

with_own_none : (kind : TreeKind) → with_own kind [] [] ≡ []
with_own_none Table = refl
with_own_none Index = refl

not_less : (a b : ℕ) → b ≤ a → nat_lt a b ≡ false
not_less a b h = grind arith

module _ (pages : Pages) (kind : TreeKind) where
  pub not_both : (n : ℕ) → IsPageOf pages kind Leaf n → IsPageOf pages kind Interior n → ⊥
  not_both n leaf interior = flags_differ kind (sym leaf.header.flag_is ∙ interior.header.flag_is)

  -- the places of a leaf from one on
  pub places_more : (n at : ℕ) → at < count_at pages n → drop at (places_in pages n) ≡ place_at n at ∷ drop (at + 1) (places_in pages n)
  places_more n at within =
      let l : at < length (places_in pages n) = rw length-map-range_with_len within in
      let e : get_or (places_in pages n) at (place_at n 0) ≡ place_at n at = get_or-map-range_with_len (place_at n) 0 (count_at pages n) at at (place_at n 0) within (omega arith) in
      drop_more (places_in pages n) at (place_at n 0) l ∙ ap (λ x. x ∷ drop (at + 1) (places_in pages n)) e

  pub places_end : (n at : ℕ) → count_at pages n ≤ at → drop at (places_in pages n) ≡ []
  places_end n at past = drop_all at (places_in pages n) (rw length-map-range_with_len past)

  -- what is under a child stands before what comes after it
  pub places_step : (levels n i : ℕ) → i ≤ count_at pages n
      → places_from pages kind levels n i ≡ places_under pages kind levels (child_at pages n i) ++ places_after pages kind levels n i
  places_step levels n i within =
      let a : suc (count_at pages n) - i ≡ suc (count_at pages n - i) = omega arith in
      let b : suc (count_at pages n) - (i + 1) ≡ count_at pages n - i = omega arith in
      let under = places_under pages kind levels (child_at pages n i) in
      let own = own_places pages n i in
      let later = flat_map (λ k. with_own kind (places_under pages kind levels (child_at pages n k)) (own_places pages n k)) (range_with_len (i + 1) (count_at pages n - i)) in
      let split : with_own kind under own ++ later ≡ under ++ (with_own kind [] own ++ later) =
      ap (λ (x : List Place). x ++ later) (with_own_split kind under own) ∙ append_assoc under (with_own kind [] own) later in
      rw (a, b) split

  pub places_past : (levels n i : ℕ) → count_at pages n < i → places_from pages kind levels n i ≡ []
  places_past levels n i past = let a : suc (count_at pages n) - i ≡ 0 = omega arith in rw a refl

  pub own_none : (n i : ℕ) → count_at pages n ≤ i → own_places pages n i ≡ []
  own_none n i past = cond-false _ _ _ (not_less i (count_at pages n) past)

  pub own_is : (n i : ℕ) → i < count_at pages n → own_places pages n i ≡ place_at n i ∷ []
  own_is n i within = cond-true _ _ _ (lt-ltb i (count_at pages n) within)

  pub after_past : (levels n i : ℕ) → count_at pages n ≤ i → places_after pages kind levels n i ≡ []
  after_past levels n i past =
      ap (λ (x : List Place). with_own kind [] x ++ places_from pages kind levels n (i + 1)) (own_none n i past)
      ∙ ap (λ (x : List Place). x ++ places_from pages kind levels n (i + 1)) (with_own_none kind)
      ∙ places_past levels n (i + 1) (omega arith)

  pub size_step : (levels n i : ℕ) → i ≤ count_at pages n → size_from pages levels n i ≡ size_under pages levels (child_at pages n i) + size_from pages levels n (i + 1)
  size_step levels n i within =
      let a : suc (count_at pages n) - i ≡ suc (count_at pages n - i) = omega arith in
      let b : suc (count_at pages n) - (i + 1) ≡ count_at pages n - i = omega arith in
      rw (a, b) (sum_by-cons (λ k. size_under pages levels (child_at pages n k)) i (range_with_len (i + 1) (count_at pages n - i)))

  -- a stack has a frame for each level above
  pub stack_length : (total : ℕ) {levels : ℕ} {frames : List Frame} {rest : List Place} {ahead : ℕ} → IsStack pages kind total levels frames rest ahead → levels + length frames ≡ total
  stack_length total bottom = omega arith
  stack_length total (inner {levels} {frames} {rest} {behind} frame all places ahead stack step is places_is ahead_is) =
      let l : suc levels + length frames ≡ total = stack_length total stack in
      let e : length all ≡ length frames + 1 = ap length is ∙ length_push frames frame in
      omega arith

  -- the page that is headed for is a leaf or an interior page
  pub data IsTurn (levels n : ℕ) : Type 0 where
    ends : IsPageOf pages kind Leaf n → levels ≡ 0 → IsTurn levels n
    goes : (below : ℕ) → IsPageOf pages kind Interior n → levels ≡ suc below → IsTurn levels n

  pub turn_at : (levels n : ℕ) → HasShape pages kind levels n → IsTurn levels n
  turn_at zero n shape = ends shape refl
  turn_at (suc levels) n shape = goes levels shape.0 refl

  module _ (total : ℕ) where
    pub heading_short : (frames : List Frame) (n : ℕ) (places : List Place) (asked budget : ℕ) → HasCellsFrom pages kind total frames n places asked budget → length frames < 20
    heading_short frames n places asked budget h =
        let l : h.levels + length frames ≡ total = stack_length total h.left.stack in let s : total < 20 = h.left.shallow in omega arith

    -- the last frame of a stack
    pub record IsPopped (levels : ℕ) (frames : List Frame) (frame : Frame) (places : List Place) (ahead : ℕ) : Type 0 where
      pub rest : List Place
      pub behind : ℕ
      pub stack : IsStack pages kind total (suc levels) frames rest behind
      pub step : IsStep pages kind levels frame
      pub places_is : places ≡ places_after pages kind levels frame.number frame.at ++ rest
      pub ahead_is : ahead ≡ size_from pages levels frame.number (frame.at + 1) + behind

    popped : {levels : ℕ} {all : List Frame} {places : List Place} {ahead : ℕ} (frames : List Frame) (frame : Frame) → IsStack pages kind total levels all places ahead
        → all ≡ frames ++ (frame ∷ []) → IsPopped levels frames frame places ahead
    popped frames frame bottom e =
        absurd (let l : 0 ≡ length frames + 1 = ap length e ∙ length_push frames frame in omega arith)
    popped frames frame (inner {levels} {frames = inside} {rest} {behind} last all places ahead stack step is places_is ahead_is) e =
        let same = same_from_push inside frames last frame (sym is ∙ e) in
        record {
          rest = rest;
          behind = behind;
          stack = subst (λ (x : List Frame). IsStack pages kind total (suc levels) x rest behind) same.0 stack;
          step = subst (λ (x : Frame). IsStep pages kind levels x) same.1 step;
          places_is = subst (λ (x : Frame). places ≡ places_after pages kind levels x.number x.at ++ rest) same.1 places_is;
          ahead_is = subst (λ (x : Frame). ahead ≡ size_from pages levels x.number (x.at + 1) + behind) same.1 ahead_is;
        }

    stack_end : {levels : ℕ} {all : List Frame} {places : List Place} {ahead : ℕ} → IsStack pages kind total levels all places ahead → all ≡ [] → places ≡ []
    stack_end bottom e = refl
    stack_end (inner {levels} {frames} {rest} {behind} last all places ahead stack step is places_is ahead_is) e =
        absurd (let l : 0 ≡ length frames + 1 = ap length (sym e ∙ is) ∙ length_push frames last in omega arith)

    pub left_end : (levels : ℕ) (all : List Frame) (rest : List Place) (asked budget : ℕ) → IsLeft pages kind total levels all rest asked budget → all ≡ [] → rest ≡ []
    left_end levels all rest asked budget left e = stack_end left.stack e

    pub left_within : (levels : ℕ) (all : List Frame) (rest : List Place) (asked budget : ℕ) → IsLeft pages kind total levels all rest asked budget → asked ≤ budget
    left_within levels all rest asked budget left = let asks : asked + left.ahead ≤ budget = left.asks in omega arith

    pub left_length : (levels : ℕ) (all : List Frame) (rest : List Place) (asked budget : ℕ) → IsLeft pages kind total levels all rest asked budget → length all ≤ total
    left_length levels all rest asked budget left = let l = stack_length total left.stack in omega (arith, l)

    -- all that is under an interior page is under its children
    pub places_all : (levels n : ℕ) → places_under pages kind (suc levels) n ≡ places_from pages kind levels n 0
    places_all levels n =
        let e : suc (count_at pages n) - 0 ≡ suc (count_at pages n) = omega arith in
        ap (λ k. flat_map (λ i. with_own kind (places_under pages kind levels (child_at pages n i)) (own_places pages n i)) (range_with_len 0 k)) (sym e)

    pub size_all : (levels n : ℕ) → size_under pages (suc levels) n ≡ 1 + size_from pages levels n 0
    size_all levels n =
        let e : suc (count_at pages n) - 0 ≡ suc (count_at pages n) = omega arith in
        ap (λ k. 1 + sum_by (λ i. size_under pages levels (child_at pages n i)) (range_with_len 0 k)) (sym e)

    -- down to a child of a page, where what comes before it is left out
    unfoldable pub down_to : (frames : List Frame) (frame : Frame) (levels : ℕ) (rest : List Place) (asked now budget : ℕ)
        → IsLeft pages kind total (suc levels) frames rest (asked + size_from pages levels frame.number frame.at) budget
        → IsStep pages kind levels frame → now ≤ asked
        → HasCellsFrom pages kind total (frames ++ frame ∷ []) (child_at pages frame.number frame.at) (places_from pages kind levels frame.number frame.at ++ rest) now budget
    down_to frames frame levels rest asked now budget left step more =
        let within : frame.at ≤ count_at pages frame.number = step.within in
        let here = step.children frame.at within in
        let asks : (asked + size_from pages levels frame.number frame.at) + left.ahead ≤ budget = left.asks in
        record {
          levels = levels;
          rest = places_after pages kind levels frame.number frame.at ++ rest;
          left = record {
            shallow = left.shallow;
            ahead = size_from pages levels frame.number (frame.at + 1) + left.ahead;
            stack = inner frame (frames ++ frame ∷ []) (places_after pages kind levels frame.number frame.at ++ rest)
                (size_from pages levels frame.number (frame.at + 1) + left.ahead) left.stack step refl refl refl;
            asks = omega (arith, size_step levels frame.number frame.at within);
          };
          number = here.0;
          shape = here.1;
          filled = λ _. here.2;
          places_is =
              ap (λ x. x ++ rest) (places_step levels frame.number frame.at within)
              ∙ append_assoc (places_under pages kind levels (child_at pages frame.number frame.at)) (places_after pages kind levels frame.number frame.at) rest;
        }

    -- down to the first child of the page that a frame holds
    down_at : (frames : List Frame) (places : List Place) (frame : Frame) (levels : ℕ) (rest : List Place) (asked now budget : ℕ)
        → IsLeft pages kind total levels frames rest (asked + size_under pages levels frame.number) budget → HasShape pages kind levels frame.number
        → places ≡ places_under pages kind levels frame.number ++ rest
        → IsPageOf pages kind Interior frame.number → Holds pages frame → frame.level ≡ Interior → frame.at ≡ 0 → now ≤ asked + 1
        → HasCellsFrom pages kind total (frames ++ frame ∷ []) (child_at pages frame.number 0) places now budget
    down_at frames places frame zero rest asked now budget left shape places_is page holds level at more = absurd (not_both frame.number shape page)
    down_at frames places frame (suc levels) rest asked now budget left shape places_is page holds level at more =
        let step : IsStep pages kind levels frame = record { holds = holds; level = level; page = page; within = omega arith; children = shape.1 } in
        let asks : (asked + size_under pages (suc levels) frame.number) + left.ahead ≤ budget = left.asks in
        let sizes : size_from pages levels frame.number frame.at ≡ size_from pages levels frame.number 0 = ap (λ (k : ℕ). size_from pages levels frame.number k) at in
        let less : IsLeft pages kind total (suc levels) frames rest ((asked + 1) + size_from pages levels frame.number frame.at) budget =
        record { shallow = left.shallow; ahead = left.ahead; stack = left.stack; asks = omega (arith, size_all levels frame.number, sizes) } in
        let down = down_to frames frame levels rest (asked + 1) now budget less step more in
        let same : places_from pages kind levels frame.number frame.at ++ rest ≡ places =
        ap (λ (k : ℕ). places_from pages kind levels frame.number k ++ rest) at ∙ ap (λ x. x ++ rest) (sym (places_all levels frame.number)) ∙ sym places_is in
        subst (λ (x : List Place). HasCellsFrom pages kind total (frames ++ frame ∷ []) (child_at pages frame.number 0) x now budget) same
        (subst (λ (k : ℕ). HasCellsFrom pages kind total (frames ++ frame ∷ []) (child_at pages frame.number k) (places_from pages kind levels frame.number frame.at ++ rest) now budget) at down)

    pub heading_down : (frames : List Frame) (places : List Place) (frame : Frame) (asked now budget : ℕ)
        → HasCellsFrom pages kind total frames frame.number places asked budget → IsPageOf pages kind Interior frame.number → Holds pages frame → frame.level ≡ Interior → frame.at ≡ 0 → now ≤ asked + 1
        → HasCellsFrom pages kind total (frames ++ frame ∷ []) (child_at pages frame.number 0) places now budget
    heading_down frames places frame asked now budget h page holds level at more =
        down_at frames places frame h.levels h.rest asked now budget h.left h.shape h.places_is page holds level at more

    -- the next child of a page
    pub behind_next : (frames : List Frame) (frame : Frame) (places : List Place) (asked budget : ℕ)
        → IsBehind pages kind total frames frame places asked budget → frame.at < count_at pages frame.number
        → HasCellsFrom pages kind total (frames ++ (record frame { at = frame.at + 1 }) ∷ []) (child_at pages frame.number (frame.at + 1)) places asked budget
    behind_next frames frame places asked budget b more =
        let step = b.step in
        let moved : IsStep pages kind b.levels (record frame { at = frame.at + 1 }) =
        record { holds = record { long = step.holds.long; page = step.holds.page; count = step.holds.count }; level = step.level; page = step.page; within = omega arith; children = step.children } in
        subst (λ (x : List Place). HasCellsFrom pages kind total (frames ++ (record frame { at = frame.at + 1 }) ∷ []) (child_at pages frame.number (frame.at + 1)) x asked budget) (sym b.places_is)
        (down_to frames (record frame { at = frame.at + 1 }) b.levels b.rest asked asked budget b.left moved (omega arith))

    -- what the last frame of a stack holds
    pub left_step : (levels : ℕ) (all frames : List Frame) (frame : Frame) (rest : List Place) (asked budget : ℕ)
        → IsLeft pages kind total levels all rest asked budget → all ≡ frames ++ frame ∷ [] → IsStep pages kind levels frame
    left_step levels all frames frame rest asked budget left e = (popped frames frame left.stack e).step

    -- behind the child that the last frame has taken comes its own cell, where that is an entry, and then its next children
    pub record IsSplit (frames : List Frame) (frame : Frame) (rest : List Place) (asked budget : ℕ) : Type 0 where
      pub later : List Place
      pub behind : IsBehind pages kind total frames frame later asked budget
      pub rest_is : rest ≡ with_own kind [] (own_places pages frame.number frame.at) ++ later

    pub left_split : (levels : ℕ) (all frames : List Frame) (frame : Frame) (rest : List Place) (asked budget : ℕ)
        → IsLeft pages kind total levels all rest asked budget → all ≡ frames ++ frame ∷ [] → IsSplit frames frame rest asked budget
    left_split levels all frames frame rest asked budget left e =
        let p = popped frames frame left.stack e in
        let asks : asked + left.ahead ≤ budget = left.asks in
        record {
          later = places_from pages kind levels frame.number (frame.at + 1) ++ p.rest;
          behind = record {
            levels = levels;
            rest = p.rest;
            left = record { shallow = left.shallow; ahead = p.behind; stack = p.stack; asks = omega (arith, p.ahead_is) };
            step = p.step;
            places_is = refl;
          };
          rest_is = p.places_is ∙ append_assoc (with_own kind [] (own_places pages frame.number frame.at)) (places_from pages kind levels frame.number (frame.at + 1)) p.rest;
        }

    -- and up a level where there is none
    pub left_up : (levels : ℕ) (all frames : List Frame) (frame : Frame) (rest : List Place) (asked budget : ℕ)
        → IsLeft pages kind total levels all rest asked budget → all ≡ frames ++ frame ∷ [] → count_at pages frame.number ≤ frame.at → IsLeft pages kind total (suc levels) frames rest asked budget
    left_up levels all frames frame rest asked budget left e past =
        let p = popped frames frame left.stack e in
        let none : rest ≡ p.rest = p.places_is ∙ ap (λ x. x ++ p.rest) (after_past levels frame.number frame.at past) in
        let asks : asked + left.ahead ≤ budget = left.asks in
        record {
          shallow = left.shallow;
          ahead = p.behind;
          stack = subst (λ (x : List Place). IsStack pages kind total (suc levels) frames x p.behind) (sym none) p.stack;
          asks = omega (arith, p.ahead_is);
        }

    on_leaf : (level : Level) (frames : List Frame) (here : Frame) (places : List Place) (asked budget : ℕ) → level ≡ Leaf
        → IsInLeaf pages kind total frames here places asked budget → IsOn level pages kind total frames here places asked budget
    on_leaf level frames here places asked budget is h = subst (λ (l : Level). IsOn l pages kind total frames here places asked budget) (sym is) h

    empty_or_not : (frames : List Frame) → (frames ≡ []) ⊎ (frames ≢ [])
    empty_or_not [] = inl refl
    empty_or_not (f ∷ fs) = inr (λ e. let l : suc (length fs) ≡ 0 = ap length e in omega arith)

    leaf_at : (frames : List Frame) (leaf : Frame) (places : List Place) (levels : ℕ) (rest : List Place) (asked now budget : ℕ)
        → IsLeft pages kind total levels frames rest (asked + size_under pages levels leaf.number) budget → HasShape pages kind levels leaf.number → (frames ≢ [] → IsFilled pages levels leaf.number)
        → places ≡ places_under pages kind levels leaf.number ++ rest → IsPageOf pages kind Leaf leaf.number → Holds pages leaf → leaf.level ≡ Leaf → leaf.at ≡ 0 → now ≤ asked + 1
        → IsStanding pages kind total frames leaf places now budget
    leaf_at frames leaf places (suc levels) rest asked now budget left shape filled places_is page holds level at more = absurd (not_both leaf.number page shape.0)
    leaf_at frames leaf places zero rest asked now budget left shape filled places_is page holds level at more =
        let asks : (asked + 1) + left.ahead ≤ budget = left.asks in
        let first : drop leaf.at (places_in pages leaf.number) ≡ places_in pages leaf.number = ap (λ (k : ℕ). drop k (places_in pages leaf.number)) at in
        let is : places ≡ drop leaf.at (places_in pages leaf.number) ++ rest = places_is ∙ ap (λ x. x ++ rest) (sym first) in
        let less : IsLeft pages kind total 0 frames rest now budget = record { shallow = left.shallow; ahead = left.ahead; stack = left.stack; asks = omega arith } in
        let count : leaf.count ≡ count_at pages leaf.number = holds.count in
        let long : length frames ≤ total = left_length 0 frames rest now budget less in
        ⊎_elim
        (λ (within : leaf.at < leaf.count). at_cell within (on_leaf leaf.level frames leaf places now budget level (record { rest = rest; left = less; holds = holds; page = page; places_is = is })) long)
        (λ (end : leaf.count ≤ leaf.at).
        let none : rest ≡ [] = elim (empty_or_not frames) [
          | inl none ↦ stack_end left.stack none
          | inr some ↦ absurd (let l : 0 < count_at pages leaf.number = filled some in omega arith)
        ] in
        is_past end (is ∙ ap (λ x. x ++ rest) (places_end leaf.number leaf.at (omega arith)) ∙ none) (omega arith) long)
        (cases_lt leaf.at leaf.count)

    pub heading_leaf : (frames : List Frame) (leaf : Frame) (places : List Place) (asked now budget : ℕ)
        → HasCellsFrom pages kind total frames leaf.number places asked budget → IsPageOf pages kind Leaf leaf.number → Holds pages leaf → leaf.level ≡ Leaf → leaf.at ≡ 0 → now ≤ asked + 1
        → IsStanding pages kind total frames leaf places now budget
    heading_leaf frames leaf places asked now budget h page holds level at more =
        leaf_at frames leaf places h.levels h.rest asked now budget h.left h.shape h.filled h.places_is page holds level at more

    filled_at : (levels n : ℕ) → HasShape pages kind levels n → IsFilled pages levels n → IsPageOf pages kind Leaf n → 0 < count_at pages n
    filled_at zero n shape filled page = filled
    filled_at (suc levels) n shape filled page = absurd (not_both n page shape.0)

    pub heading_filled : (frames : List Frame) (n : ℕ) (places : List Place) (asked budget : ℕ)
        → HasCellsFrom pages kind total frames n places asked budget → frames ≢ [] → IsPageOf pages kind Leaf n → 0 < count_at pages n
    heading_filled frames n places asked budget h some page = filled_at h.levels n h.shape (h.filled some) page

    -- a cursor that begins at a root
    unfoldable pub heading_first : (n : ℕ) (frames : List Frame) (asked : ℕ) → total < 20 → HasShape pages kind total n → IsNumber pages n → frames ≡ []
        → HasCellsFrom pages kind total frames n (places_under pages kind total n) asked (asked + size_under pages total n)
    heading_first n frames asked shallow shape number none = record {
      levels = total;
      rest = [];
      left = record {
        shallow = shallow;
        ahead = 0;
        stack = subst (λ (x : List Frame). IsStack pages kind total total x [] 0) (sym none) bottom;
        asks = omega arith;
      };
      number = number;
      shape = shape;
      filled = λ some. absurd (some none);
      places_is = sym (append-nil (places_under pages kind total n));
    }

    module _ (frames : List Frame) (here : Frame) (places : List Place) (asked budget : ℕ) where
      abbrev Stands : Type 0
      Stands = IsStanding pages kind total frames here places asked budget

      standing_on : Stands → here.at < here.count → IsOn here.level pages kind total frames here places asked budget
      standing_on (at_cell within on long) more = on
      standing_on (is_past end none asks long) more = absurd (omega arith)

      pub standing_long : Stands → length frames ≤ total
      standing_long (at_cell within on long) = long
      standing_long (is_past end none asks long) = long

      asked_on : (level : Level) → IsOn level pages kind total frames here places asked budget → asked ≤ budget
      asked_on Leaf on = let asks = on.left.asks in omega arith
      asked_on Interior on = let asks = on.behind.left.asks in omega arith

      pub standing_asked : Stands → asked ≤ budget
      standing_asked (at_cell within on long) = asked_on here.level on
      standing_asked (is_past end none asks long) = asks

      in_leaf : Stands → here.at < here.count → here.level ≡ Leaf → IsInLeaf pages kind total frames here places asked budget
      in_leaf stands more is = subst (λ (l : Level). IsOn l pages kind total frames here places asked budget) is (standing_on stands more)

      on_cell : Stands → here.at < here.count → here.level ≡ Interior → IsOnCell pages kind total frames here places asked budget
      on_cell stands more is = subst (λ (l : Level). IsOn l pages kind total frames here places asked budget) is (standing_on stands more)

      leaf_first : IsInLeaf pages kind total frames here places asked budget → here.at < here.count → places ≡ place_at here.number here.at ∷ drop 1 places
      leaf_first l within =
          let c : here.count ≡ count_at pages here.number = l.holds.count in
          let is : places ≡ (place_at here.number here.at ∷ drop (here.at + 1) (places_in pages here.number)) ++ l.rest =
          l.places_is ∙ ap (λ x. x ++ l.rest) (places_more here.number here.at (omega arith)) in
          is ∙ ap (λ x. place_at here.number here.at ∷ x) (sym (ap (λ x. drop 1 x) is))

      first_on : (level : Level) → IsOn level pages kind total frames here places asked budget → here.at < here.count → places ≡ place_at here.number here.at ∷ drop 1 places
      first_on Leaf on within = leaf_first on within
      first_on Interior on within = on.places_is ∙ ap (λ x. place_at here.number here.at ∷ x) (sym (ap (λ x. drop 1 x) on.places_is))

      -- the cell that a cursor stands at, and those behind it
      pub first_place : Stands → here.at < here.count → places ≡ place_at here.number here.at ∷ drop 1 places
      first_place stands within = first_on here.level (standing_on stands within) within

      pub none_left : Stands → here.count ≤ here.at → places ≡ []
      none_left (at_cell within on long) end = absurd (omega arith)
      none_left (is_past end none asks long) _ = none

      -- what is known of the page that a cursor stands on
      pub record IsKnown (level : Level) : Type 0 where
        pub holds : Holds pages here
        pub page : IsPageOf pages kind level here.number
        pub entries : HasEntries kind level

      leaf_entries : (k : TreeKind) → HasEntries k Leaf
      leaf_entries Table = tt
      leaf_entries Index = tt

      known_on : (level : Level) → IsOn level pages kind total frames here places asked budget → IsKnown level
      known_on Leaf on = record { holds = on.holds; page = on.page; entries = leaf_entries kind }
      known_on Interior on = record { holds = on.behind.step.holds; page = on.behind.step.page; entries = on.entries }

      pub standing_known : Stands → here.at < here.count → IsKnown here.level
      standing_known stands within = known_on here.level (standing_on stands within)

      -- past the last cell a cursor stays
      pub standing_stays : Stands → here.count ≤ here.at → IsStanding pages kind total frames here (drop 1 places) asked budget
      standing_stays (at_cell within on long) end = absurd (omega arith)
      standing_stays (is_past end none asks long) _ = is_past end (ap (λ x. drop 1 x) none) asks long

      -- one cell on in the leaf
      pub standing_step : Stands → here.level ≡ Leaf → here.at + 1 < here.count → IsStanding pages kind total frames (record here { at = here.at + 1 }) (drop 1 places) asked budget
      standing_step stands level more =
          let l = in_leaf stands (omega arith) level in
          let c : here.count ≡ count_at pages here.number = l.holds.count in
          at_cell more (on_leaf here.level frames (record here { at = here.at + 1 }) (drop 1 places) asked budget level (record {
            rest = l.rest;
            left = l.left;
            holds = record { long = l.holds.long; page = l.holds.page; count = l.holds.count };
            page = l.page;
            places_is = ap (λ x. drop 1 x) (l.places_is ∙ ap (λ x. x ++ l.rest) (places_more here.number here.at (omega arith)));
          })) (standing_long stands)

      -- the leaf is given up to its end
      pub standing_left : Stands → here.level ≡ Leaf → here.at < here.count → here.count ≤ here.at + 1 → IsLeft pages kind total 0 frames (drop 1 places) asked budget
      standing_left stands level within last =
          let l = in_leaf stands within level in
          let c : here.count ≡ count_at pages here.number = l.holds.count in
          let is : drop 1 places ≡ l.rest =
          ap (λ x. drop 1 x) (l.places_is ∙ ap (λ x. x ++ l.rest) (places_more here.number here.at (omega arith)))
          ∙ ap (λ x. x ++ l.rest) (places_end here.number (here.at + 1) (omega arith)) in
          subst (λ (x : List Place). IsLeft pages kind total 0 frames x asked budget) (sym is) l.left

      -- an entry of an interior page is given
      pub standing_behind : Stands → here.level ≡ Interior → here.at < here.count → IsBehind pages kind total frames here (drop 1 places) asked budget
      standing_behind stands level within =
          let on = on_cell stands within level in
          subst (λ (x : List Place). IsBehind pages kind total frames here x asked budget) (sym (ap (λ x. drop 1 x) on.places_is)) on.behind

    pub standing_end : (frames : List Frame) (here : Frame) (rest : List Place) (asked budget : ℕ)
        → rest ≡ [] → frames ≡ [] → asked ≤ budget → here.count ≤ here.at → IsStanding pages kind total frames here rest asked budget
    standing_end frames here rest asked budget none empty within end = is_past end none within (let l : length frames ≡ 0 = ap length empty in omega arith)

-- in a table's tree the next child comes first, in an index tree the cell before it
pub split_table : (pages : Pages) (kind : TreeKind) (total : ℕ) (frames : List Frame) (frame : Frame) (rest : List Place) (asked budget : ℕ) → (kind ≡ Index → ⊥)
    → IsSplit pages kind total frames frame rest asked budget → IsBehind pages kind total frames frame rest asked budget
split_table pages Table total frames frame rest asked budget other s = subst (λ (x : List Place). IsBehind pages Table total frames frame x asked budget) (sym s.rest_is) s.behind
split_table pages Index total frames frame rest asked budget other s = absurd (other refl)

pub split_index : (pages : Pages) (kind : TreeKind) (total : ℕ) (frames : List Frame) (frame : Frame) (rest : List Place) (asked budget : ℕ) → kind ≡ Index
    → frame.at < frame.count → length frames ≤ total → IsSplit pages kind total frames frame rest asked budget → IsStanding pages kind total frames frame rest asked budget
split_index pages Table total frames frame rest asked budget is within long s = absurd cc
split_index pages Index total frames frame rest asked budget is within long s =
    let step = s.behind.step in
    let level : frame.level ≡ Interior = step.level in
    let count : frame.count ≡ count_at pages frame.number = step.holds.count in
    let own : rest ≡ place_at frame.number frame.at ∷ s.later = s.rest_is ∙ ap (λ (x : List Place). x ++ s.later) (own_is pages Index frame.number frame.at (omega arith)) in
    at_cell within
    (subst (λ (l : Level). IsOn l pages Index total frames frame rest asked budget) (sym level) (record { rest = s.later; entries = tt; behind = s.behind; places_is = own })) long
