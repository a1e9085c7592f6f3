-- How the measure of a cursor falls.
use Rattle.std.proofs.Common.{◌≡◌, ℕ, zero, suc, ◌+◌, ◌-◌, ◌*◌, ◌<◌, ◌≤◌, nat_lt, false, List, [], ◌∷◌, ◌++◌, length, Some, refl, ◌∙◌, ap, arith, ⊎_elim}
use Rattle.std.proofs.lemmas.Bool.{cases_lt, cond-true, cond-false, lt-ltb}
use Rattle.std.proofs.lemmas.List.{length_push}
use Rattle.std.proofs.lemmas.Nat.{mul-le}
use Rattle.btree_cursor.specs.declared.cursor.cursor.Frame.{Frame}
use Rattle.btree.specs.declared.image.kind.Level.{Level}
use Rattle.btree.specs.declared.image.kind.Level.TheVariants.{Leaf, Interior}
use Rattle.btree_cursor.specs.cursor.Left.{worth, frame_left, frames_left, here_left, all_left}

-- a level more of room is worth 65536 of the level below
power : (room below : ℕ) → room ≡ suc below → worth room ≡ 65536 * worth below
power room below e = ap worth e

-- the last frame's part
pub left_append : (room : ℕ) (frames : List Frame) (frame : Frame)
    → frames_left room (frames ++ frame ∷ []) ≡ frames_left room frames + frame_left frame * worth (room - length frames)
left_append room [] frame =
    let e : frame_left frame * worth (room - 0) ≡ frame_left frame * worth room = ap (λ (k : ℕ). frame_left frame * worth k) (omega arith) in
    omega (arith, e)
left_append room (first ∷ frames) frame =
    let rest = left_append (room - 1) frames frame in
    let e : (room - 1) - length frames ≡ room - suc (length frames) = omega arith in
    let same : frame_left frame * worth ((room - 1) - length frames) ≡ frame_left frame * worth (room - suc (length frames)) = ap (λ (k : ℕ). frame_left frame * worth k) e in
    omega (arith, rest, same)

some_power : (k : ℕ) → 1 ≤ worth k
some_power zero = omega arith
some_power (suc k) = let e : worth (suc k) ≡ 65536 * worth k = refl in omega (arith, some_power k, e)

-- down to a page of a level below, whatever cells it has
pub left_down : (frames all : List Frame) (frame : Frame) → all ≡ frames ++ frame ∷ [] → length frames < 20 → frame.count ≤ 65535
    → frames_left 20 all + worth (21 - length all) ≤ frames_left 20 frames + worth (21 - length frames)
left_down frames all frame is short small =
    let long : length all ≡ length frames + 1 = ap length is ∙ length_push frames frame in
    let here : worth (21 - length all) ≡ worth (20 - length frames) = ap worth (omega arith) in
    let above : worth (21 - length frames) ≡ 65536 * worth (20 - length frames) = power (21 - length frames) (20 - length frames) (omega arith) in
    let whole : frames_left 20 all ≡ frames_left 20 frames + frame_left frame * worth (20 - length frames) = ap (frames_left 20) is ∙ left_append 20 frames frame in
    let digit : frame_left frame * worth (20 - length frames) ≤ 65535 * worth (20 - length frames) = mul-le (frame_left frame) (worth (20 - length frames)) 65535 (worth (20 - length frames)) (omega arith) (omega arith) in
    omega (arith, here, above, whole, digit)

pub left_leaf : (frames : List Frame) (leaf : Frame) → length frames < 20 → leaf.count ≤ 65535
    → frames_left 20 frames + frame_left leaf < frames_left 20 frames + worth (21 - length frames)
left_leaf frames leaf short small =
    let above : worth (21 - length frames) ≡ 65536 * worth (20 - length frames) = power (21 - length frames) (20 - length frames) (omega arith) in
    let some = some_power (20 - length frames) in
    omega (arith, above, some)

-- a frame that is left behind
pub left_up : (frames all : List Frame) (frame : Frame) → all ≡ frames ++ frame ∷ [] → frames_left 20 frames ≤ frames_left 20 all
left_up frames all frame is =
    let whole : frames_left 20 all ≡ frames_left 20 frames + frame_left frame * worth (20 - length frames) = ap (frames_left 20) is ∙ left_append 20 frames frame in
    omega (arith, whole)

-- the next child takes one off a page's part, which is worth all that may come under the child
pub left_next : (frames all now : List Frame) (frame : Frame) → all ≡ frames ++ frame ∷ [] → now ≡ frames ++ (record frame { at = frame.at + 1 }) ∷ [] → frame.at < frame.count
    → frames_left 20 now + worth (21 - length now) ≡ frames_left 20 all
left_next frames all now frame is now_is within =
    let moved : Frame = record frame { at = frame.at + 1 } in
    let long : length now ≡ length frames + 1 = ap length now_is ∙ length_push frames moved in
    let here : worth (21 - length now) ≡ worth (20 - length frames) = ap worth (omega arith) in
    let whole : frames_left 20 all ≡ frames_left 20 frames + frame_left frame * worth (20 - length frames) = ap (frames_left 20) is ∙ left_append 20 frames frame in
    let less : frames_left 20 now ≡ frames_left 20 frames + (frame.count - (frame.at + 1)) * worth (20 - length frames) = ap (frames_left 20) now_is ∙ left_append 20 frames moved in
    let digit : frame_left frame ≡ suc (frame.count - (frame.at + 1)) = omega arith in
    let one : frame_left frame * worth (20 - length frames) ≡ suc (frame.count - (frame.at + 1)) * worth (20 - length frames) =
    ap (λ (k : ℕ). k * worth (20 - length frames)) digit in
    let two : suc (frame.count - (frame.at + 1)) * worth (20 - length frames) ≡ worth (20 - length frames) + (frame.count - (frame.at + 1)) * worth (20 - length frames) =
    omega arith in
    omega (arith, here, whole, less, one, two)

lt-past : (a b : ℕ) → b ≤ a → nat_lt a b ≡ false
lt-past a b h = grind arith

-- a frame's digit, where more levels may come below it
digit_least : (frames : List Frame) (frame : Frame) → frame_left frame ≤ frame_left frame * worth (20 - length frames)
digit_least frames frame =
    let some = some_power (20 - length frames) in
    let e : frame_left frame * 1 ≤ frame_left frame * worth (20 - length frames) = mul-le (frame_left frame) 1 (frame_left frame) (worth (20 - length frames)) (omega arith) some in
    omega (arith, e)

-- the frame on which a cursor comes to stand was the last
pub left_stands : (level : Level) (frames all : List Frame) (frame : Frame) → all ≡ frames ++ frame ∷ [] → here_left level frames frame ≤ frames_left 20 all
left_stands Leaf frames all frame is =
    let whole : frames_left 20 all ≡ frames_left 20 frames + frame_left frame * worth (20 - length frames) = ap (frames_left 20) is ∙ left_append 20 frames frame in
    let digit = digit_least frames frame in
    omega (arith, whole, digit)
left_stands Interior frames all frame is =
    let whole : frames_left 20 all ≡ frames_left 20 frames + frame_left frame * worth (20 - length frames) = ap (frames_left 20) is ∙ left_append 20 frames frame in
    omega (arith, whole)

-- the next child of a page that isn't among the frames
pub left_child : (frames now : List Frame) (frame : Frame) → now ≡ frames ++ (record frame { at = frame.at + 1 }) ∷ [] → frame.at < frame.count
    → frames_left 20 now + worth (21 - length now) ≡ frames_left 20 frames + frame_left frame * worth (20 - length frames)
left_child frames now frame now_is within =
    let whole : frames_left 20 (frames ++ frame ∷ []) ≡ frames_left 20 frames + frame_left frame * worth (20 - length frames) = left_append 20 frames frame in
    let next = left_next frames (frames ++ frame ∷ []) now frame refl now_is within in
    omega (arith, whole, next)

pub leaf_is_left : (level : Level) (frames : List Frame) (here : Frame) → level ≡ Leaf → here_left level frames here ≡ frames_left 20 frames + frame_left here
leaf_is_left level frames here is = ap (λ (l : Level). here_left l frames here) is

pub cell_is_left : (level : Level) (frames : List Frame) (here : Frame) → level ≡ Interior → here_left level frames here ≡ frames_left 20 frames + frame_left here * worth (20 - length frames)
cell_is_left level frames here is = ap (λ (l : Level). here_left l frames here) is

-- something is left where a cell is
pub here_some : (level : Level) (frames : List Frame) (here : Frame) → here.at < here.count → 0 < here_left level frames here
here_some Leaf frames here within = omega arith
here_some Interior frames here within = let digit = digit_least frames here in omega (arith, digit)

-- a cursor that stands at a cell
pub some_left : (frames : List Frame) (here : Frame) → here.at < here.count → 0 < all_left frames (Some here)
some_left frames here within =
    let e : all_left frames (Some here) ≡ here_left here.level frames here = cond-true _ _ _ (lt-ltb here.at here.count within) in
    let some = here_some here.level frames here within in
    omega (arith, e, some)

pub left_some : (frames : List Frame) (here : Frame) → 0 < all_left frames (Some here) → here.at < here.count
left_some frames here some = ⊎_elim
    (λ (within : here.at < here.count). within)
    (λ (end : here.count ≤ here.at). let e : all_left frames (Some here) ≡ 0 = cond-false _ _ _ (lt-past here.at here.count end) in absurd (omega (arith, e, some)))
    (cases_lt here.at here.count)

pub less_left : (old new : List Frame) (here next : Frame)
    → (here.at < here.count → here_left next.level new next < here_left here.level old here)
    → 0 < all_left old (Some here) → all_left new (Some next) < all_left old (Some here)
less_left old new here next less some = ⊎_elim
    (λ (within : here.at < here.count).
    let e : all_left old (Some here) ≡ here_left here.level old here = cond-true _ _ _ (lt-ltb here.at here.count within) in
    let falls = less within in
    ⊎_elim
    (λ (more : next.at < next.count). let f : all_left new (Some next) ≡ here_left next.level new next = cond-true _ _ _ (lt-ltb next.at next.count more) in omega (arith, e, f, falls))
    (λ (last : next.count ≤ next.at). let f : all_left new (Some next) ≡ 0 = cond-false _ _ _ (lt-past next.at next.count last) in omega (arith, f, some))
    (cases_lt next.at next.count))
    (λ (end : here.count ≤ here.at). let e : all_left old (Some here) ≡ 0 = cond-false _ _ _ (lt-past here.at here.count end) in absurd (omega (arith, e, some)))
    (cases_lt here.at here.count)

pub none_past : (frames : List Frame) (here : Frame) → all_left frames (Some here) ≡ 0 → here.count ≤ here.at
none_past frames here none = ⊎_elim
    (λ (within : here.at < here.count). let some = some_left frames here within in absurd (omega (arith, some, none)))
    (λ (end : here.count ≤ here.at). end)
    (cases_lt here.at here.count)

-- a cursor in a leaf has no more to go than its cells, and those of the pages above
pub leaf_most : (frames : List Frame) (leaf : Frame) → leaf.level ≡ Leaf → all_left frames (Some leaf) ≤ frames_left 20 frames + frame_left leaf
leaf_most frames leaf level = ⊎_elim
    (λ (within : leaf.at < leaf.count).
    let e : all_left frames (Some leaf) ≡ here_left leaf.level frames leaf = cond-true _ _ _ (lt-ltb leaf.at leaf.count within) in
    let l = leaf_is_left leaf.level frames leaf level in omega (arith, e, l))
    (λ (end : leaf.count ≤ leaf.at). let e : all_left frames (Some leaf) ≡ 0 = cond-false _ _ _ (lt-past leaf.at leaf.count end) in omega (arith, e))
    (cases_lt leaf.at leaf.count)
