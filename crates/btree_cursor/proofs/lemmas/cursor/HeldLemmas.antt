-- How frames come and go, whatever source their pages were read from.
use Rattle.std.proofs.Common.{◌≡◌, ◌+◌, ◌<◌, ◌≤◌, List, [], ◌∷◌, ◌++◌, All, length, length-append, arith, ⊎_elim, append_assoc, ap, sym, ◌∙◌, subst}
use Rattle.std.proofs.lemmas.Bool.{cases_lt}
use Rattle.std.proofs.lemmas.List.Elements.{All-nil, All-cons, All-append}
use Rattle.btree_cursor.specs.declared.cursor.cursor.Frame.{Frame}
use Rattle.btree_cursor.specs.cursor.Held.{HasTakenFirst, IsPassed, GoesDown, TakesNext}

-- frames that have taken their first child came below those that were there
abbrev pub IsDown : List Frame → List Frame → Type 0
IsDown old now = (below : List Frame) × ((now ≡ old ++ below) × All HasTakenFirst below)

pub down_more : (old now all : List Frame) (frame : Frame) → IsDown old now → all ≡ now ++ frame ∷ [] → frame.at ≡ 0 → IsDown old all
down_more old now all frame down is first = (
  down.0 ++ frame ∷ [],
  (
    is ∙ ap (λ (x : List Frame). x ++ frame ∷ []) down.1.0 ∙ append_assoc old down.0 (frame ∷ []),
    All-append HasTakenFirst down.0 (frame ∷ []) down.1.1 (All-cons HasTakenFirst frame [] first (All-nil HasTakenFirst)),
  ),
)

-- frames that have no child left were dropped
abbrev pub IsUp : List Frame → List Frame → Type 0
IsUp old now = (passed : List Frame) × ((old ≡ now ++ passed) × All IsPassed passed)

split_last : (old now rest passed : List Frame) (frame : Frame) → old ≡ now ++ passed → now ≡ rest ++ frame ∷ [] → old ≡ rest ++ frame ∷ passed
split_last old now rest passed frame old_is is =
    old_is ∙ ap (λ (x : List Frame). x ++ passed) is ∙ append_assoc rest (frame ∷ []) passed

pub up_more : (old now rest : List Frame) (frame : Frame) → IsUp old now → now ≡ rest ++ frame ∷ [] → frame.count ≤ frame.at → IsUp old rest
up_more old now rest frame up is past =
    (frame ∷ up.0, (split_last old now rest up.0 frame up.1.0 is, All-cons IsPassed frame up.0 past up.1.1))

pub up_end : (old now : List Frame) → IsUp old now → now ≡ [] → All IsPassed old
up_end old now up none =
    subst (λ (x : List Frame). All IsPassed x) (sym (up.1.0 ∙ ap (λ (x : List Frame). x ++ up.0) none)) up.1.1

-- a leaf below another page has a cell
pub down_filled : (frames pushed new : List Frame) (last leaf : Frame) → pushed ≡ frames ++ last ∷ [] → GoesDown pushed new leaf → (leaf.at ≡ 0) × (0 < leaf.count)
down_filled frames pushed new last leaf is down =
    let one = length-append frames (last ∷ []) in
    let all = length-append pushed down.below in
    let pushed_is : length pushed ≡ length (frames ++ last ∷ []) = ap length is in
    let new_is : length new ≡ length (pushed ++ down.below) = ap length down.new_is in (
      down.first,
      ⊎_elim
          (λ (some : 0 < leaf.count). some)
          (λ (none : leaf.count ≤ 0). absurd (let e : length new ≡ 0 = ap length (down.filled (omega arith)) in omega (arith, one, all, pushed_is, new_is, e)))
          (cases_lt 0 leaf.count),
    )

-- a frame was put back with its next child taken, and below it the way led down
pub takes_next : (frames pushed new : List Frame) (frame leaf : Frame) → frame.at < frame.count
    → pushed ≡ frames ++ (record frame { at = frame.at + 1 }) ∷ [] → GoesDown pushed new leaf → TakesNext frames frame new
takes_next frames pushed new frame leaf more is down = record {
  below = down.below;
  more = more;
  new_is =
      down.new_is ∙ ap (λ (x : List Frame). x ++ down.below) is
      ∙ append_assoc frames ((record frame { at = frame.at + 1 }) ∷ []) down.below;
  firsts = down.firsts;
}
