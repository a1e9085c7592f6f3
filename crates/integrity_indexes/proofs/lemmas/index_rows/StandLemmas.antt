-- A cursor stands where it stood, however many pages others have asked for since.
use Rattle.std.proofs.Common.{◌+◌, ℕ, List, arith}
use Rattle.btree.specs.declared.image.kind.TreeKind.{TreeKind}
use Rattle.btree.specs.declared.image.kind.Level.{Level}
use Rattle.btree.specs.declared.image.kind.Level.TheVariants.{Leaf, Interior}
use Rattle.btree.specs.image.Pages.{Pages}
use Rattle.btree.specs.image.Tree.{Place}
use Rattle.btree_cursor.specs.declared.cursor.cursor.Cursor.{Cursor}
use Rattle.btree_cursor.specs.declared.cursor.cursor.Frame.{Frame}
use Rattle.btree_cursor.specs.cursor.Listing.{IsAt}
use Rattle.btree_cursor.specs.cursor.Rest.{IsLeft, IsOn, IsStanding, at_cell, is_past, size_from}

module _ (pages : Pages) (kind : TreeKind) (total now : ℕ) where
  left_now : (levels more asked budget : ℕ) (frames : List Frame) (rest : List Place) → IsLeft pages kind total levels frames rest (asked + more) budget
      → IsLeft pages kind total levels frames rest (now + more) (now + budget)
  left_now levels more asked budget frames rest left =
      let asks = left.asks in
      record { shallow = left.shallow; ahead = left.ahead; stack = left.stack; asks = omega (arith, asks) }

  leaf_now : (asked budget : ℕ) (frames : List Frame) (rest : List Place) → IsLeft pages kind total 0 frames rest asked budget
      → IsLeft pages kind total 0 frames rest now (now + budget)
  leaf_now asked budget frames rest left =
      let asks = left.asks in
      record { shallow = left.shallow; ahead = left.ahead; stack = left.stack; asks = omega (arith, asks) }

  module _ (frames : List Frame) (here : Frame) (places : List Place) (asked budget : ℕ) where
    on_now : (level : Level) → IsOn level pages kind total frames here places asked budget → IsOn level pages kind total frames here places now (now + budget)
    on_now Leaf on = record { rest = on.rest; left = leaf_now asked budget frames on.rest on.left; holds = on.holds; page = on.page; places_is = on.places_is }
    on_now Interior on =
        let behind = on.behind in
        record {
          rest = on.rest;
          entries = on.entries;
          behind = record {
            levels = behind.levels;
            rest = behind.rest;
            left = left_now _ (size_from pages behind.levels here.number (here.at + 1)) asked budget frames behind.rest behind.left;
            step = behind.step;
            places_is = behind.places_is;
          };
          places_is = on.places_is;
        }

    standing_now : IsStanding pages kind total frames here places asked budget → IsStanding pages kind total frames here places now (now + budget)
    standing_now (at_cell within on long) = at_cell within (on_now here.level on) long
    standing_now (is_past past none most long) = is_past past none (omega arith) long

pub at_now : (pages : Pages) (kind : TreeKind) (levels : ℕ) (cursor : Cursor) (places : List Place) (asked budget now : ℕ)
    → IsAt pages kind levels cursor places asked budget → IsAt pages kind levels cursor places now (now + budget)
at_now pages kind levels cursor places asked budget now at = record {
  here = at.here;
  here_is = at.here_is;
  kind_is = at.kind_is;
  usable = at.usable;
  most = at.most;
  readable = at.readable;
  stands = standing_now pages kind levels now cursor.frames.items at.here places asked budget at.stands;
}
