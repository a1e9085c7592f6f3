-- What a cursor may still ask for is its own, whatever else asks for pages in between.
use Rattle.std.proofs.Common.{◌+◌, ◌≤◌, ℕ, suc, List, arith}
use Rattle.btree.specs.declared.image.kind.TreeKind.{TreeKind}
use Rattle.btree.specs.declared.image.kind.Level.{Level}
use Rattle.btree.specs.declared.image.kind.Level.TheVariants.{Leaf, Interior}
use Rattle.btree.specs.image.Pages.{Pages}
use Rattle.btree.specs.image.Tree.{Place}
use Rattle.btree_cursor.specs.declared.cursor.cursor.Cursor.{Cursor}
use Rattle.btree_cursor.specs.declared.cursor.cursor.Frame.{Frame}
use Rattle.btree_cursor.specs.cursor.Listing.{IsAt}
use Rattle.btree_cursor.specs.cursor.Rest.{IsLeft, IsOn, IsStanding, at_cell, is_past, size_from}

module _ (pages : Pages) (kind : TreeKind) (total : ℕ) where
  left_moved : (levels from to budget limit : ℕ) (frames : List Frame) (rest : List Place) → to + budget ≤ limit + from
      → IsLeft pages kind total levels frames rest from budget → IsLeft pages kind total levels frames rest to limit
  left_moved levels from to budget limit frames rest within left = record {
    shallow = left.shallow;
    ahead = left.ahead;
    stack = left.stack;
    asks = let asks = left.asks in omega (arith, within, asks);
  }

  module _ (asked budget later limit : ℕ) (within : later + budget ≤ limit + asked) (frames : List Frame) (here : Frame) (places : List Place) where
    on_moved : (level : Level) → IsOn level pages kind total frames here places asked budget → IsOn level pages kind total frames here places later limit
    on_moved Leaf on = record {
      rest = on.rest;
      left = left_moved 0 asked later budget limit frames on.rest within on.left;
      holds = on.holds;
      page = on.page;
      places_is = on.places_is;
    }
    on_moved Interior on = record {
      rest = on.rest;
      entries = on.entries;
      behind = record {
        levels = on.behind.levels;
        rest = on.behind.rest;
        left =
            let size = size_from pages on.behind.levels here.number (here.at + 1) in
            left_moved (suc on.behind.levels) (asked + size) (later + size) budget limit frames on.behind.rest (omega (arith, within)) on.behind.left;
        step = on.behind.step;
        places_is = on.behind.places_is;
      };
      places_is = on.places_is;
    }

    standing_moved : IsStanding pages kind total frames here places asked budget → IsStanding pages kind total frames here places later limit
    standing_moved (at_cell more on long) = at_cell more (on_moved here.level on) long
    standing_moved (is_past end none asks long) = is_past end none (omega (arith, within, asks)) long

-- at another count of asked pages a cursor keeps within a budget that is as much greater
pub at_moved : (pages : Pages) (kind : TreeKind) (levels : ℕ) (cursor : Cursor) (places : List Place) (asked budget later limit : ℕ)
    → later + budget ≤ limit + asked → IsAt pages kind levels cursor places asked budget → IsAt pages kind levels cursor places later limit
at_moved pages kind levels cursor places asked budget later limit within at = record {
  here = at.here;
  here_is = at.here_is;
  kind_is = at.kind_is;
  usable = at.usable;
  most = at.most;
  readable = at.readable;
  stands = standing_moved pages kind levels asked budget later limit within cursor.frames.items at.here places at.stands;
}
