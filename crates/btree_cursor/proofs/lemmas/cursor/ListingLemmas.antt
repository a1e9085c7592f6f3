-- What a cursor gives.
use Rattle.std.proofs.Common.{◌<◌, ◌≤◌, ℕ, List, None, Some, refl, sym, subst}
use Rattle.btree.specs.declared.image.kind.TreeKind.{TreeKind}
use Rattle.btree.specs.image.Cell.{CellData}
use Rattle.btree.specs.image.Pages.{Pages}
use Rattle.btree.specs.image.Shape.{place_at}
use Rattle.btree.specs.image.Tree.{Place, IsEntryAt}
use Rattle.btree_cursor.specs.declared.cursor.cursor.Frame.{Frame}
use Rattle.btree_cursor.specs.cursor.Listing.{IsEntry}
use Rattle.btree_cursor.specs.cursor.Rest.{IsStanding}
use Rattle.btree_cursor.proofs.lemmas.cursor.RestLemmas.{first_place, none_left}

module _ (pages : Pages) (kind : TreeKind) (total : ℕ) (frames : List Frame) (here : Frame) (places : List Place) (asked budget : ℕ) (stands : IsStanding pages kind total frames here places asked budget) where
  -- the cell where the cursor stands is the first to come
  pub entry_is : (cell : CellData) → here.at < here.count → IsEntryAt pages kind (place_at here.number here.at) cell → IsEntry pages kind places (Some cell)
  entry_is cell within is =
      subst (λ (x : List Place). IsEntry pages kind x (Some cell)) (sym (first_place pages kind total frames here places asked budget stands within)) is

  pub no_entry : here.count ≤ here.at → IsEntry pages kind places None
  no_entry end = subst (λ (x : List Place). IsEntry pages kind x None) (sym (none_left pages kind total frames here places asked budget stands end)) refl
