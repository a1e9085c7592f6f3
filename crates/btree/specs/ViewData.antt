-- What contracts see of a page.
use Rattle.std.specs.Prelude.{◌≡◌, ℕ, ◌<◌, ◌≤◌, List, length}
use Rattle.btree.specs.declared.image.kind.TreeKind.{TreeKind}
use Rattle.btree.specs.declared.image.kind.Level.{Level}
use Rattle.btree.specs.image.Layout.{HasHeaderAt, cell_count, header_at}
use Rattle.btree.specs.image.Pages.{Pages}

-- where a page's header begins, of which kind and level the page is, and its used bytes
pub record ViewData : Type 0 where
  pub at : ℕ
  pub kind : TreeKind
  pub level : Level
  pub page : List ℕ

-- the page is of this kind and level, and its header tells of a cell i
pub record TellsOfCell (view : ViewData) (kind : TreeKind) (level : Level) (i : ℕ) : Type 0 where
  pub kind_is : view.kind ≡ kind
  pub level_is : view.level ≡ level
  pub within : i < cell_count view.at view.page

-- a page of a tree was read: page n as these used bytes have it
pub record IsViewOf (kind : TreeKind) (n : ℕ) (used : List ℕ) (view : ViewData) : Type 0 where
  pub is : view ≡ record { at = header_at n; kind = kind; level = view.level; page = used }
  pub header : HasHeaderAt (header_at n) kind view.level used

-- what is known of each page that is read
pub record IsView (at : ℕ) (kind : TreeKind) (level : Level) (page : List ℕ) : Type 0 where
  pub header : HasHeaderAt at kind level page
  pub at_most : at ≤ 100
  pub least : 480 ≤ length page
  pub most : length page ≤ 65536

-- pages of which so much is used that they can be read
pub record AreReadable (pages : Pages) : Type 0 where
  pub least : 480 ≤ pages.usable
  pub most : pages.usable ≤ 65536
