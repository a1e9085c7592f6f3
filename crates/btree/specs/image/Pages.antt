-- The pages of an image, as trees see them.
use Rattle.std.specs.Prelude.{IsTrue, ℕ, List, ◌≤◌, take}
use Rattle.pager.specs.declared.header.Header.{Header}
use Rattle.pager.specs.Header.{header_of}
use Rattle.pager.specs.Page.{page_of}
use Rattle.pager.specs.PagerState.{PagerState, image_size}

-- How many pages there are, how many bytes of each are used, how many bytes the image has, and the used bytes of each
-- page by its number. The others are reserved, and no tree says anything of them.
pub record Pages : Type 0 where
  pub count : ℕ
  pub usable : ℕ
  pub size : ℕ
  pub page : ℕ → List ℕ

-- the pages of an image with this header
abbrev pub pages_in : Header → List ℕ → Pages
pages_in header image = record {
  count = header.pages;
  usable = header.usable;
  size = image_size header;
  page = λ n. take header.usable (page_of image n);
}

abbrev pub pages_of : List ℕ → Pages
pages_of image = pages_in (header_of image) image

abbrev pub IsNumber : Pages → ℕ → Type 0
IsNumber pages n = (1 ≤ n) × (n ≤ pages.count)

-- the pages that a pager reads, by the header that it has read
abbrev pub pages_seen : PagerState → Pages
pages_seen pager = pages_in pager.header pager.source.bytes

-- what holds of these pages where the source is steady
abbrev pub WhereSteady : PagerState → (Pages → Type 0) → Type 0
WhereSteady pager Holds = IsTrue pager.source.steady → Holds (pages_seen pager)
