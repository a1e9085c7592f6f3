-- The pages of an image. (Database File Format, section 1.2 "Pages")
use Rattle.std.specs.Prelude.{ℕ, ◌-◌, ◌*◌, List, take, drop}
use Rattle.pager.specs.Header.{front, page_size}

-- the n-th run of page-size bytes, counted from 1
abbrev pub page_of : List ℕ → ℕ → List ℕ
page_of image n = let size = page_size (front image) in take size (drop ((n - 1) * size) image)
