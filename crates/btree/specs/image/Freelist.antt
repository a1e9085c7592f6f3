-- The freelist: the pages that nothing uses. (Database File Format, section 1.5 "The Freelist")
use Rattle.std.specs.Prelude.{◌≡◌, ℕ, zero, suc, ◌+◌, ◌*◌, ◌<◌, ◌≤◌}
use Rattle.pager.specs.Header.{field}
use Rattle.btree.specs.image.Pages.{Pages, IsNumber}

-- a trunk page begins with the number of the next one, which is 0 on the last, and says how many numbers follow
abbrev pub next_trunk : Pages → ℕ → ℕ
next_trunk pages n = field (pages.page n) 0 4

abbrev pub leaf_count : Pages → ℕ → ℕ
leaf_count pages n = field (pages.page n) 4 4

abbrev pub leaf_of : Pages → ℕ → ℕ → ℕ
leaf_of pages n i = field (pages.page n) (8 + 4 * i) 4

-- the number of trunk page k, if each before it is one, counted from 0: the first, or what the one before it says
abbrev pub trunk_at : Pages → ℕ → ℕ → ℕ
trunk_at pages first zero = first
trunk_at pages first (suc k) = next_trunk pages (trunk_at pages first k)

-- page n has room for as many numbers as it says
pub record IsTrunk (pages : Pages) (n : ℕ) : Type 0 where
  pub number : IsNumber pages n
  pub room : 8 + 4 * leaf_count pages n ≤ pages.usable

-- and each of them is a page's
pub record IsSoundTrunk (pages : Pages) (n : ℕ) : Type 0 where
  pub trunk : IsTrunk pages n
  pub leaves : (i : ℕ) → i < leaf_count pages n → IsNumber pages (leaf_of pages n i)

-- how many pages the first k trunk pages and their leaves are
abbrev pub free_before : Pages → ℕ → ℕ → ℕ
free_before pages first zero = 0
free_before pages first (suc k) = free_before pages first k + (1 + leaf_count pages (trunk_at pages first k))

-- The freelist that begins at a page, or is empty where that is 0, has so many pages, trunk pages and leaves.
pub record IsFreelist (pages : Pages) (first total : ℕ) : Type 0 where
  pub count : ℕ
  pub trunks : (k : ℕ) → k < count → IsSoundTrunk pages (trunk_at pages first k)
  pub last : trunk_at pages first count ≡ 0
  pub total_is : free_before pages first count ≡ total
