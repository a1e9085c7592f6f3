-- Overflow pages, and the whole of a payload. (Database File Format, section 1.7 "Cell Payload Overflow Pages")
use Rattle.std.specs.Prelude.{◌≡◌, ℕ, ◌-◌, ◌<◌, List, [], ◌++◌, take, drop, length, Some, None}
use Rattle.pager.specs.Header.{field}
use Rattle.btree.specs.image.Cell.{PayloadData}
use Rattle.btree.specs.image.Pages.{Pages, IsNumber}

-- an overflow page begins with the number of the next one, which is 0 on the last
abbrev pub next_page : Pages → ℕ → ℕ
next_page pages n = field (pages.page n) 0 4

-- how many bytes of a payload it has room for behind that number
abbrev pub chain_room : Pages → ℕ
chain_room pages = pages.usable - 4

-- From page n on, a chain of overflow pages holds so many bytes, which are these. There is none where a page isn't one
-- of the image, where the chain ends before so many bytes, or where it goes on behind them.
pub data IsChain (pages : Pages) : ℕ → ℕ → List ℕ → Type 0 where
  end : IsChain pages 0 0 []
  more : {n size : ℕ} {bytes : List ℕ} (rest : List ℕ) → IsNumber pages n → 0 < size
      → IsChain pages (next_page pages n) (size - chain_room pages) rest
      → bytes ≡ take size (drop 4 (pages.page n)) ++ rest → IsChain pages n size bytes

-- The bytes of a payload: those that stand in its cell, and behind them those of its overflow pages.
pub data HasBytes (pages : Pages) (payload : PayloadData) (bytes : List ℕ) : Type 0 where
  local : payload.overflow ≡ None → bytes ≡ payload.local → HasBytes pages payload bytes
  joined : (first : ℕ) (rest : List ℕ) → payload.overflow ≡ Some first
      → IsChain pages first (payload.size - length payload.local) rest → bytes ≡ payload.local ++ rest → HasBytes pages payload bytes
