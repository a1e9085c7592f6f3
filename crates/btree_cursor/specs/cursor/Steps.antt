-- A cursor that goes on from where a search has led to.
use Rattle.std.specs.Prelude.{ℕ, suc}
use Rattle.pager.specs.PagerState.{PagerState}
use Rattle.pager.specs.Calls.{AsksChainsOnly, SameImage}
use Rattle.btree_cursor.specs.declared.cursor.cursor.Cursor.{Cursor}
use Rattle.btree_cursor.specs.cursor.Calls.{HasStepped}

-- A cursor has gone on so many times by calls of `next`, and before, between and behind these pages of overflow chains
-- alone were asked for.
pub data HasGoneOn (start : PagerState) (first : Cursor) : ℕ → PagerState → Cursor → Type 0 where
  not_yet : (now : PagerState) → AsksChainsOnly start now → HasGoneOn start first 0 now first
  once_more : {m : ℕ} {old : PagerState} {was : Cursor} (new now : PagerState) (cursor : Cursor) → HasGoneOn start first m old was
      → HasStepped old new was cursor → SameImage old new → AsksChainsOnly new now → HasGoneOn start first (suc m) now cursor
