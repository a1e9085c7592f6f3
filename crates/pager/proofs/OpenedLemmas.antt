-- What a pager knows of its parts.
use Rattle.std.proofs.Common.{◌≡◌, ◌∙◌, ◌≤◌, ℕ, List, [], IsTrue, length, inl, inr, take, drop, ◌-◌, ◌*◌, arith}
use Rattle.lru.proofs.Splits.{Contains-nil}
use Rattle.pager.specs.declared.header.Header.{Header}
use Rattle.pager.specs.Source.{SourceFacts, ChangesCount}
use Rattle.pager.specs.Cached.{AddsNothing, AddsAtMost}
use Rattle.pager.specs.Header.{header_of, KeepsAll}
use Rattle.pager.specs.Page.{page_of}
use Rattle.pager.specs.PagerState.{IsSoundHeader, Agrees}

module _ (old new : SourceFacts) (header : Header) (capacity room : ℕ) where
  -- failures change nothing of it
  pub Agrees-failed : (cache : List (ℕ × List ℕ)) → ChangesCount old new → Agrees old header capacity room cache → Agrees new header capacity room cache
  Agrees-failed cache same had =
      rw same (record { sound = had.sound; room_is = had.room_is; few = had.few; cache_long = had.cache_long; header_is = had.header_is; kept = had.kept; cache_is = had.cache_is })

  -- a cache without pages
  pub Agrees-nil : room ≡ capacity → ChangesCount old new → IsSoundHeader header → (IsTrue old.steady → header ≡ header_of old.bytes)
      → (IsTrue old.steady → KeepsAll old.bytes) → Agrees new header capacity room []
  Agrees-nil room_is same sound is kept = Agrees-failed [] same (record {
    sound = sound;
    room_is = room_is;
    few = omega arith;
    cache_long = λ e h. absurd (Contains-nil e h);
    header_is = is;
    kept = kept;
    cache_is = λ steady e h. absurd (Contains-nil e h);
  })

-- what a cache that got no more pages than it has room for knows of them
module _ (source : SourceFacts) (header : Header) (capacity room : ℕ) (old new : List (ℕ × List ℕ)) (had : Agrees source header capacity room old)
    (few : length old ≤ room → length new ≤ room) (now : ℕ) (same_room : now ≡ room) where
  still_few : length new ≤ capacity
  still_few = let room_is = had.room_is in let was = had.few in let is = few (omega arith) in omega arith

  pub Agrees-fewer : AddsNothing old new → Agrees source header capacity now new
  Agrees-fewer adds = record {
    sound = had.sound;
    room_is = same_room ∙ had.room_is;
    few = still_few;
    cache_long = λ e h. had.cache_long e (adds.were e h);
    header_is = had.header_is;
    kept = had.kept;
    cache_is = λ steady e h. had.cache_is steady e (adds.were e h);
  }

  pub Agrees-page : (n : ℕ) (page : List ℕ) → AddsAtMost n page old new → length page ≡ header.page_size
      → (IsTrue source.steady → page ≡ page_of source.bytes n) → Agrees source header capacity now new
  Agrees-page n page adds long is = record {
    sound = had.sound;
    room_is = same_room ∙ had.room_is;
    few = still_few;
    cache_long = λ e h. elim (adds.were e h) [ inl was ↦ had.cache_long e was | inr same ↦ rw same.1 long ];
    header_is = had.header_is;
    kept = had.kept;
    cache_is = λ steady e h. elim (adds.were e h) [ inl was ↦ had.cache_is steady e was | inr same ↦ rw (same.0, same.1) (is steady) ];
  }

pub page_of-sized : (bytes : List ℕ) (header : Header) (n : ℕ) → header ≡ header_of bytes
    → take header.page_size (drop ((n - 1) * header.page_size) bytes) ≡ page_of bytes n
page_of-sized bytes header n is = rw is
