-- The pages that a pager reads, from one call to the next.
use Rattle.std.proofs.Common.{◌≡◌, ◌≤◌, ℕ, List, [], ◌∷◌, All, IsTrue, ◌∙◌, arith, lit≤}
use Rattle.std.proofs.lemmas.List.Elements.{All-nil, All-cons, All-contains}
use Rattle.pager.specs.declared.header.Header.{Header}
use Rattle.pager.specs.Header.{page_sizes}
use Rattle.pager.specs.PagerState.{PagerState, IsSoundHeader}
use Rattle.pager.specs.Calls.{SameImage}
use Rattle.btree.specs.image.Pages.{pages_seen, pages_in}
use Rattle.btree.specs.ViewData.{AreReadable}

module _ (a b : PagerState) (stays : SameImage a b) where
  pub still_steady : IsTrue a.source.steady → IsTrue b.source.steady
  still_steady steady = stays.steady ∙ steady

  pub same_pages : pages_seen b ≡ pages_seen a
  same_pages = (λ i. pages_in (stays.header i) (stays.bytes i))

-- no page has more than 65536 bytes
small_sizes : All (λ n. n ≤ 65536) page_sizes
small_sizes =
    more 512 (1024 ∷ 2048 ∷ 4096 ∷ 8192 ∷ 16384 ∷ 32768 ∷ 65536 ∷ []) (lit≤ tt) (more 1024 (2048 ∷ 4096 ∷ 8192 ∷ 16384 ∷ 32768 ∷ 65536 ∷ []) (lit≤ tt) (more 2048 (4096 ∷ 8192 ∷ 16384 ∷ 32768 ∷ 65536 ∷ []) (lit≤ tt) (more 4096 (8192 ∷ 16384 ∷ 32768 ∷ 65536 ∷ []) (lit≤ tt) (more 8192 (16384 ∷ 32768 ∷ 65536 ∷ []) (lit≤ tt) (more 16384 (32768 ∷ 65536 ∷ []) (lit≤ tt) (more 32768 (65536 ∷ []) (lit≤ tt) (more 65536 [] (lit≤ tt) (All-nil (λ n. n ≤ 65536)))))))))
  where
    more : (x : ℕ) (xs : List ℕ) → x ≤ 65536 → All (λ n. n ≤ 65536) xs → All (λ n. n ≤ 65536) (x ∷ xs)
    more x xs h i = All-cons (λ n. n ≤ 65536) x xs h i

pub readable : (header : Header) (image : List ℕ) → IsSoundHeader header → AreReadable (pages_in header image)
readable header image sound = record { least = sound.usable; most = (let most : header.page_size ≤ 65536 = All-contains (λ n. n ≤ 65536) page_sizes header.page_size small_sizes sound.size in let used : header.usable ≤ header.page_size = sound.usable_most in omega arith) }
