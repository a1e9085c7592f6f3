-- Where the use of pages begins: the header on page 1, and no page with a mark.
use Rattle.std.proofs.Common.{◌≡◌, ℕ, ◌-◌, ◌*◌, ◌<◌, ◌≤◌, true, false, [], take, drop, replicate, sym, ap, ◌∙◌, ⊎_elim, arith}
use Rattle.std.proofs.lemmas.Bool.{cases_lt}
use Rattle.std.proofs.lemmas.List.{get_or-replicate, get_or_past, length-replicate, take-take}
use Rattle.pager.specs.declared.header.Header.{Header}
use Rattle.pager.specs.Header.{front, header_in, header_of, page_size}
use Rattle.pager.specs.Page.{page_of}
use Rattle.pager.specs.PagerState.{PagerState, IsSoundHeader}
use Rattle.btree.specs.image.Pages.{Pages, pages_seen}
use Rattle.btree.specs.image.Use.{Users}
use Rattle.btree.specs.page_use.Free.{header_on}
use Rattle.btree.specs.page_use.Marks.{AreTreeMarks, is_marked}

-- the header that a pager has read stands on page 1
pub front_is : (state : PagerState) → IsSoundHeader state.header → state.header ≡ header_of state.source.bytes → header_on (pages_seen state) ≡ state.header
front_is state sound is = ap header_in same ∙ sym is
  where
    size : ℕ
    size = page_size (front state.source.bytes)

    size_is : state.header.page_size ≡ size
    size_is = ap (λ (h : Header). h.page_size) is

    none : (1 - 1) * size ≡ 0
    none = omega arith

    same : take 100 ((pages_seen state).page 1) ≡ take 100 state.source.bytes
    same =
        let wide : 480 ≤ state.header.usable = sound.usable in
        let most : state.header.usable ≤ state.header.page_size = sound.usable_most in
        take-take 100 state.header.usable (page_of state.source.bytes 1) (omega (arith, wide))
        ∙ ap (λ (k : ℕ). take 100 (take size (drop k state.source.bytes))) none
        ∙ take-take 100 size state.source.bytes (omega (arith, wide, most, size_is))

-- no page has its mark
blank : (n m : ℕ) → is_marked (replicate n false) m ≡ false
blank n m = ⊎_elim
    (λ (less : m < n). get_or-replicate n m false false less)
    (λ (least : n ≤ m). get_or_past (replicate n false) m false (omega (arith, least, length-replicate n false)))
    (cases_lt m n)

-- before anything was gone through
pub none_gone : (pages : Pages) (users : Users) (n : ℕ) → AreTreeMarks pages users [] (replicate n false)
none_gone pages users n = record {
  none_free = λ place gone free. absurd (omega (arith, gone.1));
  stand = λ place m gone on. absurd (omega (arith, gone.1));
  marks_are = record {
    closed = λ place m gone names. absurd (omega (arith, gone.1));
    from = λ m marked. let no : true ≡ false = sym marked ∙ blank n m in absurd cc;
    once = λ one other m gone. absurd (omega (arith, gone.1));
  };
}
