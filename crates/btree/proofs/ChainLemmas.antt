-- A chain of overflow pages, as it is read.
use Rattle.std.proofs.Common.{◌≡◌, ◌∙◌, ⊎_elim, ◌-◌, ◌<◌, ◌≤◌, ℕ, min, List, [], ◌++◌, take, drop, length, refl, sym, ap, subst, arith, append-nil, append_assoc, length-drop}
use Rattle.std.proofs.lemmas.Bool.{cases_lt}
use Rattle.std.proofs.lemmas.List.{take_all}
use Rattle.byteorder.specs.Endian.{big_number}
use Rattle.pager.specs.Header.{field}
use Rattle.btree.specs.image.Pages.{Pages, IsNumber}
use Rattle.btree.specs.image.Chain.{IsChain, end, more, chain_room, next_page}
use Rattle.btree.proofs.lemmas.image.ChainLemmas.{chain_end}

pub first_field : (bytes : List ℕ) (n : ℕ) → n ≡ big_number 4 bytes → n ≡ field bytes 0 4
unfolding field
first_field bytes n is = is

-- what is read of a page of which so many bytes are used
pub piece_is : (used : List ℕ) (left usable taken : ℕ) → length used ≡ usable → taken ≡ min left (usable - 4)
    → take taken (drop 4 used) ≡ take left (drop 4 used)
piece_is used left usable taken long is =
    ⊎_elim
    (λ (less : left < usable - 4). ap (λ k. take k (drop 4 used)) (omega (arith, is)))
    (λ (least : usable - 4 ≤ left).
    let whole : length (drop 4 used) ≡ usable - 4 = simp length-drop (omega (arith, long)) in
    take_all taken (drop 4 used) (omega (arith, is, whole)) ∙ sym (take_all left (drop 4 used) (omega (arith, whole))))
    (cases_lt left (usable - 4))

-- a chain of some bytes begins with a page
pub first_number : (pages : Pages) {n size : ℕ} {bytes : List ℕ} → IsChain pages n size bytes → 0 < size → IsNumber pages n
first_number pages end some = absurd (omega arith)
first_number pages (more rest number positive chain is) some = number

behind : (pages : Pages) {n size : ℕ} {bytes : List ℕ} → IsChain pages n size bytes → 0 < size
    → (rest : List ℕ) × IsChain pages (next_page pages n) (size - chain_room pages) rest
behind pages end some = absurd (omega arith)
behind pages (more rest number positive chain is) some = (rest, chain)

-- Bytes of a chain were read, page `next` is the next, and so many bytes are left.
pub record IsRead (pages : Pages) (first size : ℕ) (start now : List ℕ) (next left : ℕ) : Type 0 where
  pub got : List ℕ
  pub now_is : now ≡ start ++ got
  pub forth : (rest : List ℕ) → IsChain pages next left rest → IsChain pages first size (got ++ rest)
  pub back : (bytes : List ℕ) → IsChain pages first size bytes → (rest : List ℕ) × IsChain pages next left rest

pub read_none : (pages : Pages) (first size : ℕ) (start : List ℕ) → IsRead pages first size start start first size
read_none pages first size start = record {
  got = [];
  now_is = sym (append-nil start);
  forth = λ rest chain. chain;
  back = λ bytes chain. (bytes, chain);
}

module _ (pages : Pages) (first size : ℕ) (start now : List ℕ) (next left : ℕ) (read : IsRead pages first size start now next left) where
  pub read_more : (later : List ℕ) → IsNumber pages next → 0 < left → later ≡ now ++ take left (drop 4 (pages.page next))
      → IsRead pages first size start later (next_page pages next) (left - chain_room pages)
  read_more later number some is =
      let piece = take left (drop 4 (pages.page next)) in
      record {
        got = read.got ++ piece;
        now_is = is ∙ ap (λ x. x ++ piece) read.now_is ∙ append_assoc start read.got piece;
        forth = λ rest chain.
            subst (λ (x : List ℕ). IsChain pages first size x) (sym (append_assoc read.got piece rest))
            (read.forth (piece ++ rest) (more rest number some chain refl));
        back = λ bytes chain. behind pages (read.back bytes chain).1 some;
      }

  pub read_all : left ≡ 0 → next ≡ 0 → (rest : List ℕ) × IsChain pages first size rest × (now ≡ start ++ rest)
  read_all none last =
      let rest : IsChain pages next left [] = subst (λ (n : ℕ). IsChain pages n left []) (sym last) (subst (λ (k : ℕ). IsChain pages 0 k []) (sym none) end) in
      (read.got ++ [], read.forth [] rest, read.now_is ∙ ap (λ x. start ++ x) (sym (append-nil read.got)))

  -- there is no chain where the page that is next isn't one, or isn't 0 behind the last
  pub no_page : 0 < left → ¬ IsNumber pages next → (bytes : List ℕ) → ¬ IsChain pages first size bytes
  no_page some none bytes chain = none (first_number pages (read.back bytes chain).1 some)

  pub goes_on : left ≡ 0 → (next ≡ 0 → ⊥) → (bytes : List ℕ) → ¬ IsChain pages first size bytes
  goes_on none other bytes chain = other (chain_end pages (read.back bytes chain).1 none).0

  -- one page more, of which so many bytes are taken
  pub read_page : (used : List ℕ) (usable taken : ℕ) (later : List ℕ) (after less : ℕ) → IsNumber pages next → 0 < left
      → used ≡ pages.page next → length used ≡ usable → usable ≡ pages.usable → taken ≡ min left (usable - 4)
      → later ≡ now ++ take taken (drop 4 used) → after ≡ field used 0 4 → less ≡ left - taken
      → IsRead pages first size start later after less
  read_page used usable taken later after less number some same long usable_is taken_is is next_is less_is =
      let piece : take taken (drop 4 used) ≡ take left (drop 4 (pages.page next)) =
      piece_is used left usable taken long taken_is ∙ ap (λ (x : List ℕ). take left (drop 4 x)) same in
      let left_same : left - chain_room pages ≡ less = omega (arith, taken_is, less_is, usable_is) in
      let next_same : next_page pages next ≡ after = ap (λ (x : List ℕ). field x 0 4) (sym same) ∙ sym next_is in
      subst (λ (n : ℕ). IsRead pages first size start later n less) next_same
      (subst (λ (k : ℕ). IsRead pages first size start later (next_page pages next) k) left_same
      (read_more later number some (is ∙ ap (λ (x : List ℕ). now ++ x) piece)))
