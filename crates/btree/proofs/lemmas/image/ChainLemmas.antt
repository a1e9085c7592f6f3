-- A payload has one list of bytes.
use Rattle.std.proofs.Common.{◌≡◌, ◌∙◌, ◌-◌, ◌<◌, ℕ, List, [], ◌++◌, take, drop, length, Some, refl, sym, ap, subst, arith}
use Rattle.btree.specs.image.Cell.{PayloadData}
use Rattle.btree.specs.image.Pages.{Pages}
use Rattle.btree.specs.image.Chain.{IsChain, end, more, HasBytes, local, joined, next_page, chain_room}

some_number : (a b : ℕ) → Some a ≡ Some b → a ≡ b
some_number a b e = cc

-- where no bytes are left, page 0 is next
pub chain_end : (pages : Pages) {n size : ℕ} {bytes : List ℕ} → IsChain pages n size bytes → size ≡ 0 → (n ≡ 0) × (bytes ≡ [])
chain_end pages end none = (refl, refl)
chain_end pages (more rest number some chain is) none = absurd (omega (arith, none))

pub one_chain : (pages : Pages) {n size : ℕ} {a : List ℕ} → IsChain pages n size a → (b : List ℕ) → IsChain pages n size b → a ≡ b
one_chain pages end b other = sym (chain_end pages other refl).1
one_chain pages (more {n} {size} rest number some chain is) b other = more_same n size b other rest some (λ r next. one_chain pages chain r next) is
  where
    more_same : (n size : ℕ) (b : List ℕ) → IsChain pages n size b → {a : List ℕ} (rest : List ℕ) → 0 < size
        → ((r : List ℕ) → IsChain pages (next_page pages n) (size - chain_room pages) r → rest ≡ r)
        → a ≡ take size (drop 4 (pages.page n)) ++ rest → a ≡ b
    more_same n size b end rest some same is = absurd (omega arith)
    more_same n size b (more r number positive chain also) rest some same is = is ∙ ap (λ x. take size (drop 4 (pages.page n)) ++ x) (same r chain) ∙ sym also

pub one_payload : (pages : Pages) (payload : PayloadData) (a b : List ℕ) → HasBytes pages payload a → HasBytes pages payload b → a ≡ b
one_payload pages payload a b (local none is) (local _ also) = is ∙ sym also
one_payload pages payload a b (local none is) (joined first rest some chain also) = absurd cc
one_payload pages payload a b (joined first rest some chain is) (local none also) = absurd cc
one_payload pages payload a b (joined first rest some chain is) (joined other others same next also) =
    let e : other ≡ first = some_number other first (sym same ∙ some) in
    is ∙ ap (λ x. payload.local ++ x)
    (one_chain pages chain others (subst (λ (n : ℕ). IsChain pages n (payload.size - length payload.local) others) e next)) ∙ sym also
