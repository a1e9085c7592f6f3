-- The example chain, computed.
use Rattle.std.proofs.Common.{◌≡◌, ◌-◌, ◌<◌, ℕ, List, [], ◌∷◌, ◌++◌, replicate, refl, lit<, lit≤, arith, subst, sym}
use Rattle.pager.specs.Header.{field}
use Rattle.btree.specs.image.Chain.{IsChain, end, more, next_page, chain_room}
use Rattle.btree.specs.image.Examples.{chain_pages}
use Rattle.btree.proofs.lemmas.image.ChainLemmas.{chain_end}

first_next : next_page chain_pages 2 ≡ 3
unfolding field
first_next = refl

last_next : next_page chain_pages 3 ≡ 0
unfolding field
last_next = refl

last : IsChain chain_pages 3 2 (2 ∷ 3 ∷ [])
last = more [] (lit≤ tt, lit≤ tt) (lit< tt) (subst (λ (n : ℕ). IsChain chain_pages n (2 - chain_room chain_pages) []) (sym last_next) end) refl

pub chain_bytes : IsChain chain_pages 2 510 (replicate 508 1 ++ (2 ∷ 3 ∷ []))
chain_bytes = more (2 ∷ 3 ∷ []) (lit≤ tt, lit≤ tt) (lit< tt) (subst (λ (n : ℕ). IsChain chain_pages n (510 - chain_room chain_pages) (2 ∷ 3 ∷ [])) (sym first_next) last) refl

-- what is left of a chain behind its first page
behind : {n size : ℕ} {bytes : List ℕ} → IsChain chain_pages n size bytes → 0 < size
    → (rest : List ℕ) × IsChain chain_pages (next_page chain_pages n) (size - chain_room chain_pages) rest
behind end some = absurd (omega arith)
behind (more rest number positive chain is) some = (rest, chain)

not_zero : (n : ℕ) → n ≡ 3 → n ≡ 0 → ⊥
not_zero n three none = cc

pub no_shorter : (bytes : List ℕ) → IsChain chain_pages 2 508 bytes → ⊥
no_shorter bytes chain =
    let next = behind chain (lit< tt) in
    not_zero (next_page chain_pages 2) first_next (chain_end chain_pages next.1 refl).0
