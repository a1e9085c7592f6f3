-- Entries that tie have one rank, so that a sort by ranks leaves them in their order.
use Rattle.std.proofs.Common.{◌≡◌, ◌∙◌, ◌+◌, ◌-◌, ◌++◌, ◌<◌, ◌≤◌, ◌⊎◌, ◌&&◌, Bool, true, false, cond, not, ℕ, zero, suc, min, Ordering, Less, Equal, Greater, List, [], ◌∷◌, drop, filter, get_or, inl, inr, length, map, take, refl, sym, ap, subst, arith, Some}
use Rattle.std.proofs.Math.ListN.{get_or-append}
use Rattle.std.proofs.lemmas.Bool.{cases_lt}
use Rattle.std.proofs.lemmas.Cmp.{tied_itself}
use Rattle.std.proofs.lemmas.List.{get_or-append-add, get_or-drop, get_or-take, get_or_past, length-take}
use Rattle.std.specs.List.{slice_get}
use Rattle.std.specs.List.Sorted.{IsStableBy, IsStableByKey, ties}
use Rattle.std.specs.Ordering.{is_lt, ordering_reverse, ordering_then}
use Rattle.semantics.specs.Query.{Direction}
use Rattle.semantics.specs.Sequence.{keys_cmp, value_at}
use Rattle.resolver_terms.specs.SelectView.{direction_of}
use Rattle.sql_reader_syntax.specs.declared.query.Direction.{Direction as Given}
use Rattle.windows_groups.specs.contracts.window_order.ranks.RankOrd.TheImpl.{ghosts}
use Rattle.windows_groups.specs.contracts.window_order.ranks.RankOrd.TheImpl.Laws.{total-law}
use Rattle.windows_groups.specs.declared.window_order.ranks.Rank.{Rank}
use Rattle.windows_groups.specs.declared.window_order.sorting.Entry.{Entry}
use Rattle.windows_groups.specs.window_order.Entries.{entry_cmp, view}
use Rattle.windows_groups.specs.window_order.Ranks.{rank_of}
use Rattle.windows_groups.proofs.lemmas.window_order.GroupLemmas.{directed-ties}
use Rattle.windows_groups.proofs.lemmas.window_order.SortLemmas.{entry_total}

-- ---- the first bytes

abbrev zeros : List ℕ
zeros = 0 ∷ 0 ∷ 0 ∷ 0 ∷ 0 ∷ 0 ∷ 0 ∷ 0 ∷ []

zero_at : (n : ℕ) → n < 8 → get_or zeros n 0 ≡ 0
zero_at zero h = refl
zero_at (suc zero) h = refl
zero_at (suc (suc zero)) h = refl
zero_at (suc (suc (suc zero))) h = refl
zero_at (suc (suc (suc (suc zero)))) h = refl
zero_at (suc (suc (suc (suc (suc zero))))) h = refl
zero_at (suc (suc (suc (suc (suc (suc zero)))))) h = refl
zero_at (suc (suc (suc (suc (suc (suc (suc zero))))))) h = refl
zero_at (suc (suc (suc (suc (suc (suc (suc (suc n)))))))) h = absurd (omega (arith, h))

pub padded_at : (bytes : List ℕ) (count at : ℕ) → count ≡ min (length bytes) 8 → at < 8
    → get_or (take count bytes ++ drop count zeros) at 0 ≡ get_or bytes at 0
padded_at bytes count at is within = by (cases_lt at count)
  where
    long : length (take count bytes) ≡ count
    long = length-take count bytes ∙ omega (arith, is)

    by : (at < count) ⊎ (count ≤ at) → get_or (take count bytes ++ drop count zeros) at 0 ≡ get_or bytes at 0
    by (inl front) = get_or-append (take count bytes) (drop count zeros) 0 at (omega (arith, front, long)) ∙ get_or-take count bytes at 0 front
    by (inr past) =
        let there : length (take count bytes) + (at - count) ≡ at = omega (arith, past, long) in
        let back : count + (at - count) ≡ at = omega (arith, past) in
        ap (λ n. get_or (take count bytes ++ drop count zeros) n 0) (sym there)
        ∙ get_or-append-add (take count bytes) (drop count zeros) (at - count) 0
        ∙ get_or-drop count zeros (at - count) 0
        ∙ ap (λ n. get_or zeros n 0) back ∙ zero_at at within
        ∙ sym (get_or_past bytes at 0 (omega (arith, is, past, within)))

-- ---- a sort by one order, and then by a finer one

kept_twice : {X : Type 0} (p q : X → Bool) (xs : List X) → ((x : X) → p x ≡ true → q x ≡ true) → filter p (filter q xs) ≡ filter p xs
kept_twice p q [] more = refl
kept_twice p q (x ∷ xs) more =
    elim (q x) as (λ b. q x ≡ b → filter p (cond b (x ∷ filter q xs) (filter q xs)) ≡ cond (p x) (x ∷ filter p xs) (filter p xs)) [
      | true ↦ λ e. ap (λ rest. cond (p x) (x ∷ rest) rest) (kept_twice p q xs more)
      | false ↦ λ e.
          elim (p x) as (λ b. p x ≡ b → filter p (filter q xs) ≡ cond b (x ∷ filter p xs) (filter p xs)) [
            | true ↦ λ h. absurd (let yes = more x h in cc)
            | false ↦ λ h. kept_twice p q xs more
          ] refl
    ] refl

finer_stable : {X : Type 0} (less finer : X → X → Bool) (xs ys : List X) → ((x y : X) → ties finer x y ≡ true → ties less x y ≡ true)
    → IsStableBy less xs ys → IsStableBy finer xs ys
finer_stable less finer xs ys more stable x =
    sym (kept_twice (ties finer x) (ties less x) ys (more x)) ∙ ap (filter (ties finer x)) (stable x) ∙ kept_twice (ties finer x) (ties less x) xs (more x)

-- ---- entries

neither : (o : Ordering) → (not (is_lt o) && not (is_lt (ordering_reverse o))) ≡ true → o ≡ Equal
neither Less e = absurd cc
neither Equal e = refl
neither Greater e = absurd cc

then_tie : (o p : Ordering) → ordering_then o p ≡ Equal → o ≡ Equal
then_tie Less p e = absurd cc
then_tie Equal p e = refl
then_tie Greater p e = absurd cc

abbrev pub first_rank : Direction → Entry → Rank
first_rank d e = rank_of d (value_at (view e).keys 0)

one_rank : (d : Direction) (rest : List Direction) (a b : Entry) → entry_cmp (d ∷ rest) (view a) (view b) ≡ Equal → first_rank d a ≡ first_rank d b
one_rank d rest a b tie =
    let keys : keys_cmp (d ∷ rest) (view a).keys (view b).keys ≡ Equal = then_tie _ _ tie in
    ap (rank_of d) (directed-ties d (value_at (view a).keys 0) (value_at (view b).keys 0) (then_tie _ _ keys))

tied_rank : (r s : Rank) → r ≡ s → (not (is_lt (ghosts.cmp r s)) && not (is_lt (ghosts.cmp s r))) ≡ true
tied_rank r s same =
    let itself : ghosts.cmp s s ≡ Equal = tied_itself total-law s in
    (λ i. not (is_lt (ghosts.cmp (same i) s)) && not (is_lt (ghosts.cmp s (same i)))) ∙ ap (λ o. not (is_lt o) && not (is_lt o)) itself

ranks_stable : (d : Direction) (rest : List Direction) (xs ys : List Entry) → IsStableByKey (first_rank d) ghosts.cmp xs ys
    → IsStableByKey view (entry_cmp (d ∷ rest)) xs ys
ranks_stable d rest xs ys =
    finer_stable (λ a b. is_lt (ghosts.cmp (first_rank d a) (first_rank d b))) (λ a b. is_lt (entry_cmp (d ∷ rest) (view a) (view b))) xs ys
    (λ a b tie.
    let back = (entry_total (d ∷ rest)).antisymm (view b) (view a) in
    tied_rank (first_rank d a) (first_rank d b) (one_rank d rest a b (neither (entry_cmp (d ∷ rest) (view a) (view b)) (ap (λ o. not (is_lt (entry_cmp (d ∷ rest) (view a) (view b))) && not (is_lt o)) (sym back) ∙ tie))))

-- the directions begin with the first one
pub first_is : (ds : List Given) (d : Given) → slice_get ds 0 ≡ Some d → (rest : List Direction) × (map direction_of ds ≡ direction_of d ∷ rest)
first_is [] d is = absurd cc
first_is (e ∷ ds) d is = let same : e ≡ d = cc in (map direction_of ds, ap (λ x. direction_of x ∷ map direction_of ds) same)

pub first_ranks_stable : (ds : List Given) (d : Given) (xs ys : List Entry) → slice_get ds 0 ≡ Some d → IsStableByKey (first_rank (direction_of d)) ghosts.cmp xs ys
    → IsStableByKey view (entry_cmp (map direction_of ds)) xs ys
first_ranks_stable ds d xs ys is stable =
    let first = first_is ds d is in
    subst (λ ways. IsStableByKey view (entry_cmp ways) xs ys) (sym first.1) (ranks_stable (direction_of d) first.0 xs ys stable)

pub stable_twice : {X : Type 0} (less : X → X → Bool) (xs ys zs : List X) → IsStableBy less xs ys → IsStableBy less ys zs → IsStableBy less xs zs
stable_twice less xs ys zs one two x = two x ∙ one x
