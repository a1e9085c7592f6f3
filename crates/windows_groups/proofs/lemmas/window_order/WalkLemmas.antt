-- The groups of the first places of a sequence, and of one place more.
use Rattle.std.proofs.Common.{◌≡◌, ◌∙◌, ◌+◌, ◌-◌, ◌<◌, ◌≤◌, ◌++◌, ◌⊎◌, inl, inr, Bool, true, false, nat_lt, ℕ, zero, suc, List, [], ◌∷◌, length, get_or, if◌then◌else◌, refl, sym, ap, subst, arith}
use native.Mathlib.Numerals.{add-one}
use Rattle.std.proofs.lemmas.Bool.Decides.{nat_tests}
use Rattle.std.proofs.lemmas.List.{get_or_append_left, get_or_push, length_push}
use Rattle.values.specs.Row.{Row}
use Rattle.semantics.specs.Query.{Direction}
use Rattle.semantics.specs.Windows.{peer_group}
use Rattle.windows_groups.specs.declared.window_order.peers.PeerGroups.{PeerGroups}
use Rattle.windows_groups.specs.window_order.Groups.{AreGroups, groups_made}

both_before : (a b c d : ℕ) → a < b → c < d → nat_lt a b ≡ nat_lt c d
both_before a b c d p q = grind (arith, nat_tests)

none_before : (a b c d : ℕ) → b ≤ a → d ≤ c → nat_lt a b ≡ nat_lt c d
none_before a b c d p q = grind (arith, nat_tests)

last_or_before : (k n : ℕ) → k < n + 1 → (k < n) ⊎ (n ≡ k)
last_or_before zero zero h = inr (omega arith)
last_or_before zero (suc n) h = inl (omega arith)
last_or_before (suc k) zero h = absurd (omega (arith, h))
last_or_before (suc k) (suc n) h = elim (last_or_before k n (omega (arith, h))) [ inl p ↦ inl (omega (arith, p)) | inr p ↦ inr (omega (arith, p)) ]

-- what holds of each place of a list, and of what is put behind it
pushed : (P : ℕ → ℕ → Type 0) (xs : List ℕ) (y n : ℕ) → length xs ≡ n → ((k : ℕ) → k < n → P k (get_or xs k 0)) → P n y
    → (k : ℕ) → k < n + 1 → P k (get_or (xs ++ y ∷ []) k 0)
pushed P xs y n size each last k h = elim (last_or_before k n h) [
  | inl low ↦ subst (P k) (sym (get_or_append_left xs (y ∷ []) 0 k (omega (arith, low, size)))) (each k low)
  | inr same ↦
      let at_end : length xs ≡ k = omega (arith, same, size) in
      subst (P k) (sym (get_or_push xs y 0 k at_end)) (subst (λ i. P i y) same last)
]

pub record IsWalked (ds : List Direction) (keys : List Row) (n : ℕ) (numbers starts : List ℕ) : Type 0 where
  pub made : length starts ≡ groups_made ds keys n
  pub size : length numbers ≡ n
  pub each : (k : ℕ) → k < n → get_or numbers k 0 ≡ peer_group ds keys k
  pub low : (k : ℕ) → k < n → peer_group ds keys k < length starts
  pub within : (g : ℕ) → g < length starts → get_or starts g 0 < n
  pub cuts : (g : ℕ) → g < length starts → (i : ℕ) → i < n → nat_lt i (get_or starts g 0) ≡ nat_lt (peer_group ds keys i) g

module _ (ds : List Direction) (keys : List Row) (n : ℕ) (numbers starts : List ℕ) (w : IsWalked ds keys n numbers starts) where
  number_of : groups_made ds keys (n + 1) ≡ peer_group ds keys n + 1
  number_of = ap (groups_made ds keys) (add-one n)

  -- of each place so far and the next
  next_too : (P : ℕ → Type 0) → ((k : ℕ) → k < n → P k) → P n → (k : ℕ) → k < n + 1 → P k
  next_too P each last k h = elim (last_or_before k n h) [ inl p ↦ each k p | inr p ↦ subst P p last ]

  same_group : groups_made ds keys (n + 1) ≡ groups_made ds keys n → IsWalked ds keys (n + 1) (numbers ++ (length starts - 1) ∷ []) starts
  same_group no_more =
      let here : peer_group ds keys n + 1 ≡ length starts = sym number_of ∙ no_more ∙ sym w.made in
      record {
        made = w.made ∙ sym no_more;
        size = length_push numbers (length starts - 1) ∙ ap (λ k. k + 1) w.size;
        each = pushed (λ k x. x ≡ peer_group ds keys k) numbers (length starts - 1) n w.size w.each (omega (arith, here));
        low = next_too (λ k. peer_group ds keys k < length starts) w.low (omega (arith, here));
        within = λ g h. let b = w.within g h in omega (arith, b);
        cuts = λ g h. let b = w.within g h in
            next_too (λ i. nat_lt i (get_or starts g 0) ≡ nat_lt (peer_group ds keys i) g) (w.cuts g h) (none_before n (get_or starts g 0) (peer_group ds keys n) g (omega (arith, b)) (omega (arith, here, h)));
      }

  new_group : groups_made ds keys (n + 1) ≡ groups_made ds keys n + 1 → IsWalked ds keys (n + 1) (numbers ++ (length (starts ++ n ∷ []) - 1) ∷ []) (starts ++ n ∷ [])
  new_group more =
      let here : peer_group ds keys n ≡ length starts = omega (arith, number_of, more, w.made) in
      let size : length (starts ++ n ∷ []) ≡ length starts + 1 = length_push starts n in
      record {
        made = size ∙ ap (λ k. k + 1) w.made ∙ sym more;
        size = length_push numbers (length (starts ++ n ∷ []) - 1) ∙ ap (λ k. k + 1) w.size;
        each = pushed (λ k x. x ≡ peer_group ds keys k) numbers (length (starts ++ n ∷ []) - 1) n w.size w.each (omega (arith, here, size));
        low = next_too (λ i. peer_group ds keys i < length (starts ++ n ∷ [])) (λ i p. let b = w.low i p in omega (arith, b, size)) (omega (arith, here, size));
        within = λ g h. pushed (λ k x. x < n + 1) starts n (length starts) refl (λ k p. let b = w.within k p in omega (arith, b)) (omega arith) g (omega (arith, h, size));
        cuts = λ g h. pushed (λ k x. (i : ℕ) → i < n + 1 → nat_lt i x ≡ nat_lt (peer_group ds keys i) k) starts n (length starts) refl
            (λ k p. let b = w.within k p in
            next_too (λ i. nat_lt i (get_or starts k 0) ≡ nat_lt (peer_group ds keys i) k) (w.cuts k p) (none_before n (get_or starts k 0) (peer_group ds keys n) k (omega (arith, b)) (omega (arith, here, p))))
            (next_too (λ i. nat_lt i n ≡ nat_lt (peer_group ds keys i) (length starts)) (λ i p. both_before i n (peer_group ds keys i) (length starts) p (w.low i p))
            (none_before n n (peer_group ds keys n) (length starts) (omega arith) (omega (arith, here))))
            g (omega (arith, h, size));
      }

  pub walked : (b : Bool) (numbers' starts' : List ℕ) → groups_made ds keys (n + 1) ≡ (if b then groups_made ds keys n + 1 else groups_made ds keys n)
      → starts' ≡ (if b then starts ++ length numbers ∷ [] else starts) → numbers' ≡ numbers ++ (length starts' - 1) ∷ [] → IsWalked ds keys (n + 1) numbers' starts'
  walked true numbers' starts' made s m =
      let starts_are : starts' ≡ starts ++ n ∷ [] = s ∙ ap (λ k. starts ++ k ∷ []) w.size in
      let numbers_are : numbers' ≡ numbers ++ (length (starts ++ n ∷ []) - 1) ∷ [] = m ∙ ap (λ l. numbers ++ (length l - 1) ∷ []) starts_are in
      subst (λ l. IsWalked ds keys (n + 1) numbers' l) (sym starts_are) (subst (λ l. IsWalked ds keys (n + 1) l (starts ++ n ∷ [])) (sym numbers_are) (new_group made))
  walked false numbers' starts' made s m =
      let numbers_are : numbers' ≡ numbers ++ (length starts - 1) ∷ [] = m ∙ ap (λ l. numbers ++ (length l - 1) ∷ []) s in
      subst (λ l. IsWalked ds keys (n + 1) numbers' l) (sym s) (subst (λ l. IsWalked ds keys (n + 1) l starts) (sym numbers_are) (same_group made))

  -- behind the last place
  pub all_walked : (groups : PeerGroups) → length keys ≡ n → groups.numbers.items ≡ numbers → groups.starts.items ≡ starts ++ n ∷ [] → AreGroups ds keys groups
  all_walked groups all m s =
      let size : length groups.starts.items ≡ length starts + 1 = ap length s ∙ length_push starts n in
      record {
        size = ap length m ∙ w.size ∙ sym all;
        each = λ i h. ap (λ l. get_or l i 0) m ∙ w.each i (omega (arith, h, all));
        within = λ g h. subst (λ l. get_or l g 0 ≤ length keys) (sym s)
            (pushed (λ k x. x ≤ length keys) starts n (length starts) refl (λ k p. let b = w.within k p in omega (arith, b, all)) (omega (arith, all)) g (omega (arith, h, size)));
        cuts = λ g i h p. subst (λ l. nat_lt i (get_or l g 0) ≡ nat_lt (peer_group ds keys i) g) (sym s)
            (let low : i < n = omega (arith, p, all) in
            pushed (λ k x. nat_lt i x ≡ nat_lt (peer_group ds keys i) k) starts n (length starts) refl (λ k q. w.cuts k q i low) (both_before i n (peer_group ds keys i) (length starts) low (w.low i low)) g (omega (arith, h, size)));
        last = λ i h. let b = w.low i (omega (arith, h, all)) in omega (arith, b, size);
      }

pub none_walked : (ds : List Direction) (keys : List Row) → IsWalked ds keys 0 [] []
none_walked ds keys = record {
  made = refl;
  size = refl;
  each = λ k h. absurd (omega (arith, h));
  low = λ k h. absurd (omega (arith, h));
  within = λ g h. absurd (omega (arith, h));
  cuts = λ g h. absurd (omega (arith, h));
}
