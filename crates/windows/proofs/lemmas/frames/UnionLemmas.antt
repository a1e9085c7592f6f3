-- A frame is an interval less what is taken out.
use Rattle.std.proofs.Common.{◌≡◌, ◌∙◌, ◌<◌, ◌≤◌, ◌+ℤ◌, int_le, min, max, Bool, true, false, not, ◌&&◌, ℕ, zero, suc, ℤ, pos, ◌⊎◌, inl, inr, Option, Some, None, List, length, refl, sym, ap, arith}
use Rattle.std.proofs.lemmas.Bool.{false≢true}
use Rattle.std.proofs.lemmas.Bool.Decides.{nat_tests}
use Rattle.std.proofs.lemmas.Int.{ints}
use Rattle.std.specs.Ordering.{is_eq, nat_cmp}
use Rattle.values.specs.Row.{Row}
use Rattle.semantics.specs.Query.{Direction}
use Rattle.semantics.specs.Windows.{are_peers, peer_group, unless}
use Rattle.windows_groups.specs.window_order.Entries.{IsInWindowOrder}
use Rattle.windows_groups.proofs.lemmas.window_order.GroupLemmas.{keys-as_numbers}
use Rattle.windows.specs.declared.frames.excluded.Gap.{Gap}
use Rattle.windows.specs.frames.Cuts.{CutsPlaces}
use Rattle.windows.specs.frames.Ranges.{IsTaken, IsUnion, IsRangeOf}
use Rattle.windows.proofs.lemmas.frames.CutLemmas.{same_cut}

-- ---- edges

not_not : (b : Bool) → not (not b) ≡ b
not_not true = refl
not_not false = refl

module _ (f : ℕ → ℤ → Bool) (edge : Option ℤ) (n cut : ℕ) where
  pub start_some : (by : ℤ) → edge ≡ Some by → CutsPlaces (λ k. f k by) n cut → CutsPlaces (λ k. not (unless (λ b. f k b) edge)) n cut
  start_some by is h = same_cut _ _ n cut (λ k inside. ap (λ o. not (unless (λ b. f k b) o)) is ∙ not_not (f k by)) h

  pub end_some : (by : ℤ) → edge ≡ Some by → CutsPlaces (λ k. not (f k by)) n cut → CutsPlaces (λ k. unless (λ b. f k b) edge) n cut
  end_some by is h = same_cut _ _ n cut (λ k inside. ap (λ o. unless (λ b. f k b) o) is) h

pub start_none : (f : ℕ → ℤ → Bool) (edge : Option ℤ) (n : ℕ) → edge ≡ None → CutsPlaces (λ k. not (unless (λ b. f k b) edge)) n 0
start_none f edge n is = record {
  within = omega arith;
  ahead = λ k h. absurd (omega (arith, h));
  behind = λ k low high. ap (λ o. not (unless (λ b. f k b) o)) is;
}

pub end_none : (f : ℕ → ℤ → Bool) (edge : Option ℤ) (n : ℕ) → edge ≡ None → CutsPlaces (λ k. unless (λ b. f k b) edge) n n
end_none f edge n is = record {
  within = omega arith;
  ahead = λ k h. ap (λ o. unless (λ b. f k b) o) is;
  behind = λ k low high. absurd (omega (arith, low, high));
}

-- ---- peers

not_peer_before : (a b : ℕ) (t : ℤ) → t ≡ pos a → not (int_le t (pos b)) ≡ true → is_eq (nat_cmp a b) ≡ false
not_peer_before a b t is h = grind (arith, ints, nat_tests, is, h)

peer_between : (a b : ℕ) (t u : ℤ) → t ≡ pos a → u ≡ pos a +ℤ pos 1 → not (int_le t (pos b)) ≡ false → not (int_le u (pos b)) ≡ true → is_eq (nat_cmp a b) ≡ true
peer_between a b t u is next h g = grind (arith, ints, nat_tests, is, next, h, g)

not_peer_behind : (a b : ℕ) (u : ℤ) → u ≡ pos a +ℤ pos 1 → not (int_le u (pos b)) ≡ false → is_eq (nat_cmp a b) ≡ false
not_peer_behind a b u next h = grind (arith, ints, nat_tests, next, h)

out_itself : (a : ℕ) (t : ℤ) → t ≡ pos a → not (int_le t (pos a)) ≡ true → ⊥
out_itself a t is h = grind (arith, ints, is, h)

in_itself : (a : ℕ) (u : ℤ) → u ≡ pos a +ℤ pos 1 → not (int_le u (pos a)) ≡ false → ⊥
in_itself a u next h = grind (arith, ints, next, h)

order : (a b : ℕ) → (a < b) ⊎ (b ≤ a)
order a zero = inr (omega arith)
order zero (suc b) = inl (omega arith)
order (suc a) (suc b) = elim (order a b) [ inl h ↦ inl (omega (arith, h)) | inr h ↦ inr (omega (arith, h)) ]

module _ (ds : List Direction) (keys : List Row) (up : IsInWindowOrder ds keys) (here : ℕ) (inside : here < length keys) (t u : ℤ) (first past : ℕ)
    (is : t ≡ pos (peer_group ds keys here)) (next : u ≡ pos (peer_group ds keys here) +ℤ pos 1)
    (low : CutsPlaces (λ k. not (int_le t (pos (peer_group ds keys k)))) (length keys) first) (high : CutsPlaces (λ k. not (int_le u (pos (peer_group ds keys k)))) (length keys) past) where
  peer : (k : ℕ) → k < length keys → (b : Bool) → is_eq (nat_cmp (peer_group ds keys here) (peer_group ds keys k)) ≡ b → are_peers ds keys here k ≡ b
  peer k within b h = ap is_eq (keys-as_numbers ds keys up here k inside within) ∙ h

  pub first_is : first ≤ here
  first_is = elim (order here first) [
    | inl h ↦ absurd (out_itself (peer_group ds keys here) t is (low.ahead here h))
    | inr h ↦ h
  ]

  pub past_is : here < past
  past_is = elim (order here past) [
    | inl h ↦ h
    | inr h ↦ absurd (in_itself (peer_group ds keys here) u next (high.behind here h inside))
  ]

  pub peers_between : IsRangeOf (are_peers ds keys here) first past (length keys)
  peers_between = record {
    ordered = let a = first_is in let b = past_is in omega (arith, a, b);
    within = high.within;
    before = λ k h. peer k (omega (arith, h, low.within)) false (not_peer_before _ _ t is (low.ahead k h));
    inside = λ k from to. let within : k < length keys = omega (arith, to, high.within) in
        peer k within true (peer_between _ _ t u is next (low.behind k from within) (high.ahead k to));
    behind = λ k from within. peer k within false (not_peer_behind _ _ u next (high.behind k from within));
  }

-- ---- the frame

yes : (f t o : Bool) → not f ≡ false → t ≡ true → o ≡ false → (f && (t && not o)) ≡ true
yes true true false p q r = refl
yes true true true p q r = absurd (false≢true (sym r))
yes true false o p q r = absurd (false≢true q)
yes false t o p q r = absurd (false≢true (sym p))

not_from : (f t o : Bool) → not f ≡ true → (f && (t && not o)) ≡ false
not_from false t o p = refl
not_from true t o p = absurd (false≢true p)

not_to : (f t o : Bool) → t ≡ false → (f && (t && not o)) ≡ false
not_to false t o p = refl
not_to true false o p = refl
not_to true true o p = absurd (false≢true (sym p))

taken_out : (f t o : Bool) → o ≡ true → (f && (t && not o)) ≡ false
taken_out false t o p = refl
taken_out true false o p = refl
taken_out true true true p = refl
taken_out true true false p = absurd (false≢true p)

-- within the bounds of an interval
abbrev pub within_bounds : ℕ → ℕ → ℕ → ℕ
within_bounds start end x = min (max x start) end

module _ (F T O : ℕ → Bool) (start over size : ℕ) (gap : Gap) (from : CutsPlaces (λ k. not (F k)) size start) (to : CutsPlaces T size over) (out : IsTaken O gap size) where
  pub union : IsUnion (λ k. F k && (T k && not (O k)))
      (record { start = start; from = within_bounds start (max over start) gap.first; middle = within_bounds start (max over start) gap.middle; after = within_bounds start (max over start) gap.after; to = within_bounds start (max over start) gap.past; end = max over start })
      size
  union =
      let first = from.within in
      let last = to.within in
      record {
        a = omega arith;
        b = omega (arith, out.a);
        c = omega (arith, out.b);
        d = omega (arith, out.c);
        e = omega arith;
        within = omega (arith, first, last);
        ahead = λ k h. not_from (F k) (T k) (O k) (from.ahead k h);
        front = λ k low high. yes (F k) (T k) (O k) (from.behind k low (omega (arith, last))) (to.ahead k (omega arith)) (out.before k (omega arith));
        gap = λ k low high. taken_out (F k) (T k) (O k) (out.taken k (omega arith) (omega arith));
        inside = λ k low high. yes (F k) (T k) (O k) (from.behind k (omega arith) (omega (arith, last))) (to.ahead k (omega arith)) (out.kept k (omega arith) (omega arith));
        gap_after = λ k low high. taken_out (F k) (T k) (O k) (out.taken_after k (omega arith) (omega arith));
        back = λ k low high. yes (F k) (T k) (O k) (from.behind k (omega arith) (omega (arith, last))) (to.ahead k (omega arith)) (out.behind k (omega arith) (omega (arith, last)));
        behind = λ k low high. not_to (F k) (T k) (O k) (to.behind k (omega arith) high);
      }
