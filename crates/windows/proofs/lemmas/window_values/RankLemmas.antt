-- Ranks from peer groups, and buckets.
use Rattle.std.proofs.Common.{◌≡◌, ◌∙◌, ◌<◌, ◌≤◌, Bool, true, false, nat_lt, ℕ, zero, suc, List, [], ◌∷◌, filter, get_or, length, sym, ap, arith}
use Rattle.std.proofs.lemmas.Bool.Decides.{nat_tests}
use Rattle.std.specs.Ordering.{is_lt, nat_cmp}
use Rattle.values.specs.Row.{Row}
use Rattle.semantics.specs.Query.{Direction}
use Rattle.semantics.specs.Windows.{earlier, peer_group, row_at}
use Rattle.windows_groups.specs.declared.window_order.peers.PeerGroups.{PeerGroups}
use Rattle.windows_groups.specs.window_order.Entries.{IsInWindowOrder}
use Rattle.windows_groups.specs.window_order.Groups.{AreGroups}
use Rattle.windows_groups.proofs.lemmas.window_order.GroupLemmas.{keys-as_numbers}

-- what is kept of a list, where it is the first elements
first_kept : (p : Row → Bool) (xs : List Row) (n : ℕ) → n ≤ length xs → ((j : ℕ) → j < length xs → p (row_at xs j) ≡ nat_lt j n) → length (filter p xs) ≡ n
first_kept p [] n h each = omega (arith, h)
first_kept p (x ∷ xs) zero h each =
    let no : p x ≡ false = each 0 (omega arith) in
    rw no (first_kept p xs zero (omega arith) (λ j low. each (suc j) (omega (arith, low)) ∙ no_less (suc j) j))
  where
    no_less : (a b : ℕ) → nat_lt a 0 ≡ nat_lt b 0
    no_less a b = grind (arith, nat_tests)
first_kept p (x ∷ xs) (suc n) h each =
    let yes : p x ≡ true = each 0 (omega arith) ∙ first n in
    let rest = first_kept p xs n (omega (arith, h)) (λ j low. each (suc j) (omega (arith, low)) ∙ less j n) in
    rw yes (ap suc rest)
  where
    first : (n : ℕ) → nat_lt 0 (suc n) ≡ true
    first n = grind (arith, nat_tests)

    less : (a b : ℕ) → nat_lt (suc a) (suc b) ≡ nat_lt a b
    less a b = grind (arith, nat_tests)

less_as_test : (a b : ℕ) → is_lt (nat_cmp a b) ≡ nat_lt a b
less_as_test a b = grind (arith, nat_tests)

-- the rows before a group are those before its first place
pub before_group : (ds : List Direction) (keys : List Row) (groups : PeerGroups) → IsInWindowOrder ds keys → AreGroups ds keys groups → (here : ℕ) → here < length keys
    → (g : ℕ) → g ≡ peer_group ds keys here → get_or groups.starts.items g 0 ≡ length (earlier ds keys (row_at keys here))
before_group ds keys groups up are here inside g is =
    let last = are.last here inside in
    let within : g < length groups.starts.items = omega (arith, last, is) in
    sym (first_kept _ keys (get_or groups.starts.items g 0) (are.within g within)
    (λ j low. ap is_lt (keys-as_numbers ds keys up j here low inside) ∙ less_as_test (peer_group ds keys j) (peer_group ds keys here)
    ∙ ap (nat_lt (peer_group ds keys j)) (sym is) ∙ sym (are.cuts g j within low)))
