-- Along a sequence the places ahead of an edge come first.
use Rattle.std.proofs.Common.{◌≡◌, ◌∙◌, ◌<◌, ◌≤◌, ◌+ℤ◌, ◌-ℤ◌, int_le, Bool, true, false, not, nat_lt, ℕ, zero, suc, ℤ, pos, Ordering, Less, Equal, Greater, List, [], ◌∷◌, length, get_or, if◌then◌else◌, refl, sym, ap, subst, arith}
use Rattle.std.proofs.lemmas.Bool.{false≢true}
use Rattle.std.proofs.lemmas.Bool.Decides.{nat_tests}
use Rattle.std.proofs.lemmas.Int.{ints}
use Rattle.std.specs.Cmp.{IsTotalOrder}
use Rattle.std.specs.Ordering.{is_le, is_lt, nat_cmp, ordering_reverse}
use Rattle.values.specs.Datum.{Datum, null, int, text, blob}
use Rattle.values.specs.Row.{Row}
use Rattle.semantics.specs.Query.{Direction, FrameUnit}
use Rattle.semantics.specs.Sequence.{keys_cmp}
use Rattle.semantics.specs.Windows.{edge_key, moved, peer_group, row_at}
use Rattle.semantics.proofs.KeyLemmas.{keys_cmp_total}
use Rattle.windows_groups.specs.declared.window_order.peers.PeerGroups.{PeerGroups}
use Rattle.windows_groups.specs.window_order.Entries.{IsInWindowOrder}
use Rattle.windows_groups.specs.window_order.Groups.{AreGroups}
use Rattle.windows_groups.proofs.lemmas.window_order.GroupLemmas.{keys-as_numbers}
use Rattle.windows.specs.declared.frames.cuts.Side.{Side}
use Rattle.windows.specs.declared.frames.cuts.Side.TheVariants.{Start, End}
use Rattle.windows.specs.frames.Cuts.{CutsPlaces, ahead, is_end}

pub same_cut : (P Q : ℕ → Bool) (n cut : ℕ) → ((k : ℕ) → k < n → Q k ≡ P k) → CutsPlaces P n cut → CutsPlaces Q n cut
same_cut P Q n cut same is = record {
  within = is.within;
  ahead = λ k h. let inside : k < n = omega (arith, h, is.within) in same k inside ∙ is.ahead k h;
  behind = λ k low high. same k high ∙ is.behind k low high;
}

-- ---- numbers

out : (z : ℤ) (n g : ℕ) → z ≡ pos n → g < n → not (int_le z (pos g)) ≡ true
out z n g is h = grind (arith, ints, is)

in_or_behind : (z : ℤ) (n g : ℕ) → z ≡ pos n → n ≤ g → not (int_le z (pos g)) ≡ false
in_or_behind z n g is h = grind (arith, ints, is)

lt_true : (a b : ℕ) → nat_lt a b ≡ true → a < b
lt_true a b h = grind (arith, nat_tests)

lt_false : (a b : ℕ) → nat_lt a b ≡ false → b ≤ a
lt_false a b h = grind (arith, nat_tests)

lt_yes : (a b : ℕ) → a < b → nat_lt a b ≡ true
lt_yes a b h = grind (arith, nat_tests)

lt_no : (a b : ℕ) → b ≤ a → nat_lt a b ≡ false
lt_no a b h = grind (arith, nat_tests)

-- the places of the groups before one that there is
pub cut_at : (ds : List Direction) (keys : List Row) (groups : PeerGroups) → AreGroups ds keys groups → (group : ℤ) (n s : ℕ) → group ≡ pos n → n < length groups.starts.items → get_or groups.starts.items n 0 ≡ s
    → CutsPlaces (λ k. not (int_le group (pos (peer_group ds keys k)))) (length keys) s
cut_at ds keys groups are group n s is inside start =
    let within : s ≤ length keys = subst (λ t. t ≤ length keys) start (are.within n inside) in
    record {
      within = within;
      ahead = λ k h.
          let here : k < length keys = omega (arith, h, within) in
          out group n (peer_group ds keys k) is (lt_true _ _ (sym (are.cuts n k inside here) ∙ ap (nat_lt k) start ∙ lt_yes k s h));
      behind = λ k low high.
          in_or_behind group n (peer_group ds keys k) is (lt_false _ _ (sym (are.cuts n k inside high) ∙ ap (nat_lt k) start ∙ lt_no k s low));
    }

-- ---- keys

module _ {K : Type 0} (R : K → K → Ordering) (o : IsTotalOrder R) where
  before_too : (c : Ordering) (a b e : K) → R a b ≡ c → is_lt (R b a) ≡ false → is_lt (R b e) ≡ true → is_lt (R a e) ≡ true
  before_too Less a b e is not_back h = ap is_lt (o.trans a b e is (less (R b e) h))
    where
      less : (x : Ordering) → is_lt x ≡ true → x ≡ Less
      less Less p = refl
      less Equal p = absurd cc
      less Greater p = absurd cc
  before_too Equal a b e is not_back h = ap is_lt (o.congr a b e is) ∙ h
  before_too Greater a b e is not_back h = absurd (false≢true (sym not_back ∙ ap is_lt (o.antisymm b a ∙ ap ordering_reverse is)))

  behind_too : (c : Ordering) (a b e : K) → R a b ≡ c → is_lt (R b a) ≡ false → is_lt (R e a) ≡ true → is_lt (R e b) ≡ true
  behind_too Less a b e is not_back h = ap is_lt (o.trans e a b (less (R e a) h) is)
    where
      less : (x : Ordering) → is_lt x ≡ true → x ≡ Less
      less Less p = refl
      less Equal p = absurd cc
      less Greater p = absurd cc
  behind_too Equal a b e is not_back h = ap is_lt (o.antisymm e b ∙ ap ordering_reverse (sym (o.congr a b e is)) ∙ sym (o.antisymm e a)) ∙ h
  behind_too Greater a b e is not_back h = absurd (false≢true (sym not_back ∙ ap is_lt (o.antisymm b a ∙ ap ordering_reverse is)))

not_true : (b : Bool) → not b ≡ true → b ≡ false
not_true true e = absurd (false≢true e)
not_true false e = refl

never_true : (b : Bool) → (b ≡ true → ⊥) → b ≡ false
never_true true h = absurd (h refl)
never_true false h = refl

never_false : (b : Bool) → (b ≡ false → ⊥) → b ≡ true
never_false true h = refl
never_false false h = absurd (h refl)

le_not_back : (c : Ordering) → is_le c ≡ not (is_lt (ordering_reverse c))
le_not_back Less = refl
le_not_back Equal = refl
le_not_back Greater = refl

-- up to an edge is what the edge is not before
pub up_to_edge : (ds : List Direction) (key edge : Row) → is_le (keys_cmp ds key edge) ≡ not (is_lt (keys_cmp ds edge key))
up_to_edge ds key edge = le_not_back (keys_cmp ds key edge) ∙ ap (λ c. not (is_lt c)) (sym ((keys_cmp_total ds).antisymm edge key))

module _ (ds : List Direction) (keys : List Row) (up : IsInWindowOrder ds keys) (here : ℕ) (by : ℤ) where
  -- what stands before a place that is ahead of an edge is ahead of it
  pub ahead_back : (side : Side) (j k : ℕ) → j ≤ k → k < length keys → ahead side ds FrameUnit.range keys here by k ≡ true → ahead side ds FrameUnit.range keys here by j ≡ true
  ahead_back Start j k low high h = before_too (keys_cmp ds) (keys_cmp_total ds) _ (row_at keys j) (row_at keys k) _ refl (up.rises j k low high) h
  ahead_back End j k low high h =
      let edge = edge_key ds by (row_at keys here) in
      let no = not_true _ h in
      ap not (never_true (is_lt (keys_cmp ds edge (row_at keys j)))
      (λ t. false≢true (sym no ∙ behind_too (keys_cmp ds) (keys_cmp_total ds) _ (row_at keys j) (row_at keys k) edge refl (up.rises j k low high) t)))

  pub ahead_on : (side : Side) (j k : ℕ) → j ≤ k → k < length keys → ahead side ds FrameUnit.range keys here by j ≡ false → ahead side ds FrameUnit.range keys here by k ≡ false
  ahead_on side j k low high h = never_true _ (λ t. false≢true (sym h ∙ ahead_back side j k low high t))

-- ---- cuts by numbers

past_number : (z : ℤ) (k : ℕ) → not (not (int_le (pos k) z)) ≡ not (int_le (z +ℤ pos 1) (pos k))
past_number z k = grind (arith, ints)

counted : Side → ℤ → ℤ
counted side z = if is_end side then z +ℤ pos 1 else z

module _ (ds : List Direction) (keys : List Row) (here : ℕ) (by t : ℤ) where
  pub rows_cut : (side : Side) (cut : ℕ) → t ≡ (if is_end side then (pos here +ℤ by) +ℤ pos 1 else (pos here +ℤ by)) → CutsPlaces (λ k. not (int_le t (pos k))) (length keys) cut
      → CutsPlaces (ahead side ds FrameUnit.rows keys here by) (length keys) cut
  rows_cut Start cut is h = same_cut _ _ (length keys) cut (λ k inside. ap (λ z. not (int_le z (pos k))) (sym is)) h
  rows_cut End cut is h = same_cut _ _ (length keys) cut (λ k inside. past_number (pos here +ℤ by) k ∙ ap (λ z. not (int_le z (pos k))) (sym is)) h

  pub groups_cut : (side : Side) (cut : ℕ) → t ≡ (if is_end side then (pos (peer_group ds keys here) +ℤ by) +ℤ pos 1 else (pos (peer_group ds keys here) +ℤ by))
      → CutsPlaces (λ k. not (int_le t (pos (peer_group ds keys k)))) (length keys) cut → CutsPlaces (ahead side ds FrameUnit.groups keys here by) (length keys) cut
  groups_cut Start cut is h = same_cut _ _ (length keys) cut (λ k inside. ap (λ z. not (int_le z (pos (peer_group ds keys k)))) (sym is)) h
  groups_cut End cut is h = same_cut _ _ (length keys) cut
      (λ k inside. past_number (pos (peer_group ds keys here) +ℤ by) (peer_group ds keys k) ∙ ap (λ z. not (int_le z (pos (peer_group ds keys k)))) (sym is)) h

-- ---- no distance

add_none : (n by : ℤ) → by ≡ pos 0 → n +ℤ by ≡ n
add_none n by is = omega (arith, ints, is)

take_none : (n by : ℤ) → by ≡ pos 0 → n -ℤ by ≡ n
take_none n by is = omega (arith, ints, is)

moved_none : (b : Bool) (by : ℤ) (v : Datum) → by ≡ pos 0 → moved b by v ≡ v
moved_none true by (int n) is = ap int (take_none n by is)
moved_none false by (int n) is = ap int (add_none n by is)
moved_none b by null is = refl
moved_none b by (text s) is = refl
moved_none b by (blob s) is = refl

edge_here : (ds : List Direction) (by : ℤ) (key : Row) → by ≡ pos 0 → edge_key ds by key ≡ key
edge_here [] by key is = refl
edge_here (d ∷ ds) by [] is = refl
edge_here (d ∷ ds) by (v ∷ key) is = ap (λ x. x ∷ key) (moved_none d.descending by v is)

less_numbers : (a b : ℕ) (by : ℤ) → by ≡ pos 0 → is_lt (nat_cmp a b) ≡ not (int_le (pos b +ℤ by) (pos a))
less_numbers a b by is = grind (arith, ints, nat_tests, is)

not_more_numbers : (a b : ℕ) (by : ℤ) → by ≡ pos 0 → not (is_lt (nat_cmp b a)) ≡ not (int_le ((pos b +ℤ by) +ℤ pos 1) (pos a))
not_more_numbers a b by is = grind (arith, ints, nat_tests, is)

module _ (ds : List Direction) (keys : List Row) (up : IsInWindowOrder ds keys) (here : ℕ) (inside : here < length keys) (by t : ℤ) (none : by ≡ pos 0) where
  pub peers_cut : (side : Side) (cut : ℕ) → t ≡ (if is_end side then (pos (peer_group ds keys here) +ℤ by) +ℤ pos 1 else (pos (peer_group ds keys here) +ℤ by))
      → CutsPlaces (λ k. not (int_le t (pos (peer_group ds keys k)))) (length keys) cut → CutsPlaces (ahead side ds FrameUnit.range keys here by) (length keys) cut
  peers_cut Start cut is h = same_cut _ _ (length keys) cut
      (λ k within. ap (λ e. is_lt (keys_cmp ds (row_at keys k) e)) (edge_here ds by (row_at keys here) none)
      ∙ ap is_lt (keys-as_numbers ds keys up k here within inside) ∙ less_numbers (peer_group ds keys k) (peer_group ds keys here) by none
      ∙ ap (λ z. not (int_le z (pos (peer_group ds keys k)))) (sym is)) h
  peers_cut End cut is h = same_cut _ _ (length keys) cut
      (λ k within. ap (λ e. not (is_lt (keys_cmp ds e (row_at keys k)))) (edge_here ds by (row_at keys here) none)
      ∙ ap (λ c. not (is_lt c)) (keys-as_numbers ds keys up here k inside within) ∙ not_more_numbers (peer_group ds keys k) (peer_group ds keys here) by none
      ∙ ap (λ z. not (int_le z (pos (peer_group ds keys k)))) (sym is)) h

-- what stands at a place that there is
pub read_at : (xs : List ℕ) (i d e : ℕ) → i < length xs → get_or xs i d ≡ get_or xs i e
read_at [] i d e h = absurd (omega (arith, h))
read_at (x ∷ xs) zero d e h = refl
read_at (x ∷ xs) (suc i) d e h = read_at xs i d e (omega (arith, h))
