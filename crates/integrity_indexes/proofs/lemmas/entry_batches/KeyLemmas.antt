-- Keys that ascend, and a key that is looked for.
use Rattle.std.proofs.Common.{rules, arith, ◌≡◌, ◌⊎◌, ◌-◌, ◌<◌, ◌≤◌, ◌<ℤ◌, ◌≤ℤ◌, ◌∙◌, ℕ, zero, suc, ℤ, Contains, List, [], ◌∷◌, ◌++◌, None, Some, get_or, length, slice_get, true, false, refl, sym, ap, subst, inl, inr, ⊎_elim}
use Rattle.std.proofs.lemmas.Bool.{cases_lt}
use Rattle.std.proofs.lemmas.Int.{ints}
use Rattle.std.proofs.lemmas.Option.{slice_get-get_or, slice_get_within, get_or_from_slice_get, slice_get_read}
use Rattle.integrity_trees.specs.wanted_entries.Bags.{Coded}
use lib.Signed.{lt_z}
use Rattle.integrity_indexes.specs.declared.entry_batches.batch.Slot.{Slot}
use Rattle.integrity_indexes.specs.entry_batches.Batches.{AreBelow, Ascend, ComeBefore, HasKeyAt, code_at, coded}
use Rattle.integrity_indexes.proofs.lemmas.entry_batches.CutLemmas.{HasSlot, coded_at, has_slot}

-- what a list with one more element at its end has at a place
pushed : (slots : List Slot) (slot : Slot) (i : ℕ) (x : Slot) → slice_get (slots ++ slot ∷ []) i ≡ Some x
    → (slice_get slots i ≡ Some x) ⊎ ((i ≡ length slots) × (slot ≡ x))
pushed [] slot zero x at = let e : Some slot ≡ Some x = at in inr (refl, cc)
pushed [] slot (suc i) x at = let e : None ≡ Some x = at in cc
pushed (first ∷ slots) slot zero x at = inl at
pushed (first ∷ slots) slot (suc i) x at = ⊎_elim
    (λ (before : slice_get slots i ≡ Some x). inl before)
    (λ (last : (i ≡ length slots) × (slot ≡ x)). inr (ap suc last.0, last.1))
    (pushed slots slot i x at)

get_contains : (entries : List Coded) (place : ℕ) (entry : Coded) → slice_get entries place ≡ Some entry → Contains entries entry
get_contains entries place entry at = (place, slice_get_within entries place entry at, get_or_from_slice_get entries place entry entry at)

contained : (slots : List Slot) (codes : List ℕ) (key : ℤ) (code : List ℕ) → Contains (coded 0 slots codes) (record { key = key; code = code })
    → HasSlot 0 slots codes (record { key = key; code = code })
contained slots codes key code h = has_slot 0 slots codes h.0 (record { key = key; code = code })
    (slice_get_read (coded 0 slots codes) (length (coded 0 slots codes)) h.0 (record { key = key; code = code }) refl h.1 (sym h.2))

pub less_true : (a b : ℤ) → lt_z a b ≡ true → a <ℤ b
less_true a b e = first_of (search rules, omega (arith, ints))

pub true_less : (a b : ℤ) → a <ℤ b → lt_z a b ≡ true
true_less a b less = first_of (search rules, omega (arith, ints, less))

pub less_false : (a b : ℤ) → lt_z a b ≡ false → b ≤ℤ a
less_false a b e = first_of (search rules, omega (arith, ints))

module _ (slots : List Slot) (ascend : Ascend slots) (key : ℤ) (middle : ℕ) (here : Slot) (at_middle : slice_get slots middle ≡ Some here) where
  pub below : here.key <ℤ key → (i : ℕ) (slot : Slot) → i ≤ middle → slice_get slots i ≡ Some slot → slot.key <ℤ key
  below less i slot most at = ⊎_elim
      (λ (before : i < middle). let l : slot.key <ℤ here.key = ascend i middle slot here before at at_middle in omega (arith, ints))
      (λ (not : middle ≤ i).
      let e : i ≡ middle = omega (arith, most, not) in
      let same : Some slot ≡ Some here = sym at ∙ ap (λ (k : ℕ). slice_get slots k) e ∙ at_middle in
      let f : slot ≡ here = cc in
      subst (λ (s : Slot). s.key <ℤ key) (sym f) less)
      (cases_lt i middle)

  pub above : key ≤ℤ here.key → (i : ℕ) (slot : Slot) → middle ≤ i → slice_get slots i ≡ Some slot → key ≤ℤ slot.key
  above least i slot most at = ⊎_elim
      (λ (before : middle < i). let l : here.key <ℤ slot.key = ascend middle i here slot before at_middle at in omega (arith, ints))
      (λ (not : i ≤ middle).
      let e : i ≡ middle = omega (arith, most, not) in
      let same : Some slot ≡ Some here = sym at ∙ ap (λ (k : ℕ). slice_get slots k) e ∙ at_middle in
      let f : slot ≡ here = cc in
      subst (λ (s : Slot). key ≤ℤ s.key) (sym f) least)
      (cases_lt middle i)

-- one place has a key
pub one_place : (slots : List Slot) → Ascend slots → (i j : ℕ) (a b : Slot) → slice_get slots i ≡ Some a → slice_get slots j ≡ Some b
    → a.key ≡ b.key → i ≡ j
one_place slots ascend i j a b at_i at_j same = ⊎_elim
    (λ (less : i < j). let l : a.key <ℤ b.key = ascend i j a b less at_i at_j in absurd (omega (arith, ints, l, same)))
    (λ (least : j ≤ i). ⊎_elim
    (λ (less : j < i). let l : b.key <ℤ a.key = ascend j i b a less at_j at_i in absurd (omega (arith, ints, l, same)))
    (λ (most : i ≤ j). omega (arith, least, most))
    (cases_lt j i))
    (cases_lt i j)

-- every key before a place is less, every key from it on is no less, and the key there is another
pub absent : (slots : List Slot) → Ascend slots → (key : ℤ) (low high : ℕ)
    → ((i : ℕ) (slot : Slot) → i < low → slice_get slots i ≡ Some slot → slot.key <ℤ key)
    → ((i : ℕ) (slot : Slot) → high ≤ i → slice_get slots i ≡ Some slot → key ≤ℤ slot.key) → high ≤ low
    → ((slot : Slot) → slice_get slots low ≡ Some slot → slot.key ≡ key → ⊥) → (place : ℕ) → HasKeyAt slots key place → ⊥
absent slots ascend key low high under over met other place has = ⊎_elim
    (λ (before : place < low). let l : has.slot.key <ℤ key = under place has.slot before has.at in let e = has.key_is in absurd (omega (arith, ints, l, e)))
    (λ (not : low ≤ place). ⊎_elim
    (λ (after : low < place).
    let within = slice_get_within slots place has.slot has.at in
    let here : slice_get slots low ≡ Some (get_or slots low has.slot) = slice_get-get_or slots low has.slot (omega (arith, after, within)) in
    let l : (get_or slots low has.slot).key <ℤ has.slot.key = ascend low place (get_or slots low has.slot) has.slot after here has.at in
    let m : key ≤ℤ (get_or slots low has.slot).key = over low (get_or slots low has.slot) met here in
    let e = has.key_is in
    absurd (omega (arith, ints, l, m, e)))
    (λ (no : place ≤ low).
    let e : place ≡ low = omega (arith, not, no) in
    other has.slot (subst (λ (k : ℕ). slice_get slots k ≡ Some has.slot) e has.at) has.key_is)
    (cases_lt low place))
    (cases_lt place low)

-- where the last key is less, all are
pub all_below : (slots : List Slot) → Ascend slots → (key : ℤ) (last : Slot) → slice_get slots (length slots - 1) ≡ Some last → last.key <ℤ key
    → AreBelow key slots
all_below slots ascend key last at less place slot here =
    let within = slice_get_within slots place slot here in
    below slots ascend key (length slots - 1) last at less place slot (omega (arith, within)) here

pub ascend_push : (slots : List Slot) (slot : Slot) → Ascend slots → AreBelow slot.key slots → Ascend (slots ++ slot ∷ [])
ascend_push slots slot ascend less i j a b before at_i at_j = ⊎_elim
    (λ (old_b : slice_get slots j ≡ Some b). ⊎_elim
    (λ (old_a : slice_get slots i ≡ Some a). ascend i j a b before old_a old_b)
    (λ (new_a : (i ≡ length slots) × (slot ≡ a)).
    let within = slice_get_within slots j b old_b in
    let e = new_a.0 in
    absurd (omega (arith, within, before, e)))
    (pushed slots slot i a at_i))
    (λ (new_b : (j ≡ length slots) × (slot ≡ b)). ⊎_elim
    (λ (old_a : slice_get slots i ≡ Some a). subst (λ (s : Slot). a.key <ℤ s.key) new_b.1 (less i a old_a))
    (λ (new_a : (i ≡ length slots) × (slot ≡ a)).
    let e = new_a.0 in
    let f = new_b.0 in
    absurd (omega (arith, before, e, f)))
    (pushed slots slot i a at_i))
    (pushed slots slot j b at_j)

-- the keys of entries are those of their slots
pub come_before : (slots : List Slot) (codes : List ℕ) (key : ℤ) → AreBelow key slots → ComeBefore key (coded 0 slots codes)
come_before slots codes key less place entry at =
    let h = has_slot 0 slots codes place entry at in
    subst (λ (n : ℤ). n <ℤ key) h.key_is (less h.place h.slot h.at)

pub are_below : (slots : List Slot) (codes : List ℕ) (key : ℤ) → ComeBefore key (coded 0 slots codes) → AreBelow key slots
are_below slots codes key less place slot at =
    less place (record { key = slot.key; code = code_at 0 slots codes place }) (coded_at 0 slots codes place slot at)

-- an entry of this key with this code stands at a place that has the key
pub has_entry : (slots : List Slot) (codes : List ℕ) (key : ℤ) (code : List ℕ) (place : ℕ) → HasKeyAt slots key place
    → code_at 0 slots codes place ≡ code → Contains (coded 0 slots codes) (record { key = key; code = code })
has_entry slots codes key code place has same =
    get_contains (coded 0 slots codes) place (record { key = key; code = code })
    (coded_at 0 slots codes place has.slot has.at ∙ (λ k. Some (record { key = has.key_is k; code = same k })))

pub entry_code : (slots : List Slot) (codes : List ℕ) (key : ℤ) (code : List ℕ) → Ascend slots → (place : ℕ) → HasKeyAt slots key place
    → Contains (coded 0 slots codes) (record { key = key; code = code }) → code_at 0 slots codes place ≡ code
entry_code slots codes key code ascend place has h =
    let there = contained slots codes key code h in
    let e = one_place slots ascend place there.place has.slot there.slot has.at there.at (has.key_is ∙ sym there.key_is) in
    ap (code_at 0 slots codes) e ∙ there.code_is

pub entry_key : (slots : List Slot) (codes : List ℕ) (key : ℤ) (code : List ℕ)
    → Contains (coded 0 slots codes) (record { key = key; code = code }) → (place : ℕ) × HasKeyAt slots key place
entry_key slots codes key code h =
    let there = contained slots codes key code h in
    (there.place, record { slot = there.slot; at = there.at; key_is = there.key_is })
