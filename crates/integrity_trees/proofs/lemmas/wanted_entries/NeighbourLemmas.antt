-- Entries in order: those with the same first values stand together.
use Rattle.std.proofs.Common.{◌≡◌, ◌≢◌, ℕ, zero, suc, ◌+◌, ◌<◌, ◌≤◌, List, [], ◌∷◌, Contains, Some, None, slice_get, get_or, length, map, take, refl, sym, ap, ◌∙◌, subst, ⊎_elim, arith}
use Rattle.std.proofs.lemmas.Bool.{cases_lt}
use Rattle.std.proofs.lemmas.Option.{slice_get_within, slice_get-get_or, get_or_from_slice_get}
use Rattle.values.specs.Row.{Row}
use Rattle.integrity_trees.specs.wanted_entries.Bags.{IsOnce}
use Rattle.integrity_trees.specs.wanted_entries.Unique.{Agree, AreApart, AreTogether, HasNoNull, IsNotUnique, IsPrefixCount, IsRunCount, none, one, same, more}
use Rattle.integrity_trees.proofs.lemmas.wanted_entries.BagLemmas.{cons_cases, in_head, in_tail}

-- an element of a mapped list is what an element gives
from_map : {X Y : Type 0} (f : X → Y) (y : Y) (xs : List X) → Contains (map f xs) y → (k : ℕ) × (x : X) × (slice_get xs k ≡ Some x) × (f x ≡ y)
from_map f y [] h = absurd (omega (arith, h.1))
from_map f y (x ∷ xs) h = ⊎_elim
    (λ (e : f x ≡ y). (0, x, refl, e))
    (λ (there : Contains (map f xs) y). let r = from_map f y xs there in (suc r.0, r.1, r.2, r.3))
    (cons_cases (f x) y (map f xs) h)

-- a list with one element more in front
pub once_cons : {X : Type 0} (x : X) (xs : List X) → IsOnce xs → ¬ Contains xs x → IsOnce (x ∷ xs)
once_cons x xs once new zero zero y at_i at_j = refl
once_cons x xs once new zero (suc j) y at_i at_j = let e : x ≡ y = cc in absurd (new (subst (λ (z : _). Contains xs z) (sym e) (found j y at_j)))
  where
    found : (k : ℕ) (z : _) → slice_get xs k ≡ Some z → Contains xs z
    found k z at = (k, slice_get_within xs k z at, get_or_from_slice_get xs k z z at)
once_cons x xs once new (suc i) zero y at_i at_j = let e : x ≡ y = cc in absurd (new (subst (λ (z : _). Contains xs z) (sym e) (found i y at_i)))
  where
    found : (k : ℕ) (z : _) → slice_get xs k ≡ Some z → Contains xs z
    found k z at = (k, slice_get_within xs k z at, get_or_from_slice_get xs k z z at)
once_cons x xs once new (suc i) (suc j) y at_i at_j = ap suc (once i j y at_i at_j)

module _ (width : ℕ) where
  together_tail : (a : Row) (entries : List Row) → AreTogether width (a ∷ entries) → AreTogether width entries
  together_tail a entries together i j k x y z less most at_i at_j at_k agree =
      together (suc i) (suc j) (suc k) x y z (omega (arith, less)) (omega (arith, most)) at_i at_j at_k agree

  -- the first values of an entry that differ from the next one's aren't met again
  apart : (a b : Row) (rest : List Row) → AreTogether width (a ∷ b ∷ rest) → ¬ Agree width a b → ¬ Contains (map (take width) (b ∷ rest)) (take width a)
  apart a b rest together differ h = ⊎_elim
      (λ (e : take width b ≡ take width a). differ (sym e))
      (λ (there : Contains (map (take width) rest) (take width a)).
      let r = from_map (take width) (take width a) rest there in
      differ (together 0 1 (suc (suc r.0)) a b r.1 (omega arith) (omega arith) refl refl r.2 (sym r.3)))
      (cons_cases (take width b) (take width a) (map (take width) rest) h)

  pub count_of : (entries : List Row) (count : ℕ) → AreTogether width entries → IsRunCount width entries count → IsPrefixCount width entries count
  count_of [] zero together none = record { prefixes = []; once = λ i j x at_i at_j. absurd (let f : None ≡ Some x = at_i in cc); all = λ x h. h; only = λ x h. h; count_is = refl }
  count_of [] (suc count) together h = elim h [ ]
  count_of (a ∷ []) zero together h = elim h [ ]
  count_of (a ∷ []) (suc (suc count)) together h = elim h [ ]
  count_of (a ∷ []) (suc zero) together one = record {
    prefixes = take width a ∷ [];
    once = once_cons (take width a) [] (λ i j x at_i at_j. absurd (let f : None ≡ Some x = at_i in cc)) (λ h. omega (arith, h.1));
    all = λ x h. h;
    only = λ x h. h;
    count_is = refl;
  }
  count_of (a ∷ b ∷ rest) count together (same agree runs) =
      let r = count_of (b ∷ rest) count (together_tail a (b ∷ rest) together) runs in
      record {
        prefixes = r.prefixes;
        once = r.once;
        all = λ x h. ⊎_elim
            (λ (e : take width a ≡ x). r.all x (subst (λ (y : Row). Contains (map (take width) (b ∷ rest)) y) (sym agree ∙ e) (in_head (take width b) (map (take width) rest))))
            (λ (there : Contains (map (take width) (b ∷ rest)) x). r.all x there)
            (cons_cases (take width a) x (map (take width) (b ∷ rest)) h);
        only = λ x h. in_tail (take width a) x (map (take width) (b ∷ rest)) (r.only x h);
        count_is = r.count_is;
      }
  count_of (a ∷ b ∷ rest) (suc count) together (more differ runs) =
      let r = count_of (b ∷ rest) count (together_tail a (b ∷ rest) together) runs in
      record {
        prefixes = take width a ∷ r.prefixes;
        once = once_cons (take width a) r.prefixes r.once (λ h. apart a b rest together differ (r.only (take width a) h));
        all = λ x h. ⊎_elim
            (λ (e : take width a ≡ x). subst (λ (y : Row). Contains (take width a ∷ r.prefixes) y) e (in_head (take width a) r.prefixes))
            (λ (there : Contains (map (take width) (b ∷ rest)) x). in_tail (take width a) x r.prefixes (r.all x there))
            (cons_cases (take width a) x (map (take width) (b ∷ rest)) h);
        only = λ x h. ⊎_elim
            (λ (e : take width a ≡ x). subst (λ (y : Row). Contains (map (take width) (a ∷ b ∷ rest)) y) e (in_head (take width a) (map (take width) (b ∷ rest))))
            (λ (there : Contains r.prefixes x). in_tail (take width a) x (map (take width) (b ∷ rest)) (r.only x there))
            (cons_cases (take width a) x r.prefixes h);
        count_is = ap suc r.count_is;
      }

  -- of two entries that agree the first agrees with its neighbour
  neighbour : (entries : List Row) → AreTogether width entries → AreApart width entries → (i j : ℕ) (a b : Row) → i < j
      → slice_get entries i ≡ Some a → slice_get entries j ≡ Some b → HasNoNull (take width a) → ¬ Agree width a b
  neighbour entries together parted i j a b less at_i at_j full agree =
      let last : j < length entries = slice_get_within entries j b at_j in
      let there : slice_get entries (i + 1) ≡ Some (get_or entries (i + 1) a) = slice_get-get_or entries (i + 1) a (omega (arith, less, last)) in
      let c : Row = get_or entries (i + 1) a in
      ⊎_elim
      (λ (before : i + 1 < j). parted i a c at_i there full (together i (i + 1) j a c b (omega arith) before at_i there at_j agree))
      (λ (most : j ≤ i + 1). let e : i + 1 ≡ j = omega (arith, less) in
      parted i a b at_i (subst (λ (k : ℕ). slice_get entries k ≡ Some b) (sym e) at_j) full agree)
      (cases_lt (i + 1) j)

  pub unique_of : (entries : List Row) → AreTogether width entries → AreApart width entries → ¬ IsNotUnique width entries
  unique_of entries together parted two = ⊎_elim
      (λ (less : two.one < two.other). neighbour entries together parted two.one two.other two.a two.b less two.one_at two.other_at two.full two.agree)
      (λ (least : two.other ≤ two.one).
      let after : two.other < two.one = let ne : two.one ≢ two.other = two.differ in omega arith in
      neighbour entries together parted two.other two.one two.b two.a after two.other_at two.one_at
      (subst (λ (x : Row). HasNoNull x) two.agree two.full) (sym two.agree))
      (cases_lt two.one two.other)
