-- A number that is searched among the numbers of some values.
use Rattle.std.proofs.Common.{◌≡◌, ◌∙◌, ◌+◌, ◌-◌, ◌++◌, ◌<◌, ◌<ℤ◌, ◌≤◌, ◌⊎◌, false, ℕ, ℤ, Bool, None, append-nil, map, take, Ordering, Less, Equal, Greater, is_lt, List, [], ◌∷◌, Ok, Err, Result, get_or, is_eq, length, refl, sym, ap, inl, inr, arith, ◌||◌, pos}
use Rattle.std.proofs.lemmas.Bool.{cases_lt}
use Rattle.std.proofs.lemmas.Cmp.{int_cmp_total, int_ranked}
use Rattle.std.proofs.lemmas.Int.{ints}
use Rattle.std.proofs.lemmas.List.{map-append, take_more}
use Rattle.std.proofs.lemmas.List.Elements.{All-from_get_or, filter_map-append}
use Rattle.std.proofs.lemmas.List.Folds.{list_any_at, list_any_none}
use Rattle.std.proofs.lemmas.List.Sorted.{list_any-IsPermutation, ranks_by, searchable_from_sorted, sorted_far}
use Rattle.std.specs.List.{cons_option, filter_map, list_any}
use Rattle.std.specs.List.Sorted.{IsBinarySearchResult, IsPartitionPoint, IsSearchInRange}
use Rattle.std.specs.Ordering.{int_cmp, ordering_reverse}
use Rattle.std.specs.Result.{is_ok}
use Rattle.values.specs.Datum.{Datum, datum_of, null, int, text, blob}
use Rattle.values.specs.declared.value.Value.{Value}
use Rattle.values.specs.declared.value.Value.TheVariants.{Null, Int, Text, Blob}
use Rattle.expr.specs.value_sets.Numbers.{AreNumbersOf, number_in}
use Rattle.expr.specs.value_sets.Order.{is_among}

-- what is read of the values in front of a place, and of the one there
one_more : (values : List Value) (i : ℕ) (v : Value) → i < length values → v ≡ get_or values i v
    → filter_map number_in (map datum_of (take (i + 1) values)) ≡ filter_map number_in (map datum_of (take i values)) ++ cons_option (number_in (datum_of v)) []
one_more values i v within is =
    ap (λ vs. filter_map number_in (map datum_of vs)) (take_more values i v within)
    ∙ ap (filter_map number_in) (map-append datum_of (take i values) (get_or values i v ∷ []))
    ∙ filter_map-append number_in (map datum_of (take i values)) (datum_of (get_or values i v) ∷ [])
    ∙ ap (λ x. filter_map number_in (map datum_of (take i values)) ++ cons_option (number_in (datum_of x)) []) (sym is)

pub number_more : (values : List Value) (i : ℕ) (v : Value) (n : ℤ) → i < length values → v ≡ get_or values i v → v ≡ Int n
    → filter_map number_in (map datum_of (take (i + 1) values)) ≡ filter_map number_in (map datum_of (take i values)) ++ n ∷ []
number_more values i v n within is number =
    one_more values i v within is
    ∙ ap (λ x. filter_map number_in (map datum_of (take i values)) ++ cons_option (number_in (datum_of x)) []) number

no_number : (v : Value) → ((n : ℤ) → v ≡ Int n → ⊥) → number_in (datum_of v) ≡ None
no_number Null other = refl
no_number (Int n) other = absurd (other n refl)
no_number (Text s) other = refl
no_number (Blob s) other = refl

pub other_more : (values : List Value) (i : ℕ) (v : Value) → i < length values → v ≡ get_or values i v → ((n : ℤ) → v ≡ Int n → ⊥)
    → filter_map number_in (map datum_of (take (i + 1) values)) ≡ filter_map number_in (map datum_of (take i values))
other_more values i v within is other =
    one_more values i v within is
    ∙ ap (λ o. filter_map number_in (map datum_of (take i values)) ++ cons_option o []) (no_number v other)
    ∙ append-nil (filter_map number_in (map datum_of (take i values)))

-- a number is one of these
abbrev pub is_number : ℤ → List ℤ → Bool
is_number n numbers = list_any (λ m. is_eq (int_cmp n m)) numbers

-- only numbers equal a number
pub among_numbers : (n : ℤ) (values : List Datum) → is_number n (filter_map number_in values) ≡ is_among (int n) values
among_numbers n [] = refl
among_numbers n (null ∷ values) = among_numbers n values
among_numbers n (int m ∷ values) = ap (λ b. is_eq (int_cmp n m) || b) (among_numbers n values)
among_numbers n (text s ∷ values) = among_numbers n values
among_numbers n (blob s ∷ values) = among_numbers n values

turned : (n m : ℤ) (o : Ordering) → int_cmp m n ≡ o → is_eq (int_cmp n m) ≡ is_eq (ordering_reverse o)
turned n m o e = ap is_eq (int_cmp_total.antisymm n m ∙ ap ordering_reverse e)

-- what is less than a number is none of those that are no less, and what is greater none of those that are no greater
below_cases : (n least m : ℤ) (r s : Ordering) → r ≡ int_cmp m least → s ≡ int_cmp n m → n <ℤ least → is_lt r ≡ false → is_eq s ≡ false
below_cases n least m r Less to_least to_n less h = refl
below_cases n least m r Greater to_least to_n less h = refl
below_cases n least m Less Equal to_least to_n less h = h
below_cases n least m Equal Equal to_least to_n less h =
    let same : m ≡ least = int_ranked m least Equal to_least in
    let it : n ≡ m = int_ranked n m Equal to_n in
    absurd (omega (arith, ints))
below_cases n least m Greater Equal to_least to_n less h =
    let more : least <ℤ m = int_ranked m least Greater to_least in
    let it : n ≡ m = int_ranked n m Equal to_n in
    absurd (omega (arith, ints))

above_cases : (n greatest m : ℤ) (r s : Ordering) → r ≡ int_cmp greatest m → s ≡ int_cmp n m → greatest <ℤ n → is_lt r ≡ false → is_eq s ≡ false
above_cases n greatest m r Less to_greatest to_n more h = refl
above_cases n greatest m r Greater to_greatest to_n more h = refl
above_cases n greatest m Less Equal to_greatest to_n more h = h
above_cases n greatest m Equal Equal to_greatest to_n more h =
    let same : greatest ≡ m = int_ranked greatest m Equal to_greatest in
    let it : n ≡ m = int_ranked n m Equal to_n in
    absurd (omega (arith, ints))
above_cases n greatest m Greater Equal to_greatest to_n more h =
    let less : m <ℤ greatest = int_ranked greatest m Greater to_greatest in
    let it : n ≡ m = int_ranked n m Equal to_n in
    absurd (omega (arith, ints))

module _ (values : List Datum) (numbers : List ℤ) (n : ℤ) (are : AreNumbersOf values numbers) where
  far : (i j : ℕ) → i ≤ j → j < length numbers → is_lt (int_cmp (get_or numbers j (pos 0)) (get_or numbers i (pos 0))) ≡ false
  far i j most inside = sorted_far (λ a b. is_lt (int_cmp a b)) (ranks_by int_cmp_total (λ (m : ℤ). m)) numbers are.ascends i j (pos 0) most inside

  -- a number that none of them is equals none of the values
  none_among : ((at : ℕ) → at < length numbers → is_eq (int_cmp n (get_or numbers at (pos 0))) ≡ false) → is_among (int n) values ≡ false
  none_among none =
      sym (among_numbers n values) ∙ list_any-IsPermutation (λ m. is_eq (int_cmp n m)) (filter_map number_in values) numbers are.same
      ∙ list_any_none (λ m. is_eq (int_cmp n m)) numbers (All-from_get_or (λ m. is_eq (int_cmp n m) ≡ false) numbers (pos 0) none)

  pub below_all : n <ℤ get_or numbers 0 (pos 0) → is_among (int n) values ≡ false
  below_all less = none_among (λ at inside. below_cases n (get_or numbers 0 (pos 0)) (get_or numbers at (pos 0)) _ _ refl refl less (far 0 at (omega arith) inside))

  pub above_all : 0 < length numbers → get_or numbers (length numbers - 1) (pos 0) <ℤ n → is_among (int n) values ≡ false
  above_all some more = none_among (λ at inside. above_cases n (get_or numbers (length numbers - 1) (pos 0)) (get_or numbers at (pos 0)) _ _ refl refl more (far at (length numbers - 1) (omega arith) (omega arith)))

  pub among_none : length numbers ≡ 0 → is_among (int n) values ≡ false
  among_none none = none_among (λ at inside. absurd (omega arith))

  side : (cut : ℕ) → IsPartitionPoint (λ m. int_cmp m n ≡ Less) (λ m. int_cmp m n ≡ Greater) numbers cut
      → (at : ℕ) → at < length numbers → (at < cut) ⊎ (cut ≤ at) → is_eq (int_cmp n (get_or numbers at (pos 0))) ≡ false
  side cut parts at inside (inl before) = turned n (get_or numbers at (pos 0)) Less (parts.0 at (pos 0) (omega arith) before)
  side cut parts at inside (inr after) = turned n (get_or numbers at (pos 0)) Greater (parts.1 at (pos 0) after inside)

  searched_numbers : (r : Result ℕ ℕ) → IsSearchInRange r (length numbers) → IsBinarySearchResult (λ m. int_cmp m n) numbers r → is_ok r ≡ is_number n numbers
  searched_numbers (Ok i) within found =
      sym (list_any_at (λ m. is_eq (int_cmp n m)) numbers i (pos 0) within (turned n (get_or numbers i (pos 0)) Equal (found (pos 0))))
  searched_numbers (Err cut) within parts =
      sym (list_any_none (λ m. is_eq (int_cmp n m)) numbers (All-from_get_or (λ m. is_eq (int_cmp n m) ≡ false) numbers (pos 0)
      (λ at inside. side cut (parts (searchable_from_sorted int_cmp_total (λ (m : ℤ). m) numbers n are.ascends)) at inside (cases_lt at cut))))

  -- the search by halves tells whether it is one of the values
  pub searched_number : (r : Result ℕ ℕ) → IsSearchInRange r (length numbers) → IsBinarySearchResult (λ m. int_cmp m n) numbers r → is_ok r ≡ is_among (int n) values
  searched_number r within place =
      searched_numbers r within place ∙ sym (list_any-IsPermutation (λ m. is_eq (int_cmp n m)) (filter_map number_in values) numbers are.same) ∙ among_numbers n values
