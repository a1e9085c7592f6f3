-- The first of many elements in order, kept while they come.
use Rattle.std.proofs.Common.{◌≡◌, ◌∙◌, ◌+◌, ◌-◌, ◌<◌, ◌≤◌, All, Bool, true, false, cond, not, ℕ, zero, suc, List, [], ◌∷◌, ◌++◌, Option, Some, None, Ordering, Less, Equal, Greater, count_by, drop, get_or, length, map, take, append-nil, append_assoc, refl, sym, ap, subst, arith, ⊎_elim, IsPermutation, IsSortedBy}
use Rattle.std.specs.Cmp.{IsStrictWeakOrder}
use Rattle.std.specs.Global.{Vec}
use Rattle.std.specs.List.Sorted.{IsSortedByKey}
use Rattle.std.specs.Ordering.{is_ge, is_lt}
use Rattle.std.proofs.lemmas.Bool.{cases_Bool, both_ways, true_from_ne_false}
use Rattle.std.proofs.lemmas.List.{get_or-take, get_or_read, length-map, length-take, map-append, take-append-drop, take-map}
use Rattle.std.proofs.lemmas.List.Elements.{All-append, All-cons, All-drop, All-head, All-nil, All-push, All-tail, All-weaker}
use Rattle.std.proofs.lemmas.List.Sorted.{IsPermutation-append_comm, IsPermutation-append_left, IsPermutation-append_right, IsPermutation-cons, IsPermutation-map, IsPermutation-refl, IsPermutation-trans, ranks_by, sorted_far, sum_by-IsPermutation, All-permutation}
use Rattle.std.proofs.lemmas.List.Sums.{sum_by-append, sum_by-cons}
use Rattle.values.specs.Datum.{datum_of}
use Rattle.values.specs.Row.{Row, rows_data}
use Rattle.values.specs.declared.value.Value.{Value}
use Rattle.semantics.specs.Sequence.{ascending, keys_cmp}
use Rattle.semantics.proofs.KeyLemmas.{keys_cmp_total}
use Rattle.semantics.proofs.OrderLemmas.{IsSortedBy-rises, IsUnder, Rises, ascending-itself, ascending-rises, ascending-same}
use Rattle.windows_groups.specs.declared.order.ResultKey.{ResultKey}
use Rattle.windows_groups.specs.Firsts.{AreAtMost, BeginsAll, HasRoom, IsBehind, IsKeptOf, KeepsOf, at_most}
use Rattle.windows_groups.specs.Keys.{comes_before, directions, key_values}

get_map : {X Y : Type 0} (f : X → Y) (xs : List X) (i : ℕ) (x : X) (y : Y) → i < length xs → get_or (map f xs) i y ≡ f (get_or xs i x)
get_map f [] i x y within = absurd (omega (arith, within))
get_map f (z ∷ xs) zero x y within = refl
get_map f (z ∷ xs) (suc i) x y within = get_map f xs i x y (omega (arith, within))

pub sorted_map : {X Y : Type 0} (lt : Y → Y → Bool) (f : X → Y) (xs : List X) → IsSortedBy (λ x y. lt (f x) (f y)) xs → IsSortedBy lt (map f xs)
sorted_map lt f [] sorted k d low within = absurd (omega (arith, within))
sorted_map lt f (x ∷ xs) sorted k d low within =
    let long = length-map (x ∷ xs) f in
    let short : k + 1 < length (x ∷ xs) = omega (arith, within, long) in
    rw (get_map f (x ∷ xs) (k + 1) x d short, get_map f (x ∷ xs) k x d (omega (arith, short))) (sorted k x low short)

-- two rows of a permutation change sides
pub ends_turned : {X : Type 0} (xs ys zs : List X) → IsPermutation ((xs ++ ys) ++ zs) ((xs ++ zs) ++ ys)
ends_turned xs ys zs =
    rw (append_assoc xs ys zs, append_assoc xs zs ys) (IsPermutation-append_right xs (ys ++ zs) (zs ++ ys) (IsPermutation-append_comm ys zs))

module _ {X : Type 0} (less : X → X → Bool) where
  -- how many are not behind an element
  abbrev before : X → List X → ℕ
  before x ys = count_by (λ y. not (less x y)) ys

  before-cons : (x y : X) (ys : List X) → less x y ≡ false → before x (y ∷ ys) ≡ 1 + before x ys
  before-cons x y ys is = sum_by-cons (λ y. cond (not (less x y)) 1 0) y ys ∙ ap (λ b. cond (not b) 1 0 + before x ys) is

  before-cons_none : (x y : X) (ys : List X) → less x y ≡ true → before x (y ∷ ys) ≡ 0 + before x ys
  before-cons_none x y ys is = sum_by-cons (λ y. cond (not (less x y)) 1 0) y ys ∙ ap (λ b. cond (not b) 1 0 + before x ys) is

  -- those that are behind some are behind more, and behind a permutation
  pub IsBehind-more : (most : Option ℕ) (kept more : List X) (x : X) → IsBehind less most kept x → IsBehind less most (kept ++ more) x
  IsBehind-more None kept more x is = is
  IsBehind-more (Some most) kept more x is = let long = sum_by-append (λ y. cond (not (less x y)) 1 0) kept more in omega (arith, is, long)

  IsBehind-same : (most : Option ℕ) (kept others : List X) (x : X) → IsPermutation kept others → IsBehind less most kept x → IsBehind less most others x
  IsBehind-same None kept others x same is = is
  IsBehind-same (Some most) kept others x same is = let long = sum_by-IsPermutation (λ y. cond (not (less x y)) 1 0) kept others same in omega (arith, is, long)

  before_few : (x : X) (ys : List X) → before x ys ≤ length ys
  before_few x [] = omega arith
  before_few x (y ∷ ys) = ⊎_elim
      (λ (is : less x y ≡ true). let none = before-cons_none x y ys is in let few = before_few x ys in let long : length (y ∷ ys) ≡ suc (length ys) = refl in omega (arith, none, few, long))
      (λ (is : less x y ≡ false). let more = before-cons x y ys is in let few = before_few x ys in let long : length (y ∷ ys) ≡ suc (length ys) = refl in omega (arith, more, few, long))
      (cases_Bool (less x y))

  -- fewer than are looked for aren't as many
  pub not_behind_few : (most : ℕ) (kept : List X) (x : X) → length kept < most → IsBehind less (Some most) kept x → ⊥
  not_behind_few most kept x short is = let few = before_few x kept in omega (arith, short, is, few)

  -- one more is kept
  abbrev pub IsKeptOf-push : (most : Option ℕ) (kept all : List X) (x : X) → IsKeptOf less most kept all → IsKeptOf less most (kept ++ x ∷ []) (all ++ x ∷ [])
  IsKeptOf-push most kept all x is = record {
    dropped = is.dropped;
    same = IsPermutation-trans _ _ _ (IsPermutation-append_left (x ∷ []) all (kept ++ is.dropped) is.same) (ends_turned kept is.dropped (x ∷ []));
    behind = All-weaker (IsBehind less most kept) (IsBehind less most (kept ++ x ∷ [])) (IsBehind-more most kept (x ∷ [])) is.dropped is.behind;
  }

  -- one that is behind those that are kept is dropped
  abbrev pub IsKeptOf-pass : (most : Option ℕ) (kept all : List X) (x : X) → IsBehind less most kept x → IsKeptOf less most kept all → IsKeptOf less most kept (all ++ x ∷ [])
  IsKeptOf-pass most kept all x behind is = record {
    dropped = is.dropped ++ x ∷ [];
    same = subst (IsPermutation (all ++ x ∷ [])) (append_assoc kept is.dropped (x ∷ [])) (IsPermutation-append_left (x ∷ []) all (kept ++ is.dropped) is.same);
    behind = All-push (IsBehind less most kept) is.dropped x is.behind behind;
  }

  -- what is kept changes its order
  pub IsKeptOf-same : (most : Option ℕ) (kept others all : List X) → IsPermutation kept others → IsKeptOf less most kept all → IsKeptOf less most others all
  IsKeptOf-same most kept others all same is = record {
    dropped = is.dropped;
    same = IsPermutation-trans _ _ _ is.same (IsPermutation-append_left is.dropped kept others same);
    behind = All-weaker (IsBehind less most kept) (IsBehind less most others) (λ x. IsBehind-same most kept others x same) is.dropped is.behind;
  }

  -- where all are looked for none is dropped
  none_dropped : (kept dropped : List X) → All (IsBehind less None kept) dropped → dropped ≡ []
  none_dropped kept [] all = refl
  none_dropped kept (d ∷ ds) all = absurd (All-head (IsBehind less None kept) d ds all)

  -- behind none there is none
  dropped_none : (n : ℕ) (dropped : List X) → All (IsBehind less (Some (suc n)) []) dropped → dropped ≡ []
  dropped_none n [] all = refl
  dropped_none n (d ∷ ds) all = let none = All-head (IsBehind less (Some (suc n)) []) d ds all in absurd (omega (arith, none))

  pub IsSortedBy-take : (n : ℕ) (xs : List X) → IsSortedBy less xs → IsSortedBy less (take n xs)
  IsSortedBy-take n xs up k d low within =
      let long = length-take n xs in
      rw (get_or-take n xs (k + 1) d (omega (arith, within, long)), get_or-take n xs k d (omega (arith, within, long)))
      (up k d low (omega (arith, within, long)))

  module _ (order : IsStrictWeakOrder less) where
    rises-from : (xs : List X) → IsSortedBy less xs → Rises less xs
    rises-from xs up = subst (Rises less) (ascending-itself less order xs up) (ascending-rises less order xs)

    abbrev NotLess : X → X → Type 0
    NotLess x y = less y x ≡ false

    -- none is less than the first
    under_all : (x : X) (xs : List X) → Rises less (x ∷ xs) → All (NotLess x) xs
    under_all x [] up = All-nil (NotLess x)
    under_all x (y ∷ ys) up = All-cons (NotLess x) y ys up.0 (All-weaker (NotLess y) (NotLess x) (λ z is. order.chain z y x is up.0) ys (under_all y ys up.1))

    under-from_all : (x : X) (xs : List X) → All (NotLess x) xs → IsUnder less x xs
    under-from_all x [] all = tt
    under-from_all x (y ∷ ys) all = All-head (NotLess x) y ys all

    -- what is less than the first is less than all
    none_before : (d x : X) (xs : List X) → less d x ≡ true → All (NotLess x) xs → before d xs ≡ 0
    none_before d x [] first all = refl
    none_before d x (y ∷ ys) first all =
        let here = before-cons_none d y ys (true_from_ne_false (less d y) (λ no. both_ways (less d x) (order.chain d y x no (All-head (NotLess x) y ys all)) first)) in
        let rest = none_before d x ys first (All-tail (NotLess x) y ys all) in
        omega (arith, here, rest)

    -- what has one before it more is not less than the first
    split_first : (n : ℕ) (x : X) (xs : List X) → Rises less (x ∷ xs) → (d : X) → IsBehind less (Some (suc n)) (x ∷ xs) d → NotLess x d × IsBehind less (Some n) xs d
    split_first n x xs up d some = ⊎_elim
        (λ (is : less d x ≡ true). let none = before-cons_none d x xs is in let rest = none_before d x xs is (under_all x xs up) in absurd (omega (arith, some, none, rest)))
        (λ (is : less d x ≡ false). let more = before-cons d x xs is in (is, omega (arith, some, more)))
        (cases_Bool (less d x))

    module _ (n : ℕ) (x : X) (xs dropped : List X) (up : Rises less (x ∷ xs)) (all : All (IsBehind less (Some (suc n)) (x ∷ xs)) dropped) where
      behind_rest : All (IsBehind less (Some n) xs) dropped
      behind_rest = All-weaker (IsBehind less (Some (suc n)) (x ∷ xs)) (IsBehind less (Some n) xs) (λ d is. (split_first n x xs up d is).1) dropped all

      behind_first : All (NotLess x) dropped
      behind_first = All-weaker (IsBehind less (Some (suc n)) (x ∷ xs)) (NotLess x) (λ d is. (split_first n x xs up d is).0) dropped all

    -- ---- what is kept, in order, begins all

    begins : (n : ℕ) (xs dropped : List X) → Rises less xs → All (IsBehind less (Some n) xs) dropped
        → (ordered : List X) × IsPermutation (xs ++ dropped) ordered × Rises less ordered × (take n ordered ≡ take n xs)
    begins zero xs dropped up all = (ascending less (xs ++ dropped), ascending-same less (xs ++ dropped), ascending-rises less order (xs ++ dropped), refl)
    begins (suc n) [] dropped up all = ([], subst (λ ds. IsPermutation ds []) (sym (dropped_none n dropped all)) (IsPermutation-refl []), tt, refl)
    begins (suc n) (x ∷ xs) dropped up all =
        let rest = begins n xs dropped up.1 (behind_rest n x xs dropped up all) in
        let over = All-append (NotLess x) xs dropped (under_all x xs up) (behind_first n x xs dropped up all) in (
          x ∷ rest.0,
          IsPermutation-cons x (xs ++ dropped) rest.0 rest.1,
          (under-from_all x rest.0 (All-permutation (NotLess x) (xs ++ dropped) rest.0 rest.1 over), rest.2),
          ap (λ ys. x ∷ ys) rest.3,
        )

    pub IsKeptOf-begins : (most : Option ℕ) (kept all : List X) → IsSortedBy less kept → IsKeptOf less most kept all → BeginsAll less most kept all
    IsKeptOf-begins None kept all up is = record {
      ordered = kept;
      same = subst (IsPermutation all) (ap (λ dropped. kept ++ dropped) (none_dropped kept is.dropped is.behind) ∙ append-nil kept) is.same;
      ascends = up;
      begins = refl;
    }
    IsKeptOf-begins (Some n) kept all up is =
        let found = begins n kept is.dropped (rises-from kept up) is.behind in record {
          ordered = found.0;
          same = IsPermutation-trans _ _ _ is.same found.1;
          ascends = IsSortedBy-rises less found.0 found.2;
          begins = found.3;
        }

    -- ---- those behind as many as are looked for are dropped

    cut : (n : ℕ) (xs dropped : List X) → Rises less xs → All (IsBehind less (Some n) xs) dropped → All (IsBehind less (Some n) (take n xs)) (drop n xs ++ dropped)
    cut zero xs dropped up all = λ k d within. omega arith
    cut (suc n) [] dropped up all = all
    cut (suc n) (x ∷ xs) dropped up all =
        let rest = cut n xs dropped up.1 (behind_rest n x xs dropped up all) in
        let over = All-append (NotLess x) (drop n xs) dropped (All-drop (NotLess x) n xs (under_all x xs up)) (behind_first n x xs dropped up all) in
        λ k d within.
        let more = before-cons (get_or (drop n xs ++ dropped) k d) x (take n xs) (over k d within) in
        let few = rest k d within in
        omega (arith, more, few)

    pub IsKeptOf-take : (n : ℕ) (kept all : List X) → IsSortedBy less kept → IsKeptOf less (Some n) kept all → IsKeptOf less (Some n) (take n kept) all
    IsKeptOf-take n kept all up is = record {
      dropped = drop n kept ++ is.dropped;
      same =
          subst (IsPermutation all) (ap (λ xs. xs ++ is.dropped) (sym (take-append-drop n kept)) ∙ append_assoc (take n kept) (drop n kept) is.dropped) is.same;
      behind = cut n kept is.dropped (rises-from kept up) is.behind;
    }

    -- ---- what is not less than the last of as many is behind them

    all_before : (d : X) (xs : List X) → All (λ x. less d x ≡ false) xs → before d xs ≡ length xs
    all_before d [] all = refl
    all_before d (x ∷ xs) all =
        let first = before-cons d x xs (All-head (λ x. less d x ≡ false) x xs all) in
        let rest = all_before d xs (All-tail (λ x. less d x ≡ false) x xs all) in
        let long : length (x ∷ xs) ≡ suc (length xs) = refl in
        omega (arith, first, rest, long)

    pub IsBehind-last : (n : ℕ) (first more : List X) (x last : X) → IsSortedBy less first → n ≤ length first → 0 < length first → last ≡ get_or first (length first - 1) last
        → less x last ≡ false → IsBehind less (Some n) (first ++ more) x
    IsBehind-last n first more x last up long some is behind =
        let over : All (λ y. less x y ≡ false) first = λ k d within.
        order.chain x last (get_or first k d) behind
        (subst (λ (l : X). less l (get_or first k d) ≡ false) (sym (get_or_read first (length first - 1) last (omega (arith, some)) is d))
        (sorted_far less order first up k (length first - 1) d (omega (arith, within)) (omega (arith, some)))) in
        let count = all_before x first over in
        IsBehind-more (Some n) first more x (omega (arith, count, long))

    -- what is not less than the last of the first so many is behind them
    pub IsBehind-at : (n : ℕ) (first : List X) (x last : X) → IsSortedBy less first → n ≤ length first → 0 < n → last ≡ get_or first (n - 1) last
        → less x last ≡ false → IsBehind less (Some n) first x
    IsBehind-at n first x last up long some is behind =
        let taken = length-take n first in
        let at : length (take n first) ≡ n = omega (arith, taken, long) in
        subst (λ (kept : List X). IsBehind less (Some n) kept x) (take-append-drop n first)
        (IsBehind-last n (take n first) (drop n first) x last (IsSortedBy-take n first up) (omega (arith, at)) (omega (arith, at, some))
        (is ∙ sym (get_or-take n first (n - 1) last (omega (arith, some))) ∙ ap (λ m. get_or (take n first) (m - 1) last) (sym at)) behind)

    -- what is less is not
    few_before : (x last : X) (k : ℕ) (ys : List X) → Rises less ys → k < length ys → get_or ys k last ≡ last → less x last ≡ true → before x ys ≤ k
    few_before x last k [] up within is first = absurd (omega (arith, within))
    few_before x last zero (y ∷ ys) up within is first =
        let here : less x y ≡ true = subst (λ (l : X). less x l ≡ true) (sym is) first in
        let none = before-cons_none x y ys here in
        let rest = none_before x y ys here (under_all y ys up) in
        omega (arith, none, rest)
    few_before x last (suc k) (y ∷ ys) up within is first =
        let rest = few_before x last k ys up.1 (let long : length (y ∷ ys) ≡ suc (length ys) = refl in omega (arith, within, long)) is first in
        ⊎_elim
        (λ (here : less x y ≡ true). let none = before-cons_none x y ys here in omega (arith, none, rest))
        (λ (here : less x y ≡ false). let more = before-cons x y ys here in omega (arith, more, rest))
        (cases_Bool (less x y))

    pub not_behind_first : (n : ℕ) (first : List X) (x last : X) → IsSortedBy less first → n ≤ length first → 0 < n → last ≡ get_or first (n - 1) last
        → less x last ≡ true → IsBehind less (Some n) first x → ⊥
    not_behind_first n first x last up long some is before_it behind =
        let few = few_before x last (n - 1) first (rises-from first up) (omega (arith, long, some)) (sym is) before_it in
        omega (arith, few, behind, some)

    -- as many as are looked for of a list that ascends
    IsKeptOf-at_most : (most : Option ℕ) (kept all : List X) → IsSortedBy less kept → IsKeptOf less most kept all → IsKeptOf less most (at_most most kept) all
    IsKeptOf-at_most None kept all up is = is
    IsKeptOf-at_most (Some n) kept all up is = IsKeptOf-take n kept all up is

IsSortedBy-at_most : {X : Type 0} (less : X → X → Bool) (most : Option ℕ) (xs : List X) → IsSortedBy less xs → IsSortedBy less (at_most most xs)
IsSortedBy-at_most less None xs up = up
IsSortedBy-at_most less (Some n) xs up = IsSortedBy-take less n xs up

pub at_most-map : {X Y : Type 0} (f : X → Y) (most : Option ℕ) (xs : List X) → at_most most (map f xs) ≡ map f (at_most most xs)
at_most-map f None xs = refl
at_most-map f (Some n) xs = take-map f n xs

pub AreAtMost-cut : {X : Type 0} (most : Option ℕ) (xs : List X) → AreAtMost most (length (at_most most xs))
AreAtMost-cut None xs = tt
AreAtMost-cut (Some n) xs = let long = length-take n xs in omega (arith, long)

pub HasRoom-none : (most : Option ℕ) → HasRoom most 0
HasRoom-none None = tt
HasRoom-none (Some n) = omega arith

pub few_are_kept : {X Y : Type 0} (most : Option ℕ) (xs : List X) (rest : List Y) → rest ≡ [] → AreAtMost most (length (at_most most xs)) × HasRoom most (length rest)
few_are_kept most xs rest none = (AreAtMost-cut most xs, rw none (HasRoom-none most))

module _ {X : Type 0} (less : X → X → Bool) (most : Option ℕ) where
  abbrev pub KeepsOf-none : KeepsOf less most [] [] []
  KeepsOf-none = record {
    ascends = λ k d low within. absurd (omega (arith, within));
    of_all = record { dropped = []; same = IsPermutation-refl []; behind = All-nil (IsBehind less most []) };
  }

  module _ (first more all : List X) (keeps : KeepsOf less most first more all) where
    pub KeepsOf-push : (x : X) → KeepsOf less most first (more ++ x ∷ []) (all ++ x ∷ [])
    KeepsOf-push x = record {
      ascends = keeps.ascends;
      of_all =
          subst (λ (kept : List X). IsKeptOf less most kept (all ++ x ∷ [])) (append_assoc first more (x ∷ []))
          (IsKeptOf-push less most (first ++ more) all x keeps.of_all);
    }

    abbrev pub KeepsOf-pass : (x : X) → IsBehind less most (first ++ more) x → KeepsOf less most first more (all ++ x ∷ [])
    KeepsOf-pass x behind = record {
      ascends = keeps.ascends;
      of_all = IsKeptOf-pass less most (first ++ more) all x behind keeps.of_all;
    }

    module _ (order : IsStrictWeakOrder less) where
      pub KeepsOf-cut : (sorted : List X) → IsPermutation (first ++ more) sorted → IsSortedBy less sorted → KeepsOf less most (at_most most sorted) [] all
      KeepsOf-cut sorted same up = record {
        ascends = IsSortedBy-at_most less most sorted up;
        of_all =
            subst (λ (kept : List X). IsKeptOf less most kept all) (sym (append-nil (at_most most sorted)))
            (IsKeptOf-at_most less order most sorted all up (IsKeptOf-same less most (first ++ more) sorted all same keeps.of_all));
      }

  pub KeepsOf-begins : IsStrictWeakOrder less → (first all : List X) → KeepsOf less most first [] all → BeginsAll less most first all
  KeepsOf-begins order first all keeps =
      IsKeptOf-begins less order most first all keeps.ascends (subst (λ (kept : List X). IsKeptOf less most kept all) (append-nil first) keeps.of_all)

-- what begins all, seen through a function that tells the same order, begins all that is seen
pub BeginsAll-map : {X Y : Type 0} (less : Y → Y → Bool) (f : X → Y) (most : Option ℕ) (first all : List X) → BeginsAll (λ x y. less (f x) (f y)) most first all
    → BeginsAll less most (map f first) (map f all)
BeginsAll-map less f most first all made = record {
  ordered = map f made.ordered;
  same = IsPermutation-map f all made.ordered made.same;
  ascends = sorted_map less f made.ordered made.ascends;
  begins = at_most-map f most made.ordered ∙ ap (map f) made.begins ∙ sym (at_most-map f most first);
}

-- ---- rows

abbrev pub row_of : Vec Value → Row
row_of row = map datum_of row.items

module _ (order : List ResultKey) where
  pub comes_before_order : IsStrictWeakOrder (comes_before order)
  comes_before_order = ranks_by (keys_cmp_total (directions order)) (key_values order)

  -- what is kept was put in order and cut
  pub KeepsOf-put : (most : Option ℕ) (first more sorted : List (Vec Value)) (all : List Row) → IsPermutation (first ++ more) sorted
      → IsSortedByKey (λ row. key_values order (map datum_of row.items)) (keys_cmp (directions order)) sorted
      → KeepsOf (comes_before order) most (rows_data first) (rows_data more) all → KeepsOf (comes_before order) most (rows_data (at_most most sorted)) [] all
  KeepsOf-put most first more sorted all same up keeps =
      subst (λ (kept : List Row). KeepsOf (comes_before order) most kept [] all) (at_most-map row_of most sorted)
      (KeepsOf-cut (comes_before order) most (rows_data first) (rows_data more) all keeps comes_before_order (rows_data sorted)
      (subst (λ (xs : List Row). IsPermutation xs (rows_data sorted)) (map-append row_of first more) (IsPermutation-map row_of (first ++ more) sorted same))
      (sorted_map (comes_before order) row_of sorted up))

  -- a row whose values of ORDER BY aren't less than those of the last of as many is behind them
  pub IsBehind-row : (most : Option ℕ) (n : ℕ) (first : List (Vec Value)) (more : List Row) (row : Row) (last : Vec Value) → most ≡ Some n → n ≤ length first → 0 < length first
      → last ≡ get_or first (length first - 1) last → IsSortedBy (comes_before order) (rows_data first) → comes_before order row (map datum_of last.items) ≡ false
      → IsBehind (comes_before order) most (rows_data first ++ more) row
  IsBehind-row most n first more row last is long some at_end up behind =
      let same = length-map first row_of in
      subst (λ (m : Option ℕ). IsBehind (comes_before order) m (rows_data first ++ more) row) (sym is)
      (IsBehind-last (comes_before order) comes_before_order n (rows_data first) more row (row_of last) up
      (omega (arith, long, same)) (omega (arith, some, same))
      (ap row_of at_end ∙ sym (get_map row_of first (length first - 1) last (row_of last) (omega (arith, some)))
      ∙ ap (λ n. get_or (rows_data first) (n - 1) (row_of last)) (sym same)) behind)

pub less_is : (o : Ordering) → is_ge o ≡ false → is_lt o ≡ true
less_is Less is = refl
less_is Equal is = absurd cc
less_is Greater is = absurd cc

pub not_less : (o : Ordering) → is_ge o ≡ true → is_lt o ≡ false
not_less Less is = absurd cc
not_less Equal is = refl
not_less Greater is = refl
