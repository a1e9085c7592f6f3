-- The first different elements in order, kept while they come.
use Rattle.std.proofs.Common.{◌≡◌, ◌∙◌, ◌+◌, ◌-◌, ◌||◌, ◌⊎◌, inl, inr, ◌≤◌, All, Bool, true, false, ℕ, zero, suc, List, [], ◌∷◌, ◌++◌, Option, drop, length, take, append-nil, append_assoc, if◌then◌else◌, refl, sym, ap, subst, arith, ⊎_elim, IsPermutation, IsSortedBy}
use Rattle.std.specs.Cmp.{IsStrictWeakOrder}
use Rattle.std.specs.List.{list_any}
use Rattle.std.proofs.lemmas.Bool.{cases_Bool, false≢true}
use Rattle.std.proofs.lemmas.List.{length-append, take-append-drop, take-append-le, take_all}
use Rattle.std.proofs.lemmas.List.Elements.{All-head, All-nil, All-push, All-tail}
use Rattle.std.proofs.lemmas.List.Folds.{list_any-append}
use Rattle.std.proofs.lemmas.List.Sorted.{list_any-IsPermutation}
use Rattle.values.specs.Row.{Row}
use Rattle.semantics.specs.Times.{same_row}
use Rattle.semantics.proofs.TimesLemmas.{same_row-reads}
use Rattle.windows_groups.specs.declared.order.ResultKey.{ResultKey}
use Rattle.windows_groups.specs.Keys.{comes_before}
use Rattle.windows_groups.specs.Firsts.{BeginsAll, IsBehind, IsKeptOf, at_most}
use Rattle.windows_groups.proofs.FirstLemmas.{IsBehind-more, IsKeptOf-push, IsKeptOf-same, KeepsOf-begins, KeepsOf-cut, KeepsOf-none, KeepsOf-pass, comes_before_order}
use Rattle.windows_groups.specs.distinct_rows.Firsts.{firsts}
use Rattle.windows_groups.specs.distinct_rows.OnceView.{KeepsFirmly, KeepsOnce, first_of, more_of}
use Rattle.windows_groups.specs.declared.distinct_rows.distinct_in_order.DistinctInOrder.{DistinctInOrder}
use Rattle.windows_groups.proofs.lemmas.distinct_rows.FirstLemmas.{firsts_push}

module _ {X : Type 0} (less : X → X → Bool) (most : Option ℕ) where
  pub firm_none : KeepsFirmly less most [] [] []
  firm_none = record { keeps = KeepsOf-none less most; firm = All-nil (IsBehind less most []) }

  module _ (first more all : List X) (is : KeepsFirmly less most first more all) where
    pub firm_push : (x : X) → KeepsFirmly less most first (more ++ x ∷ []) (all ++ x ∷ [])
    firm_push x =
        let kept = IsKeptOf-push less most (first ++ more) all x is.keeps.of_all in
        let dropped = is.keeps.of_all.dropped in record {
          keeps = record {
            ascends = is.keeps.ascends;
            of_all = record {
              dropped = dropped;
              same = subst (λ (kept : List X). IsPermutation (all ++ x ∷ []) (kept ++ dropped)) (append_assoc first more (x ∷ [])) kept.same;
              behind = subst (λ (kept : List X). All (IsBehind less most kept) dropped) (append_assoc first more (x ∷ [])) kept.behind;
            };
          };
          firm = is.firm;
        }

    pub firm_pass : (x : X) → IsBehind less most first x → KeepsFirmly less most first more (all ++ x ∷ [])
    firm_pass x behind = record {
      keeps = KeepsOf-pass less most first more all is.keeps x (IsBehind-more less most first more x behind);
      firm = All-push (IsBehind less most first) is.keeps.of_all.dropped x is.firm behind;
    }

    pub firm_cut : IsStrictWeakOrder less → (sorted : List X) → IsPermutation (first ++ more) sorted → IsSortedBy less sorted
        → KeepsFirmly less most (at_most most sorted) [] all
    firm_cut order sorted same up =
        let keeps = KeepsOf-cut less most first more all is.keeps order sorted same up in record {
          keeps = keeps;
          firm = subst (λ (kept : List X). All (IsBehind less most kept) keeps.of_all.dropped) (append-nil (at_most most sorted)) keeps.of_all.behind;
        }

-- an order permutes what is kept
pub begins_sorted : {X : Type 0} (less : X → X → Bool) (most : Option ℕ) → IsStrictWeakOrder less → (first more all sorted : List X)
    → KeepsFirmly less most first more all → IsPermutation (first ++ more) sorted → IsSortedBy less sorted → BeginsAll less most sorted all
begins_sorted {X = X} less most order first more all sorted is same up =
    KeepsOf-begins less most order sorted all
    (record {
      ascends = up;
      of_all = subst (λ (kept : List X). IsKeptOf less most kept all) (sym (append-nil sorted)) (IsKeptOf-same less most (first ++ more) sorted all same is.keeps.of_all);
    })

-- ---- rows of which each is kept once

any_held : (P : Row → Type 0) (row : Row) (xs : List Row) → All P xs → list_any (same_row row) xs ≡ true → P row
any_held P row [] all held = absurd cc
any_held P row (x ∷ xs) all held = ⊎_elim
    (λ (e : same_row row x ≡ true). subst P (sym (same_row-reads row x e)) (All-head P x xs all))
    (λ (e : same_row row x ≡ false). any_held P row xs (All-tail P x xs all) (sym (ap (λ b. b || list_any (same_row row) xs) e) ∙ held))
    (cases_Bool (same_row row x))

one_of : (a b : Bool) → (a || b) ≡ true → (a ≡ true) ⊎ (b ≡ true)
one_of true b e = inl refl
one_of false b e = inr e

module _ (less : Row → Row → Bool) (most : Option ℕ) (first more came : List Row) (is : KeepsFirmly less most first more (firsts came)) (row : Row) where
  came_is : list_any (same_row row) (firsts came) ≡ (list_any (same_row row) (first ++ more) || list_any (same_row row) is.keeps.of_all.dropped)
  came_is =
      list_any-IsPermutation (same_row row) (firsts came) ((first ++ more) ++ is.keeps.of_all.dropped) is.keeps.of_all.same
      ∙ list_any-append (same_row row) (first ++ more) is.keeps.of_all.dropped

  pushed : (b : Bool) → list_any (same_row row) (firsts came) ≡ b → firsts (came ++ row ∷ []) ≡ (if b then firsts came else (firsts came ++ row ∷ []))
  pushed b e = firsts_push came row ∙ ap (λ b. if b then firsts came else (firsts came ++ row ∷ [])) e

  -- a row that is behind is dropped, whether or not it came
  pub behind_dropped : IsBehind less most first row → KeepsFirmly less most first more (firsts (came ++ row ∷ []))
  behind_dropped behind = of (list_any (same_row row) (firsts came)) refl
    where
      of : (b : Bool) → list_any (same_row row) (firsts came) ≡ b → KeepsFirmly less most first more (firsts (came ++ row ∷ []))
      of true e = subst (KeepsFirmly less most first more) (sym (pushed true e)) is
      of false e = subst (KeepsFirmly less most first more) (sym (pushed false e)) (firm_pass less most first more (firsts came) is row behind)

  -- one that is kept came
  pub again_dropped : list_any (same_row row) (first ++ more) ≡ true → KeepsFirmly less most first more (firsts (came ++ row ∷ []))
  again_dropped held =
      subst (KeepsFirmly less most first more) (sym (pushed true (came_is ∙ ap (λ b. b || list_any (same_row row) is.keeps.of_all.dropped) held))) is

  -- another that isn't behind didn't come
  pub new_kept : (IsBehind less most first row → ⊥) → list_any (same_row row) (first ++ more) ≡ false
      → KeepsFirmly less most first (more ++ row ∷ []) (firsts (came ++ row ∷ []))
  new_kept ahead new = of (list_any (same_row row) (firsts came)) refl
    where
      of : (b : Bool) → list_any (same_row row) (firsts came) ≡ b → KeepsFirmly less most first (more ++ row ∷ []) (firsts (came ++ row ∷ []))
      of true e = absurd (⊎_elim
          (λ (held : list_any (same_row row) (first ++ more) ≡ true). false≢true (sym new ∙ held))
          (λ (held : list_any (same_row row) is.keeps.of_all.dropped ≡ true). ahead (any_held (IsBehind less most first) row is.keeps.of_all.dropped is.firm held))
          (one_of (list_any (same_row row) (first ++ more)) (list_any (same_row row) is.keeps.of_all.dropped) (sym came_is ∙ e)))
      of false e =
          subst (KeepsFirmly less most first (more ++ row ∷ [])) (sym (pushed false e)) (firm_push less most first more (firsts came) is row)

-- ---- what was put in order, and what came since, of one list

taken_push : {X : Type 0} (n : ℕ) (xs : List X) (x : X) → n ≤ length xs → take n (xs ++ x ∷ []) ≡ take n xs
taken_push n xs x within = take-append-le n xs (x ∷ []) within

rest_push : {X : Type 0} (n : ℕ) (xs : List X) (x : X) → n ≤ length xs → drop n (xs ++ x ∷ []) ≡ drop n xs ++ x ∷ []
rest_push zero xs x within = refl
rest_push (suc n) [] x within = absurd (omega (arith, within))
rest_push (suc n) (y ∷ xs) x within = rest_push n xs x (let long : length (y ∷ xs) ≡ suc (length xs) = refl in omega (arith, within, long))

all_rest : {X : Type 0} (n : ℕ) (xs : List X) → length xs ≤ n → drop n xs ≡ []
all_rest zero [] all = refl
all_rest zero (x ∷ xs) all = absurd (omega (arith, all))
all_rest (suc n) [] all = refl
all_rest (suc n) (x ∷ xs) all = all_rest n xs (let long : length (x ∷ xs) ≡ suc (length xs) = refl in omega (arith, all, long))

-- ---- what the program keeps

module _ (order : List ResultKey) (kept : DistinctInOrder) (came : List Row) (keeps : KeepsOnce order kept came) where
  keys_are : first_of kept ++ more_of kept ≡ kept.kept.keys
  keys_are = take-append-drop kept.ordered kept.kept.keys

  module _ (row : Row) where
    pub once_behind : IsBehind (comes_before order) kept.most (first_of kept) row → KeepsOnce order kept (came ++ row ∷ [])
    once_behind behind = record {
      within = keeps.within;
      keeps = behind_dropped (comes_before order) kept.most (first_of kept) (more_of kept) came keeps.keeps row behind;
    }

    pub once_again : list_any (same_row row) kept.kept.keys ≡ true → KeepsOnce order kept (came ++ row ∷ [])
    once_again held = record {
      within = keeps.within;
      keeps = again_dropped (comes_before order) kept.most (first_of kept) (more_of kept) came keeps.keeps row (ap (list_any (same_row row)) keys_are ∙ held);
    }

    pub once_new : (now : DistinctInOrder) → now.most ≡ kept.most → now.ordered ≡ kept.ordered → now.kept.keys ≡ kept.kept.keys ++ row ∷ []
        → (IsBehind (comes_before order) kept.most (first_of kept) row → ⊥) → list_any (same_row row) kept.kept.keys ≡ false → KeepsOnce order now (came ++ row ∷ [])
    once_new now most ordered keys ahead new =
        let within = keeps.within in
        let long = ap length keys ∙ length-append kept.kept.keys (row ∷ []) in
        let one : length (row ∷ []) ≡ 1 = refl in
        let first : first_of now ≡ first_of kept = (λ i. take (ordered i) (keys i)) ∙ taken_push kept.ordered kept.kept.keys row within in
        let more : more_of now ≡ more_of kept ++ row ∷ [] = (λ i. drop (ordered i) (keys i)) ∙ rest_push kept.ordered kept.kept.keys row within in record {
          within = omega (arith, within, long, one, ordered);
          keeps = subst (λ (all : List Row). KeepsFirmly (comes_before order) now.most (first_of now) all (firsts (came ++ row ∷ []))) (sym more)
              (subst (λ (all : List Row). KeepsFirmly (comes_before order) now.most all (more_of kept ++ row ∷ []) (firsts (came ++ row ∷ []))) (sym first)
              (subst (λ (m : Option ℕ). KeepsFirmly (comes_before order) m (first_of kept) (more_of kept ++ row ∷ []) (firsts (came ++ row ∷ []))) (sym most)
              (new_kept (comes_before order) kept.most (first_of kept) (more_of kept) came keeps.keeps row ahead (ap (list_any (same_row row)) keys_are ∙ new))));
        }

  module _ (sorted : List Row) (same : IsPermutation kept.kept.keys sorted) (up : IsSortedBy (comes_before order) sorted) where
    all_same : IsPermutation (first_of kept ++ more_of kept) sorted
    all_same = subst (λ (keys : List Row). IsPermutation keys sorted) (sym keys_are) same

    pub once_cut : (now : DistinctInOrder) → now.most ≡ kept.most → now.kept.keys ≡ at_most kept.most sorted → now.ordered ≡ length now.kept.keys
        → KeepsOnce order now came
    once_cut now most keys ordered =
        let first : first_of now ≡ at_most kept.most sorted = take_all now.ordered now.kept.keys (omega (arith, ordered)) ∙ keys in
        let more : more_of now ≡ [] = all_rest now.ordered now.kept.keys (omega (arith, ordered)) in record {
          within = omega (arith, ordered);
          keeps = subst (λ (all : List Row). KeepsFirmly (comes_before order) now.most (first_of now) all (firsts came)) (sym more)
              (subst (λ (all : List Row). KeepsFirmly (comes_before order) now.most all [] (firsts came)) (sym first)
              (subst (λ (m : Option ℕ). KeepsFirmly (comes_before order) m (at_most kept.most sorted) [] (firsts came)) (sym most)
              (firm_cut (comes_before order) kept.most (first_of kept) (more_of kept) (firsts came) keeps.keeps (comes_before_order order) sorted all_same up)));
        }

    pub once_begins : BeginsAll (comes_before order) kept.most sorted (firsts came)
    once_begins = begins_sorted (comes_before order) kept.most (comes_before_order order) (first_of kept) (more_of kept) (firsts came) sorted keeps.keeps all_same up
