-- Runs of inner joins, in any order.
use Rattle.std.proofs.Common.{◌≡◌, Bool, true, false, cond, List, [], ◌∷◌, ◌++◌, All, map, refl, sym, ap, ◌∙◌, append_assoc, append-nil, IsPermutation}
use Rattle.std.specs.List.{filter, flat_map}
use Rattle.std.specs.Cmp.{IsTotalOrder}
use Rattle.std.specs.FinMap.{IsAntisymmetric, nat_cmp-IsAntisymmetric}
use Rattle.std.specs.Ordering.{nat_cmp, ordering_then}
use Rattle.std.specs.declared.cmp.Ordering.{Ordering}
use Rattle.std.specs.declared.cmp.Ordering.TheVariants.{Less, Equal, Greater}
use Rattle.std.proofs.lemmas.Cmp.{nat_cmp_total, on_total, then_total}
use Rattle.std.proofs.lemmas.List.Elements.{All-filter, All-head, All-map, All-tail, All-weaker, filter-append}
use Rattle.std.proofs.lemmas.List.Sorted.{IsPermutation-append_right, IsPermutation-cons, IsPermutation-middle, IsPermutation-refl, IsPermutation-trans}
use Rattle.values.specs.Order.{row_cmp}
use Rattle.values.specs.OrderLaws.{row_cmp-IsAntisymmetric, row_cmp_total}
use Rattle.values.specs.Row.{Row}
use Rattle.expr.proofs.BagLemmas.{along_permutation, flat_map_both, IsPermutation-flat_map_each}
use Rattle.semantics.specs.Joins.{pairs}
use Rattle.semantics.specs.Runs.{Joined, JoinedInAnyOrder, Placed, RunIsFilter, SpeakInTurn, SpeaksOf, all_hold, beside, choices, joined_rows, placed_cmp, put_back}
use Rattle.semantics.proofs.ElementLemmas.{All-flat_map}
use Rattle.semantics.proofs.KeyLemmas.{sorted-one}
use Rattle.semantics.proofs.MoveLemmas.{filter-filter, filter-pairs}
use Rattle.semantics.proofs.ScanLemmas.{filter-all}

-- ---- the order of sources

abbrev no_list : {A B : Type 0} → A → List B
no_list a = []

no_lists : {A B : Type 0} (ys : List A) → flat_map (no_list {A = A} {B = B}) ys ≡ []
no_lists [] = refl
no_lists (y ∷ ys) = no_lists ys

-- two lists gone through in either order
exchanged : {A B C : Type 0} (g : A → B → List C) (xs : List A) (ys : List B)
    → IsPermutation (flat_map (λ a. flat_map (g a) ys) xs) (flat_map (λ b. flat_map (λ a. g a b) xs) ys)
exchanged {A} {B} {C} g [] ys = rw (no_lists {A = B} {B = C} ys) (IsPermutation-refl [])
exchanged g (a ∷ xs) ys =
    IsPermutation-trans _ _ _ (IsPermutation-append_right (flat_map (g a) ys) _ _ (exchanged g xs ys))
    (flat_map_both (g a) (λ b. flat_map (λ a. g a b) xs) ys)

map-flat_map : {A B C : Type 0} (f : B → C) (g : A → List B) (xs : List A) → map f (flat_map g xs) ≡ flat_map (λ x. map f (g x)) xs
map-flat_map f g [] = refl
map-flat_map f g (x ∷ xs) = map-both f (g x) (flat_map g xs) ∙ ap (λ rest. map f (g x) ++ rest) (map-flat_map f g xs)
  where
    map-both : {B C : Type 0} (f : B → C) (ys zs : List B) → map f (ys ++ zs) ≡ map f ys ++ map f zs
    map-both f [] zs = refl
    map-both f (y ∷ ys) zs = ap (λ rest. f y ∷ rest) (map-both f ys zs)

map-map : {A B C : Type 0} (f : B → C) (g : A → B) (xs : List A) → map f (map g xs) ≡ map (λ x. f (g x)) xs
map-map f g [] = refl
map-map f g (x ∷ xs) = ap (λ rest. f (g x) ∷ rest) (map-map f g xs)

flat_map-same : {A B : Type 0} (f g : A → List B) → ((x : A) → f x ≡ g x) → (xs : List A) → flat_map f xs ≡ flat_map g xs
flat_map-same f g same [] = refl
flat_map-same f g same (x ∷ xs) = rw (same x, flat_map-same f g same xs) refl

-- the choices of one source more
mapped_choices : {X Y : Type 0} (f : List X → Y) (rows : List X) (sources : List (List X))
    → map f (choices (rows ∷ sources)) ≡ flat_map (λ row. map (λ rest. f (row ∷ rest)) (choices sources)) rows
mapped_choices f rows sources =
    map-flat_map f (λ row. map (λ rest. row ∷ rest) (choices sources)) rows
    ∙ flat_map-same _ _ (λ row. map-map f (λ rest. row ∷ rest) (choices sources)) rows

mapped_twice : {X Y : Type 0} (f : List X → Y) (rows others : List X) (sources : List (List X))
    → map f (choices (rows ∷ others ∷ sources)) ≡ flat_map (λ row. flat_map (λ other. map (λ rest. f (row ∷ other ∷ rest)) (choices sources)) others) rows
mapped_twice f rows others sources =
    mapped_choices f rows (others ∷ sources) ∙ flat_map-same _ _ (λ row. mapped_choices (λ rest. f (row ∷ rest)) others sources) rows

map_agree : {A B : Type 0} (f g : A → B) → ((x : A) → f x ≡ g x) → (xs : List A) → map f xs ≡ map g xs
map_agree f g same [] = refl
map_agree f g same (x ∷ xs) = rw (same x, map_agree f g same xs) refl

module _ {X : Type 0} (Y : Type 0) where
  abbrev IsFree : (List X → Y) → Type 0
  IsFree f = (choice other : List X) → IsPermutation choice other → f choice ≡ f other

  abbrev Alike : List (List X) → List (List X) → Type 0
  Alike sources others = (f : List X → Y) → IsFree f → IsPermutation (map f (choices sources)) (map f (choices others))

  under : (rows : List X) (sources others : List (List X)) → Alike sources others → Alike (rows ∷ sources) (rows ∷ others)
  under rows sources others alike f free =
      rw (mapped_choices f rows sources, mapped_choices f rows others)
      (IsPermutation-flat_map_each (λ row. map (λ rest. f (row ∷ rest)) (choices sources)) (λ row. map (λ rest. f (row ∷ rest)) (choices others))
      (λ row. alike (λ rest. f (row ∷ rest)) (λ choice other p. free (row ∷ choice) (row ∷ other) (IsPermutation-cons row choice other p))) rows)

  turned : (rows others : List X) (sources : List (List X)) → Alike (rows ∷ others ∷ sources) (others ∷ rows ∷ sources)
  turned rows others sources f free =
      let swapped : flat_map (λ other. flat_map (λ row. map (λ rest. f (row ∷ other ∷ rest)) (choices sources)) rows) others
      ≡ flat_map (λ other. flat_map (λ row. map (λ rest. f (other ∷ row ∷ rest)) (choices sources)) rows) others =
      flat_map-same _ _ (λ other. flat_map-same _ _ (λ row. map_agree (λ rest. f (row ∷ other ∷ rest)) (λ rest. f (other ∷ row ∷ rest))
      (λ rest. free (row ∷ other ∷ rest) (other ∷ row ∷ rest) (IsPermutation-middle (row ∷ []) other rest)) (choices sources)) rows) others in
      rw (mapped_twice f rows others sources, mapped_twice f others rows sources, ← swapped)
      (exchanged (λ row other. map (λ rest. f (row ∷ other ∷ rest)) (choices sources)) rows others)

  any_order : (sources others : List (List X)) → IsPermutation sources others → Alike sources others
  any_order = along_permutation Alike
      (λ sources f free. IsPermutation-refl _) under turned
      (λ xs ys zs p q f free. IsPermutation-trans _ _ _ (p f free) (q f free))

-- what doesn't depend on the order of a choice gives one bag, whatever the order of the sources
pub sources_are_bags : {X Y : Type 0} (f : List X → Y) → ((choice other : List X) → IsPermutation choice other → f choice ≡ f other)
    → (sources others : List (List X)) → IsPermutation sources others → IsPermutation (map f (choices sources)) (map f (choices others))
sources_are_bags {X} {Y} f free sources others p = any_order Y sources others p f free

-- ---- columns put back

placed_total : IsTotalOrder placed_cmp
placed_total = then_total (on_total (λ (p : Placed). p.0) nat_cmp_total) (on_total (λ (p : Placed). p.1) row_cmp_total)

both_equal : (a b : Ordering) → ordering_then a b ≡ Equal → (a ≡ Equal) × (b ≡ Equal)
both_equal Less b e = cc
both_equal Equal b e = (refl, e)
both_equal Greater b e = cc

placed-antisymmetric : IsAntisymmetric placed_cmp
placed-antisymmetric x y e =
    let parts = both_equal (nat_cmp x.0 y.0) (row_cmp x.1 y.1) e in
    let place : x.0 ≡ y.0 = nat_cmp-IsAntisymmetric x.0 y.0 parts.0 in
    let row : x.1 ≡ y.1 = row_cmp-IsAntisymmetric x.1 y.1 parts.1 in λ i. (place i, row i)

pub joined_in_any_order : JoinedInAnyOrder
joined_in_any_order sources others p =
    sources_are_bags put_back (λ choice other same. ap (flat_map (λ (q : Placed). q.1)) (sorted-one placed_cmp placed_total placed-antisymmetric choice other same))
    sources others p

-- ---- a run is a filter

-- the choices of one source more, beside each row
one_more : (rows : List Row) (sources : List (List Row)) (ls : List Row)
    → flat_map (beside (rows ∷ sources)) ls ≡ flat_map (beside sources) (pairs (λ l r. true) ls rows)
one_more rows sources [] = refl
one_more rows sources (l ∷ ls) =
    ap (λ rest. beside (rows ∷ sources) l ++ rest) (one_more rows sources ls)
    ∙ ap (λ front. front ++ flat_map (beside sources) (pairs (λ l r. true) ls rows)) (of_row l)
    ∙ sym (flat_map-both (beside sources) (map (λ r. l ++ r) (filter (λ r. true) rows)) (pairs (λ l r. true) ls rows))
  where
    flat_map-both : {A B : Type 0} (f : A → List B) (xs ys : List A) → flat_map f (xs ++ ys) ≡ flat_map f xs ++ flat_map f ys
    flat_map-both f [] ys = refl
    flat_map-both f (x ∷ xs) ys = ap (λ rest. f x ++ rest) (flat_map-both f xs ys) ∙ sym (append_assoc (f x) (flat_map f xs) (flat_map f ys))

    of_rows : (l : Row) (some : List Row)
        → flat_map (λ row. map (λ rest. l ++ (row ++ flat_map (λ r. r) rest)) (choices sources)) some ≡ flat_map (beside sources) (map (λ r. l ++ r) (filter (λ r. true) some))
    of_rows l [] = refl
    of_rows l (row ∷ some) =
        ap (λ rest. map (λ rest. l ++ (row ++ flat_map (λ r. r) rest)) (choices sources) ++ rest) (of_rows l some)
        ∙ ap (λ front. front ++ flat_map (beside sources) (map (λ r. l ++ r) (filter (λ r. true) some)))
        (map_agree (λ rest. l ++ (row ++ flat_map (λ r. r) rest)) (λ rest. (l ++ row) ++ flat_map (λ r. r) rest) (λ rest. sym (append_assoc l row (flat_map (λ r. r) rest))) (choices sources))

    of_row : (l : Row) → beside (rows ∷ sources) l ≡ flat_map (beside sources) (map (λ r. l ++ r) (filter (λ r. true) rows))
    of_row l = mapped_choices (λ choice. l ++ flat_map (λ r. r) choice) rows sources ∙ of_rows l rows

-- a condition on what stands before is tested before
tested_before : (p : Row → Bool) (sources : List (List Row)) (ls : List Row) → All (SpeaksOf p) ls
    → flat_map (beside sources) (filter p ls) ≡ filter p (flat_map (beside sources) ls)
tested_before p sources [] all = refl
tested_before p sources (l ∷ ls) all =
    let here = All-head (SpeaksOf p) l ls all in
    let rest = tested_before p sources ls (All-tail (SpeaksOf p) l ls all) in
    sym (filter-append p (beside sources l) (flat_map (beside sources) ls)
    ∙ ap (λ front. front ++ filter p (flat_map (beside sources) ls)) (whole_or_none (p l) refl l here)
    ∙ sym (ap (λ back. cond (p l) (beside sources l) [] ++ back) rest) ∙ gathered (p l))
  where
    kept_all : (xs : List Row) (q : Row → Bool) → All (λ x. q x ≡ true) xs → filter q xs ≡ xs
    kept_all [] q all = refl
    kept_all (x ∷ xs) q all = rw (All-head (λ x. q x ≡ true) x xs all) (ap (λ rest. x ∷ rest) (kept_all xs q (All-tail (λ x. q x ≡ true) x xs all)))

    kept_none : (xs : List Row) (q : Row → Bool) → All (λ x. q x ≡ false) xs → filter q xs ≡ []
    kept_none [] q all = refl
    kept_none (x ∷ xs) q all = rw (All-head (λ x. q x ≡ false) x xs all) (kept_none xs q (All-tail (λ x. q x ≡ false) x xs all))

    each_says : (b : Bool) (l : Row) → SpeaksOf p l → p l ≡ b → All (λ x. p x ≡ b) (beside sources l)
    each_says b l says is = All-map (λ x. p x ≡ b) (λ choice. l ++ flat_map (λ r. r) choice) (choices sources) (λ k d below. says _ ∙ is)

    whole_or_none : (b : Bool) → p l ≡ b → (l : Row) → SpeaksOf p l → filter p (beside sources l) ≡ cond (p l) (beside sources l) []
    whole_or_none b e l says = of_value (p l) refl
      where
        of_value : (b : Bool) → p l ≡ b → filter p (beside sources l) ≡ cond b (beside sources l) []
        of_value true is = kept_all (beside sources l) p (each_says true l says is)
        of_value false is = kept_none (beside sources l) p (each_says false l says is)

    gathered : (b : Bool) → cond b (beside sources l) [] ++ flat_map (beside sources) (filter p ls) ≡ flat_map (beside sources) (cond b (l ∷ filter p ls) (filter p ls))
    gathered true = refl
    gathered false = refl

pub run_is_filter : RunIsFilter
run_is_filter ls [] all = sym (filter-all (λ row. true) (λ row. refl) (flat_map (beside []) ls) ∙ alone ls)
  where
    alone : (ls : List Row) → flat_map (beside []) ls ≡ ls
    alone [] = refl
    alone (l ∷ ls) = rw (append-nil l) (ap (λ rest. l ∷ rest) (alone ls))
run_is_filter ls (next ∷ run) all =
    let others = map (λ (j : Joined). j.rows) run in
    let before = pairs (λ l r. true) ls next.rows in
    let each : All (λ l. SpeaksOf next.on l × SpeakInTurn run l) before = All-flat_map (λ l. SpeaksOf next.on l × SpeakInTurn run l) (λ l. map (λ r. l ++ r) (filter (λ r. true) next.rows)) ls
    (All-weaker (SpeakInTurn (next ∷ run)) (λ l. All (λ l. SpeaksOf next.on l × SpeakInTurn run l) (map (λ r. l ++ r) (filter (λ r. true) next.rows)))
    (λ l says. All-map (λ l. SpeaksOf next.on l × SpeakInTurn run l) (λ r. l ++ r) (filter (λ r. true) next.rows)
    (All-filter (λ r. true) (λ r. SpeaksOf next.on (l ++ r) × SpeakInTurn run (l ++ r)) next.rows says)) ls all) in
    let says : All (SpeaksOf next.on) before = All-weaker (λ l. SpeaksOf next.on l × SpeakInTurn run l) (SpeaksOf next.on) (λ l both. both.0) before each in
    let later : All (SpeakInTurn run) (filter next.on before) = All-filter next.on (SpeakInTurn run) before
    (All-weaker (λ l. SpeaksOf next.on l × SpeakInTurn run l) (SpeakInTurn run) (λ l both. both.1) before each) in
    ap (λ rows. joined_rows rows run) (sym (filter-pairs next.on (λ l r. true) ls next.rows))
    ∙ run_is_filter (filter next.on before) run later
    ∙ ap (filter (all_hold run)) (tested_before next.on others before says)
    ∙ filter-filter (all_hold run) next.on (flat_map (beside others) before)
    ∙ ap (filter (all_hold (next ∷ run))) (sym (one_more next.rows others ls))
