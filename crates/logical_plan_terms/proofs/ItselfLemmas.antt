-- Where each column that is read stands in its place, the expression of a term is the term itself.
use Rattle.std.proofs.Common.{◌≡◌, ◌∙◌, ◌==◌, ◌+◌, ◌≤◌, ◌<◌, Bool, true, false, cond, not, Contains, ℕ, zero, suc, List, [], ◌++◌, length, refl, sym, ap, subst, arith}
use Rattle.std.specs.List.{position_or_len, range_with_len}
use Rattle.std.proofs.lemmas.Bool.{eqb-true, eq-eqb, false≢true}
use Rattle.std.proofs.lemmas.List.Elements.{All-head}
use Rattle.std.proofs.lemmas.List.FromFn.{get_or-range_with_len, length-range_with_len}
use Rattle.values.specs.Datum.{Datum}
use Rattle.expr.specs.Columns.{columns_of, columns_of_all, columns_of_arms}
use Rattle.expr.specs.Filled.{filled, filled_all, filled_arms, filled_firsts, literals, placed, placed_all, placed_arms, placed_firsts}
use Rattle.expr.specs.Term.{Term, Terms, Arms, literal, column, call, arithmetic, concat, compare, is, and, or, between, among, coalesce, choice, choice_of, null_if, like, none, answer, more, no_arms, arm}
use Rattle.expr.specs.Names.{answers_of, answers_of_all, answers_of_arms}
use Rattle.logical_plan_terms.specs.Over.{AreWhole, IsItself, IsOver}
use Rattle.expr.specs.Leaves.{place_in}
use Rattle.logical_plan_terms.proofs.PlacedLemmas.{AreOver, Over, OverAll, OverArms, first, later, no_answer, place_in-first}

-- ---- a column at its place

first_in_range : (from n at : ℕ) → from ≤ at → at < from + n → from + position_or_len (λ c. c == at) (range_with_len from n) ≡ at
first_in_range from zero at low high = absurd (omega (arith, low, high))
first_in_range from (suc n) at low high = by_test (from == at) refl (λ next. first_in_range (from + 1) n at next (omega (arith, high)))
  where
    by_test : (b : Bool) → (from == at) ≡ b → (from + 1 ≤ at → from + 1 + position_or_len (λ c. c == at) (range_with_len (from + 1) n) ≡ at)
        → from + cond (not b) (1 + position_or_len (λ c. c == at) (range_with_len (from + 1) n)) 0 ≡ at
    by_test true same behind = let here : from ≡ at = eqb-true from at same in omega (arith, here)
    by_test false other behind =
        let apart : ¬ (from ≡ at) = λ here. false≢true (sym other ∙ eq-eqb from at here) in
        let next : from + 1 ≤ at = omega (arith, low, apart) in
        let rest = behind next in
        omega (arith, rest)

held_below : (n at : ℕ) → Contains (range_with_len 0 n) at → at < n
held_below n at (k, within, same) =
    let short : k < n = omega (arith, within, length-range_with_len 0 n) in
    let place = get_or-range_with_len 0 n k at short in
    omega (arith, short, place, same)

pub place_itself : (read : List ℕ) (at : ℕ) → AreWhole read → Contains read at → place_in read at ≡ at
place_itself read at whole held =
    let below : at < length read = held_below (length read) at (subst (λ columns. Contains columns at) whole held) in
    let zero_low : 0 ≤ at = omega arith in
    let placed = first_in_range 0 (length read) at zero_low (omega (arith, below)) in
    let none_more : 0 + position_or_len (λ c. c == at) (range_with_len 0 (length read)) ≡ position_or_len (λ c. c == at) (range_with_len 0 (length read)) = omega arith in
    place_in-first read at ∙ ap (position_or_len (λ c. c == at)) whole ∙ sym none_more ∙ placed

-- ---- a term

module _ (read : List ℕ) (inner : ℕ) (answers : List (List Datum)) (few : length answers ≤ inner) (whole : AreWhole read) where
  fst : (a b : Term) → AreOver read inner (columns_of a ++ columns_of b) (answers_of a ++ answers_of b) → Over read inner a
  fst a b h = first read inner (columns_of a) (columns_of b) (answers_of a) (answers_of b) h

  snd : (a b : Term) → AreOver read inner (columns_of a ++ columns_of b) (answers_of a ++ answers_of b) → Over read inner b
  snd a b h = later read inner (columns_of a) (columns_of b) (answers_of a) (answers_of b) h

  mutual
    itself : (t : Term) → Over read inner t → placed read t ≡ filled answers t
    itself (literal v) h = refl
    itself (column i) h = ap column (place_itself read i whole (All-head (Contains read) i [] h.columns_are))
    itself (call f a) h = ap (call f) (itself a h)
    itself (arithmetic op a b) h = rw (itself a (fst a b h), itself b (snd a b h)) refl
    itself (concat a b) h = rw (itself a (fst a b h), itself b (snd a b h)) refl
    itself (compare op a b) h = rw (itself a (fst a b h), itself b (snd a b h)) refl
    itself (is a b) h = rw (itself a (fst a b h), itself b (snd a b h)) refl
    itself (and a b) h = rw (itself a (fst a b h), itself b (snd a b h)) refl
    itself (or a b) h = rw (itself a (fst a b h), itself b (snd a b h)) refl
    itself (null_if a b) h = rw (itself a (fst a b h), itself b (snd a b h)) refl
    itself (like a b) h = rw (itself a (fst a b h), itself b (snd a b h)) refl
    itself (between x a b) h =
        let rest : AreOver read inner (columns_of a ++ columns_of b) (answers_of a ++ answers_of b) =
        later read inner (columns_of x) (columns_of a ++ columns_of b) (answers_of x) (answers_of a ++ answers_of b) h in
        rw (
          itself x (first read inner (columns_of x) (columns_of a ++ columns_of b) (answers_of x) (answers_of a ++ answers_of b) h),
          itself a (fst a b rest),
          itself b (snd a b rest),
        ) refl
    itself (among x items) h =
        rw (
          itself x (first read inner (columns_of x) (columns_of_all items) (answers_of x) (answers_of_all items) h),
          itself_all items (later read inner (columns_of x) (columns_of_all items) (answers_of x) (answers_of_all items) h),
        ) refl
    itself (coalesce items) h = ap coalesce (itself_firsts items h)
    itself (choice rest e) h =
        rw (
          itself_arms rest (first read inner (columns_of_arms rest) (columns_of e) (answers_of_arms rest) (answers_of e) h),
          itself e (later read inner (columns_of_arms rest) (columns_of e) (answers_of_arms rest) (answers_of e) h),
        ) refl
    itself (choice_of x rest e) h =
        let behind : AreOver read inner (columns_of_arms rest ++ columns_of e) (answers_of_arms rest ++ answers_of e) =
        later read inner (columns_of x) (columns_of_arms rest ++ columns_of e) (answers_of x) (answers_of_arms rest ++ answers_of e) h in
        rw (
          itself x (first read inner (columns_of x) (columns_of_arms rest ++ columns_of e) (answers_of x) (answers_of_arms rest ++ answers_of e) h),
          itself_arms rest (first read inner (columns_of_arms rest) (columns_of e) (answers_of_arms rest) (answers_of e) behind),
          itself e (later read inner (columns_of_arms rest) (columns_of e) (answers_of_arms rest) (answers_of e) behind),
        ) refl

    itself_all : (ts : Terms) → OverAll read inner ts → placed_all read ts ≡ filled_all answers ts
    itself_all none h = refl
    itself_all (answer k) h =
        let behind : inner ≤ k = All-head (λ at. inner ≤ at) k [] h.answers_are in
        ap literals (sym (no_answer answers k (omega (arith, few, behind))))
    itself_all (more t ts) h =
        rw (
          itself t (first read inner (columns_of t) (columns_of_all ts) (answers_of t) (answers_of_all ts) h),
          itself_all ts (later read inner (columns_of t) (columns_of_all ts) (answers_of t) (answers_of_all ts) h),
        ) refl

    itself_firsts : (ts : Terms) → OverAll read inner ts → placed_firsts read ts ≡ filled_firsts answers ts
    itself_firsts none h = refl
    itself_firsts (answer k) h = refl
    itself_firsts (more t ts) h =
        rw (
          itself t (first read inner (columns_of t) (columns_of_all ts) (answers_of t) (answers_of_all ts) h),
          itself_firsts ts (later read inner (columns_of t) (columns_of_all ts) (answers_of t) (answers_of_all ts) h),
        ) refl

    itself_arms : (rest : Arms) → OverArms read inner rest → placed_arms read rest ≡ filled_arms answers rest
    itself_arms no_arms h = refl
    itself_arms (arm c e rest) h =
        let behind : AreOver read inner (columns_of e ++ columns_of_arms rest) (answers_of e ++ answers_of_arms rest) =
        later read inner (columns_of c) (columns_of e ++ columns_of_arms rest) (answers_of c) (answers_of e ++ answers_of_arms rest) h in
        rw (
          itself c (first read inner (columns_of c) (columns_of e ++ columns_of_arms rest) (answers_of c) (answers_of e ++ answers_of_arms rest) h),
          itself e (first read inner (columns_of e) (columns_of_arms rest) (answers_of e) (answers_of_arms rest) behind),
          itself_arms rest (later read inner (columns_of e) (columns_of_arms rest) (answers_of e) (answers_of_arms rest) behind),
        ) refl

pub placed_itself : (read : List ℕ) (inner : ℕ) (t : Term) → IsOver read inner t → AreWhole read → IsItself inner (placed read t) t
placed_itself read inner t over whole answers few =
    itself read inner answers few whole t (record { columns_are = over.columns; answers_are = over.answers })
