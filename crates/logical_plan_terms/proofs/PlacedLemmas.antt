-- An expression over the columns that are read is the same on each row as its term.
use Rattle.std.proofs.Common.{◌≡◌, ◌∙◌, ◌==◌, ◌+◌, ◌≤◌, All, Bool, true, false, cond, not, Contains, ℕ, zero, suc, List, [], ◌∷◌, ◌++◌, length, ltb, slice_index_or, unwrap_or, Option, Some, None, refl, sym, ap, arith}
use Rattle.std.specs.List.{position_or_len, prefix_len}
use Rattle.std.specs.Option.{option_and_then}
use Rattle.std.proofs.lemmas.Bool.{eq-eqb, eqb-true, false≢true, ltb-false}
use Rattle.std.proofs.lemmas.List.Elements.{All-cons, All-head, All-nil, All-tail}
use Rattle.values.specs.Datum.{Datum}
use Rattle.values.specs.Row.{Row}
use Rattle.expr.specs.Columns.{columns_of, columns_of_all, columns_of_arms}
use Rattle.expr.specs.Filled.{filled, filled_all, filled_arms, filled_firsts, literals, placed, placed_all, placed_arms, placed_firsts}
use Rattle.expr.specs.operations.Functions.{call_of}
use Rattle.expr.specs.Meaning.{or_otherwise, run, run_all, run_arms, run_first}
use Rattle.expr.specs.Term.{Term, Terms, Arms, literal, column, call, arithmetic, concat, compare, is, and, or, between, among, coalesce, choice, choice_of, null_if, like, none, answer, more, no_arms, arm}
use Rattle.semantics.specs.OneTable.{shown}
use Rattle.semantics.specs.Sequence.{value_at}
use Rattle.expr.specs.Names.{answers_of, answers_of_all, answers_of_arms}
use Rattle.logical_plan_terms.specs.Over.{IsOver, StandsOver}
use Rattle.expr.specs.Leaves.{place_in}

-- what holds of each element of two lists holds of those of each
pub All-front : {X : Type 0} (P : X → Type 0) (xs ys : List X) → All P (xs ++ ys) → All P xs
All-front P [] ys all = All-nil P
All-front P (x ∷ xs) ys all = All-cons P x xs (All-head P x (xs ++ ys) all) (All-front P xs ys (All-tail P x (xs ++ ys) all))

pub All-back : {X : Type 0} (P : X → Type 0) (xs ys : List X) → All P (xs ++ ys) → All P ys
All-back P [] ys all = all
All-back P (x ∷ xs) ys all = All-back P xs ys (All-tail P x (xs ++ ys) all)

-- ---- a column at its place

held_behind : (at c : ℕ) (read : List ℕ) → (at == c) ≡ false → Contains (at ∷ read) c → Contains read c
held_behind at c read other (zero, within, same) = absurd (false≢true (sym other ∙ eq-eqb at c same))
held_behind at c read other (suc k, within, same) = (k, omega (arith, within), same)

prefix_len-le : {X : Type 0} (p : X → Bool) (xs : List X) → prefix_len p xs ≤ length xs
prefix_len-le p [] = omega arith
prefix_len-le p (x ∷ xs) = by_test (p x) (prefix_len-le p xs)
  where
    by_test : (b : Bool) → prefix_len p xs ≤ length xs → cond b (1 + prefix_len p xs) 0 ≤ suc (length xs)
    by_test true rest = omega (arith, rest)
    by_test false rest = omega arith

pub place_in-first : (read : List ℕ) (at : ℕ) → place_in read at ≡ position_or_len (λ c. c == at) read
place_in-first read at = by_test (ltb (position_or_len (λ c. c == at) read) (length read)) refl
  where
    by_test : (b : Bool) → ltb (position_or_len (λ c. c == at) read) (length read) ≡ b
        → unwrap_or (cond b (Some (position_or_len (λ c. c == at) read)) None) (length read) ≡ position_or_len (λ c. c == at) read
    by_test true short = refl
    by_test false long =
        let past : length read ≤ position_or_len (λ c. c == at) read = ltb-false (position_or_len (λ c. c == at) read) (length read) long in
        omega (arith, past, prefix_len-le (λ c. not (c == at)) read)

first_holds : (row : Row) (c : ℕ) (read : List ℕ) → Contains read c → value_at (shown read row) (position_or_len (λ at. at == c) read) ≡ value_at row c
first_holds row c [] held = absurd (let within = held.1 in omega (arith, within))
first_holds row c (at ∷ read) held = by_test (at == c) refl (first_holds row c read)
  where
    by_test : (b : Bool) → (at == c) ≡ b → (Contains read c → value_at (shown read row) (position_or_len (λ at. at == c) read) ≡ value_at row c)
        → value_at (value_at row at ∷ shown read row) (cond (not b) (1 + position_or_len (λ at. at == c) read) 0) ≡ value_at row c
    by_test true same behind = ap (value_at row) (eqb-true at c same)
    by_test false other behind =
        let next : 1 + position_or_len (λ at. at == c) read ≡ suc (position_or_len (λ at. at == c) read) = omega arith in
        ap (value_at (value_at row at ∷ shown read row)) next ∙ behind (held_behind at c read other held)

-- a column that is read has its value at its place
place_holds : (row : Row) (c : ℕ) (read : List ℕ) → Contains read c → value_at (shown read row) (place_in read c) ≡ value_at row c
place_holds row c read held = ap (value_at (shown read row)) (place_in-first read c) ∙ first_holds row c read held

-- ---- a term

same_bind : (f g : Datum → Option Datum) → ((v : Datum) → f v ≡ g v) → (m : Option Datum) → option_and_then f m ≡ option_and_then g m
same_bind f g same None = refl
same_bind f g same (Some v) = same v

-- each of these columns is read, and these are the places of no inner query
pub record AreOver (read : List ℕ) (inner : ℕ) (columns answers : List ℕ) : Type 0 where
  pub columns_are : All (Contains read) columns
  pub answers_are : All (λ at. inner ≤ at) answers

module _ (read : List ℕ) (inner : ℕ) where
  pub first : (xs ys us vs : List ℕ) → AreOver read inner (xs ++ ys) (us ++ vs) → AreOver read inner xs us
  first xs ys us vs over = record {
    columns_are = All-front (Contains read) xs ys over.columns_are;
    answers_are = All-front (λ at. inner ≤ at) us vs over.answers_are;
  }

  pub later : (xs ys us vs : List ℕ) → AreOver read inner (xs ++ ys) (us ++ vs) → AreOver read inner ys vs
  later xs ys us vs over = record {
    columns_are = All-back (Contains read) xs ys over.columns_are;
    answers_are = All-back (λ at. inner ≤ at) us vs over.answers_are;
  }

  abbrev pub Over : Term → Type 0
  Over t = AreOver read inner (columns_of t) (answers_of t)

  abbrev pub OverAll : Terms → Type 0
  OverAll ts = AreOver read inner (columns_of_all ts) (answers_of_all ts)

  abbrev pub OverArms : Arms → Type 0
  OverArms rest = AreOver read inner (columns_of_arms rest) (answers_of_arms rest)

pub no_answer : (answers : List (List Datum)) (k : ℕ) → length answers ≤ k → slice_index_or answers k [] ≡ []
no_answer [] k few = refl
no_answer (a ∷ answers) zero few = absurd (omega (arith, few))
no_answer (a ∷ answers) (suc k) few = no_answer answers k (omega (arith, few))

module _ (read : List ℕ) (inner : ℕ) (answers : List (List Datum)) (few : length answers ≤ inner) (o : Option Datum) (row : Row) where
  abbrev seen : Row
  seen = shown read row

  fst : (a b : Term) → AreOver read inner (columns_of a ++ columns_of b) (answers_of a ++ answers_of b) → Over read inner a
  fst a b h = first read inner (columns_of a) (columns_of b) (answers_of a) (answers_of b) h

  snd : (a b : Term) → AreOver read inner (columns_of a ++ columns_of b) (answers_of a ++ answers_of b) → Over read inner b
  snd a b h = later read inner (columns_of a) (columns_of b) (answers_of a) (answers_of b) h

  mutual
    stands : (t : Term) → Over read inner t → run o seen (placed read t) ≡ run o row (filled answers t)
    stands (literal v) h = refl
    stands (column i) h = ap Some (place_holds row i read (All-head (Contains read) i [] h.columns_are))
    stands (call f a) h = ap (option_and_then (call_of o f)) (stands a h)
    stands (arithmetic op a b) h = rw (stands a (fst a b h), stands b (snd a b h)) refl
    stands (concat a b) h = rw (stands a (fst a b h), stands b (snd a b h)) refl
    stands (compare op a b) h = rw (stands a (fst a b h), stands b (snd a b h)) refl
    stands (is a b) h = rw (stands a (fst a b h), stands b (snd a b h)) refl
    stands (and a b) h = rw (stands a (fst a b h), stands b (snd a b h)) refl
    stands (or a b) h = rw (stands a (fst a b h), stands b (snd a b h)) refl
    stands (null_if a b) h = rw (stands a (fst a b h), stands b (snd a b h)) refl
    stands (like a b) h = rw (stands a (fst a b h), stands b (snd a b h)) refl
    stands (between x a b) h =
        let rest : AreOver read inner (columns_of a ++ columns_of b) (answers_of a ++ answers_of b) =
        later read inner (columns_of x) (columns_of a ++ columns_of b) (answers_of x) (answers_of a ++ answers_of b) h in
        rw (
          stands x (first read inner (columns_of x) (columns_of a ++ columns_of b) (answers_of x) (answers_of a ++ answers_of b) h),
          stands a (fst a b rest),
          stands b (snd a b rest),
        ) refl
    stands (among x items) h =
        rw (
          stands x (first read inner (columns_of x) (columns_of_all items) (answers_of x) (answers_of_all items) h),
          stands_all items (later read inner (columns_of x) (columns_of_all items) (answers_of x) (answers_of_all items) h),
        ) refl
    stands (coalesce items) h = stands_first items h
    stands (choice rest e) h =
        rw (
          stands_arms None rest (first read inner (columns_of_arms rest) (columns_of e) (answers_of_arms rest) (answers_of e) h),
          stands e (later read inner (columns_of_arms rest) (columns_of e) (answers_of_arms rest) (answers_of e) h),
        ) refl
    stands (choice_of x rest e) h =
        let behind : AreOver read inner (columns_of_arms rest ++ columns_of e) (answers_of_arms rest ++ answers_of e) =
        later read inner (columns_of x) (columns_of_arms rest ++ columns_of e) (answers_of x) (answers_of_arms rest ++ answers_of e) h in
        same_bind
        (λ v. or_otherwise (run_arms o seen (Some v) (placed_arms read rest)) (run o seen (placed read e)))
        (λ v. or_otherwise (run_arms o row (Some v) (filled_arms answers rest)) (run o row (filled answers e)))
        (λ v. rw (
          stands_arms (Some v) rest (first read inner (columns_of_arms rest) (columns_of e) (answers_of_arms rest) (answers_of e) behind),
          stands e (later read inner (columns_of_arms rest) (columns_of e) (answers_of_arms rest) (answers_of e) behind),
        ) refl)
        (run o seen (placed read x))
        ∙ ap (option_and_then (λ v. or_otherwise (run_arms o row (Some v) (filled_arms answers rest)) (run o row (filled answers e))))
        (stands x (first read inner (columns_of x) (columns_of_arms rest ++ columns_of e) (answers_of x) (answers_of_arms rest ++ answers_of e) h))

    stands_all : (ts : Terms) → OverAll read inner ts → run_all o seen (placed_all read ts) ≡ run_all o row (filled_all answers ts)
    stands_all none h = refl
    stands_all (answer k) h =
        let behind : inner ≤ k = All-head (λ at. inner ≤ at) k [] h.answers_are in
        ap (λ values. run_all o row (literals values)) (sym (no_answer answers k (omega (arith, few, behind))))
    stands_all (more t ts) h =
        rw (
          stands t (first read inner (columns_of t) (columns_of_all ts) (answers_of t) (answers_of_all ts) h),
          stands_all ts (later read inner (columns_of t) (columns_of_all ts) (answers_of t) (answers_of_all ts) h),
        ) refl

    stands_first : (ts : Terms) → OverAll read inner ts → run_first o seen (placed_firsts read ts) ≡ run_first o row (filled_firsts answers ts)
    stands_first none h = refl
    stands_first (answer k) h = refl
    stands_first (more t ts) h =
        rw (
          stands t (first read inner (columns_of t) (columns_of_all ts) (answers_of t) (answers_of_all ts) h),
          stands_first ts (later read inner (columns_of t) (columns_of_all ts) (answers_of t) (answers_of_all ts) h),
        ) refl

    stands_arms : (x : Option Datum) (rest : Arms) → OverArms read inner rest
        → run_arms o seen x (placed_arms read rest) ≡ run_arms o row x (filled_arms answers rest)
    stands_arms x no_arms h = refl
    stands_arms x (arm c e rest) h =
        let behind : AreOver read inner (columns_of e ++ columns_of_arms rest) (answers_of e ++ answers_of_arms rest) =
        later read inner (columns_of c) (columns_of e ++ columns_of_arms rest) (answers_of c) (answers_of e ++ answers_of_arms rest) h in
        rw (
          stands c (first read inner (columns_of c) (columns_of e ++ columns_of_arms rest) (answers_of c) (answers_of e ++ answers_of_arms rest) h),
          stands e (first read inner (columns_of e) (columns_of_arms rest) (answers_of e) (answers_of_arms rest) behind),
          stands_arms x rest (later read inner (columns_of e) (columns_of_arms rest) (answers_of e) (answers_of_arms rest) behind),
        ) refl

-- the expression of a term over the columns that are read stands for it
pub placed_stands : (read : List ℕ) (inner : ℕ) (t : Term) → IsOver read inner t → StandsOver read inner (placed read t) t
placed_stands read inner t over answers few o row =
    stands read inner answers few o row t (record { columns_are = over.columns; answers_are = over.answers })
