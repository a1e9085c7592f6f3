-- Sets of rows, each once, the rows that they have, and marks of them.
use Rattle.std.proofs.Common.{◌≡◌, ◌∙◌, ◌+◌, ◌||◌, ◌==◌, min, not, Bool, true, false, cond, if◌then◌else◌, ℕ, zero, suc, Option, Some, None, List, [], ◌∷◌, ◌++◌, append_assoc, drop, is_some, length, map, nat_lt, position, replicate, set, refl, sym, ap, arith, subst, true≢false}
use Rattle.std.specs.List.{IsDistinct, filter, items_where_true, list_any, position_or_len}
use Rattle.std.specs.List.Retain.{IsFiltered, ReturnsInTurn}
use Rattle.std.proofs.lemmas.Bool.{false≢true}
use Rattle.std.proofs.lemmas.List.Elements.{All-from_recursion}
use Rattle.std.proofs.lemmas.List.Folds.{list_any-append, list_any_none}
use Rattle.std.proofs.lemmas.Map.Keys.{IsDistinct-head, IsDistinct-tail}
use Rattle.values.specs.Row.{Row}
use Rattle.indexmap.specs.IndexSet.{insert_key}
use Rattle.semantics.specs.Query.{Operator, union, union_all, intersect, except}
use Rattle.semantics.specs.Times.{same_row, times}
use Rattle.semantics.proofs.TimesLemmas.{same_row-reads, same_row-turned}
use Rattle.operators_results.specs.distinct_results.Firsts.{firsts, unmet}
use Rattle.windows_groups.proofs.lemmas.distinct_rows.FirstLemmas.{are_firsts, firsts_push}
use Rattle.logical_plan.specs.answers.Arms.{each_once_if}
use Rattle.logical_plan.specs.answers.Joined.{filtered, has_row, is_kept, joined_rows}
use Rattle.logical_plan.proofs.lemmas.answers.JoinedLemmas.{apart, has_times, times-firsts}

-- ---- each once

abbrev differs : Row → Row → Bool
differs row other = not (same_row row other)

filter_twice : (p : Row → Bool) (rows : List Row) → filter p (filter p rows) ≡ filter p rows
filter_twice p [] = refl
filter_twice p (x ∷ xs) =
    elim (p x) as (λ b. p x ≡ b → filter p (cond b (x ∷ filter p xs) (filter p xs)) ≡ cond b (x ∷ filter p xs) (filter p xs)) [
      | true ↦ λ e. ap (λ b. cond b (x ∷ filter p (filter p xs)) (filter p (filter p xs))) e ∙ ap (λ l. x ∷ l) (filter_twice p xs)
      | false ↦ λ e. filter_twice p xs
    ] refl

filter_turned : (p q : Row → Bool) (rows : List Row) → filter p (filter q rows) ≡ filter q (filter p rows)
filter_turned p q [] = refl
filter_turned p q (x ∷ xs) =
    elim (q x) as (λ b. q x ≡ b → filter p (cond b (x ∷ filter q xs) (filter q xs)) ≡ filter q (filter p (x ∷ xs))) [
      | true ↦ λ e.
          elim (p x) as (λ a. cond a (x ∷ filter p (filter q xs)) (filter p (filter q xs)) ≡ filter q (cond a (x ∷ filter p xs) (filter p xs))) [
            | true ↦ ap (λ l. x ∷ l) (filter_turned p q xs) ∙ ap (λ b. cond b (x ∷ filter q (filter p xs)) (filter q (filter p xs))) (sym e)
            | false ↦ filter_turned p q xs
          ]
      | false ↦ λ e.
          elim (p x) as (λ a. filter p (filter q xs) ≡ filter q (cond a (x ∷ filter p xs) (filter p xs))) [
            | true ↦ filter_turned p q xs ∙ ap (λ b. cond b (x ∷ filter q (filter p xs)) (filter q (filter p xs))) (sym e)
            | false ↦ filter_turned p q xs
          ]
    ] refl

-- of rows that pass a test none is equal to one that doesn't
filter_apart : (p : Row → Bool) (x : Row) → p x ≡ false → (rows : List Row) → filter p (filter (differs x) rows) ≡ filter p rows
filter_apart p x fails [] = refl
filter_apart p x fails (z ∷ zs) =
    elim (same_row x z) as (λ b. same_row x z ≡ b → filter p (cond (not b) (z ∷ filter (differs x) zs) (filter (differs x) zs)) ≡ filter p (z ∷ zs)) [
      | true ↦ λ e.
          let out : p z ≡ false = subst (λ r. p r ≡ false) (same_row-reads x z e) fails in
          filter_apart p x fails zs ∙ sym (ap (λ b. cond b (z ∷ filter p zs) (filter p zs)) out)
      | false ↦ λ e. ap (λ l. cond (p z) (z ∷ l) l) (filter_apart p x fails zs)
    ] refl

firsts-filter : (p : Row → Bool) (rows : List Row) → firsts (filter p rows) ≡ filter p (firsts rows)
firsts-filter p [] = refl
firsts-filter p (x ∷ xs) =
    elim (p x) as (λ b. p x ≡ b → firsts (cond b (x ∷ filter p xs) (filter p xs))
    ≡ cond b (x ∷ filter p (filter (differs x) (firsts xs))) (filter p (filter (differs x) (firsts xs)))) [
      | true ↦ λ e. ap (λ l. x ∷ filter (differs x) l) (firsts-filter p xs) ∙ ap (λ l. x ∷ l) (filter_turned (differs x) p (firsts xs))
      | false ↦ λ e. firsts-filter p xs ∙ sym (filter_apart p x e (firsts xs))
    ] refl

pub firsts_same : (rows : List Row) → firsts (firsts rows) ≡ firsts rows
firsts_same [] = refl
firsts_same (x ∷ xs) =
    ap (λ l. x ∷ filter (differs x) l) (firsts-filter (differs x) (firsts xs) ∙ ap (filter (differs x)) (firsts_same xs))
    ∙ ap (λ l. x ∷ l) (filter_twice (differs x) (firsts xs))

-- behind others, rows count as their first ones do
pub once_behind : (distinct : Bool) (seen rows : List Row) → firsts (seen ++ rows) ≡ firsts (seen ++ each_once_if distinct rows)
once_behind true seen rows =
    are_firsts seen rows ∙ ap (λ more. firsts seen ++ unmet (firsts seen) more) (sym (firsts_same rows)) ∙ sym (are_firsts seen (firsts rows))
once_behind false seen rows = refl

-- a row more is put to them
pub put_more : (old new : List Row) (row : Row) (seen given : List Row) → old ≡ firsts (seen ++ given) → new ≡ insert_key same_row old row
    → new ≡ firsts (seen ++ (given ++ row ∷ []))
put_more old new row seen given is put =
    put ∙ ap (λ keys. insert_key same_row keys row) is ∙ sym (firsts_push (seen ++ given) row) ∙ ap firsts (append_assoc seen given (row ∷ []))

-- ---- those that others have

not_same : (a b : Bool) → not a ≡ not b → a ≡ b
not_same true true e = refl
not_same true false e = sym e
not_same false true e = sym e
not_same false false e = refl

least_one : (n : ℕ) → (min 1 n == 0) ≡ (n == 0)
least_one zero = refl
least_one (suc n) = let one : min 1 (suc n) ≡ 1 = omega arith in rw one (sym (apart n))

-- the first of rows have the rows that these have
has_firsts : (rows : List Row) (row : Row) → has_row (firsts rows) row ≡ has_row rows row
has_firsts rows row = not_same (has_row (firsts rows) row) (has_row rows row)
    (has_times row (firsts rows) ∙ ap (λ n. n == 0) (times-firsts row rows) ∙ least_one (times row rows) ∙ sym (has_times row rows))

pub filtered_once : (distinct wanted : Bool) (rows others : List Row) → filtered wanted rows others ≡ filtered wanted rows (each_once_if distinct others)
filtered_once true true rows others = ap (λ (has : Row → Bool). filter has rows) (λ i row. sym (has_firsts others row) i)
filtered_once true false rows others = ap (λ (has : Row → Bool). filter (λ row. not (has row)) rows) (λ i row. sym (has_firsts others row) i)
filtered_once false wanted rows others = refl

-- ---- joined

pub union_once : (left rows : List Row) → firsts (left ++ rows) ≡ firsts (joined_rows union left rows)
union_once left rows = sym (firsts_same (left ++ rows))

pub intersect_once : (left rows : List Row) → filtered true (firsts left) rows ≡ firsts (joined_rows intersect left rows)
intersect_once left rows = sym (firsts-filter (has_row rows) left) ∙ sym (firsts_same (filtered true left rows))

pub except_once : (left rows : List Row) → filtered false (firsts left) rows ≡ firsts (joined_rows except left rows)
except_once left rows = sym (firsts-filter (λ row. not (has_row rows row)) left) ∙ sym (firsts_same (filtered false left rows))

-- but for UNION ALL each row is there once
pub joined_once : (operator : Operator) → (operator ≡ union_all → ⊥) → (left rows : List Row) → firsts (joined_rows operator left rows) ≡ joined_rows operator left rows
joined_once union other left rows = firsts_same (left ++ rows)
joined_once union_all other left rows = absurd (other refl)
joined_once intersect other left rows = firsts_same (filtered true left rows)
joined_once except other left rows = firsts_same (filtered false left rows)

-- ---- marks

pub none_met : (keys : List Row) → replicate (length keys) false ≡ map (has_row []) keys
none_met [] = refl
none_met (key ∷ keys) = ap (λ l. false ∷ l) (none_met keys)

first_not : (a b : Bool) → (a || b) ≡ false → a ≡ false
first_not true b e = e
first_not false b e = refl

second_not : (a b : Bool) → (a || b) ≡ false → b ≡ false
second_not true b e = absurd (true≢false e)
second_not false b e = e

or_none : (a b : Bool) → b ≡ false → (a || b) ≡ a
or_none true b e = refl
or_none false b e = e

or_some : (a b : Bool) → b ≡ true → (a || b) ≡ true
or_some true b e = refl
or_some false b e = e

has_more : (rows : List Row) (row key : Row) → has_row (rows ++ row ∷ []) key ≡ (has_row rows key || same_row key row)
has_more rows row key = list_any-append (same_row key) rows (row ∷ []) ∙ ap (λ b. has_row rows key || b) (or_none (same_row key row) false refl)

-- a row that isn't there marks none
pub none_marked : (row : Row) (rows keys : List Row) → list_any (same_row row) keys ≡ false → map (has_row rows) keys ≡ map (has_row (rows ++ row ∷ [])) keys
none_marked row rows [] none = refl
none_marked row rows (key ∷ keys) none =
    let other = same_row-turned row key ∙ first_not (same_row row key) (list_any (same_row row) keys) none in
    ap (λ b. b ∷ map (has_row rows) keys) (sym (has_more rows row key ∙ or_none (has_row rows key) (same_row key row) other))
    ∙ ap (λ l. has_row (rows ++ row ∷ []) key ∷ l) (none_marked row rows keys (second_not (same_row row key) (list_any (same_row row) keys) none))

-- where each row is there once, the first that is equal is the only one
first_marked : (row : Row) (rows keys : List Row) → IsDistinct same_row keys → list_any (same_row row) keys ≡ true
    → set (map (has_row rows) keys) (position_or_len (same_row row) keys) true ≡ map (has_row (rows ++ row ∷ [])) keys
first_marked row rows [] once held = absurd (false≢true held)
first_marked row rows (key ∷ keys) once held =
    elim (same_row row key) as (λ b. same_row row key ≡ b → set (has_row rows key ∷ map (has_row rows) keys) (cond (not b) (1 + position_or_len (same_row row) keys) 0) true
    ≡ has_row (rows ++ row ∷ []) key ∷ map (has_row (rows ++ row ∷ [])) keys) [
      | true ↦ λ e.
          let apart = list_any_none (same_row key) keys (All-from_recursion (λ y. same_row key y ≡ false) keys (IsDistinct-head same_row key keys once)) in
          let others : list_any (same_row row) keys ≡ false = subst (λ r. list_any (same_row r) keys ≡ false) (sym (same_row-reads row key e)) apart in
          ap (λ l. true ∷ l) (none_marked row rows keys others)
          ∙ ap (λ b. b ∷ map (has_row (rows ++ row ∷ [])) keys)
          (sym (has_more rows row key ∙ or_some (has_row rows key) (same_row key row) (same_row-turned row key ∙ e)))
      | false ↦ λ e.
          let later : list_any (same_row row) keys ≡ true = sym (ap (λ b. b || list_any (same_row row) keys) e) ∙ held in
          let more : 1 + position_or_len (same_row row) keys ≡ suc (position_or_len (same_row row) keys) = omega arith in
          ap (λ n. set (has_row rows key ∷ map (has_row rows) keys) n true) more
          ∙ ap (λ b. b ∷ set (map (has_row rows) keys) (position_or_len (same_row row) keys) true)
          (sym (has_more rows row key ∙ or_none (has_row rows key) (same_row key row) (same_row-turned row key ∙ e)))
          ∙ ap (λ l. has_row (rows ++ row ∷ []) key ∷ l) (first_marked row rows keys (IsDistinct-tail same_row key keys once) later)
    ] refl

abbrev place_or : Option ℕ → ℕ
place_or (Some n) = n
place_or None = 0

place_is : (b : Bool) (n at : ℕ) → Some at ≡ cond b (Some n) None → at ≡ n
place_is true n at e = ap place_or e
place_is false n at e = absurd (true≢false (ap is_some e))

pub row_marked : (row : Row) (rows keys : List Row) (marks : List Bool) (at : ℕ) → IsDistinct same_row keys → list_any (same_row row) keys ≡ true
    → Some at ≡ position (same_row row) keys → marks ≡ map (has_row rows) keys → set marks at true ≡ map (has_row (rows ++ row ∷ [])) keys
row_marked row rows keys marks at once held found are =
    let n = position_or_len (same_row row) keys in
    ap (λ marks. set marks at true) are ∙ ap (λ n. set (map (has_row rows) keys) n true) (place_is (nat_lt n (length keys)) n at found)
    ∙ first_marked row rows keys once held

-- ---- those that stay

first_kept : {X : Type 0} (x : X) (xs ys : List X) (bs : List Bool) (b t : Bool) → b ≡ t → items_where_true bs xs ≡ ys → items_where_true (b ∷ bs) (x ∷ xs) ≡ cond t (x ∷ ys) ys
first_kept x xs ys bs true t e rest = ap (λ l. x ∷ l) rest ∙ ap (λ a. cond a (x ∷ ys) ys) e
first_kept x xs ys bs false t e rest = rest ∙ ap (λ a. cond a (x ∷ ys) ys) e

-- what a test leaves that answers by marks, one after the other
module _ {P X : Type 0} (R : P → X → Bool → P → Type 0) (wanted : Bool) (marks_of : P → List Bool) (Is : P → Type 0)
    (step : (p : P) (x : X) (b : Bool) (q : P) → Is p → R p x b q → (b ≡ is_kept wanted (marks_of p)) × (marks_of q ≡ drop 1 (marks_of p)) × Is q)
    (has : X → Bool) where
  told_marks : (bs : List Bool) (xs : List X) (p q : P) → Is p → length bs ≡ length xs → marks_of p ≡ map has xs → ReturnsInTurn R p bs xs q
      → items_where_true bs xs ≡ filter (λ x. if wanted then has x else not (has x)) xs
  told_marks [] [] p q is long marks told = refl
  told_marks [] (x ∷ xs) p q is long marks told = absurd (omega (arith, long))
  told_marks (b ∷ bs) [] p q is long marks told = absurd told
  told_marks (b ∷ bs) (x ∷ xs) p q is long marks told =
      let one = step p x b told.0 is told.1 in
      first_kept x xs _ bs b (if wanted then has x else not (has x)) (one.0 ∙ ap (is_kept wanted) marks)
      (told_marks bs xs told.0 q one.2 (omega (arith, long)) (one.1 ∙ ap (drop 1) marks) told.2)

  pub kept_by_marks : (xs ys : List X) (p : P) → Is p → marks_of p ≡ map has xs → IsFiltered R p xs ys
      → ys ≡ filter (λ x. if wanted then has x else not (has x)) xs
  kept_by_marks xs ys p is marks kept = kept.4 ∙ told_marks kept.0 xs p kept.1 is kept.2 marks kept.3

pub filtered_is : (wanted : Bool) (rows others : List Row) → filter (λ row. if wanted then has_row others row else not (has_row others row)) rows ≡ filtered wanted rows others
filtered_is true rows others = refl
filtered_is false rows others = refl
