-- Rows that an operator joins.
use Rattle.std.proofs.Common.{◌≡◌, ◌∙◌, ◌+◌, ◌||◌, ◌==◌, min, not, Bool, true, false, cond, if◌then◌else◌, ℕ, zero, suc, List, [], ◌∷◌, ◌++◌, refl, sym, ap, arith, true≢false}
use Rattle.std.specs.List.{filter}
use Rattle.std.proofs.lemmas.Bool.{false≢true}
use Rattle.std.proofs.lemmas.Bool.Decides.{nat_tests}
use Rattle.values.specs.Row.{Row}
use Rattle.semantics.specs.Query.{Operator, union, union_all, intersect, except}
use Rattle.semantics.specs.Times.{combined, once, rule_of, same_row, times}
use Rattle.semantics.proofs.CountLemmas.{count-append}
use Rattle.semantics.proofs.TimesLemmas.{bags_are_times, rules_are_times, same_row-itself, same_row-reads, times-once}
use Rattle.windows_groups.specs.distinct_rows.Firsts.{firsts}
use Rattle.windows_groups.proofs.lemmas.distinct_rows.FirstLemmas.{firsts_are_once}
use Rattle.logical_plan.specs.answers.Joined.{JoinedIsCombined, filtered, has_row, joined_rows}

pub times-firsts : (r : Row) (rows : List Row) → times r (firsts rows) ≡ min 1 (times r rows)
times-firsts r rows = sym ((bags_are_times (once rows) (firsts rows)).0 (firsts_are_once rows) r) ∙ times-once r rows

times-append : (r : Row) (xs ys : List Row) → times r (xs ++ ys) ≡ times r xs + times r ys
times-append r xs ys = count-append same_row same_row-reads same_row-itself r xs ys

-- rows that pass a test
times-filter : (p : Row → Bool) (r : Row) (rows : List Row) → times r (filter p rows) ≡ cond (p r) (times r rows) 0
times-filter p r [] = elim (p r) as (λ b. ◌≡◌ {A = ℕ} 0 (cond b 0 0)) [ true ↦ refl | false ↦ refl ]
times-filter p r (x ∷ xs) =
    elim (same_row r x) as (λ b. same_row r x ≡ b → times r (cond (p x) (x ∷ filter p xs) (filter p xs)) ≡ cond (p r) (cond b 1 0 + times r xs) 0) [
      | true ↦ λ e.
          rw (sym (same_row-reads r x e))
          (elim (p r) as (λ b. p r ≡ b → times r (cond b (r ∷ filter p xs) (filter p xs)) ≡ cond b (1 + times r xs) 0) [
            | true ↦ λ q. rw (same_row-itself r) (ap (λ n. 1 + n) (times-filter p r xs ∙ ap (λ b. cond b (times r xs) 0) q))
            | false ↦ λ q. times-filter p r xs ∙ ap (λ b. cond b (times r xs) 0) q
          ] refl)
      | false ↦ λ e.
          let other : times r (cond (p x) (x ∷ filter p xs) (filter p xs)) ≡ times r (filter p xs) =
          elim (p x) as (λ b. times r (cond b (x ∷ filter p xs) (filter p xs)) ≡ times r (filter p xs)) [
            | true ↦ ap (λ b. cond b 1 0 + times r (filter p xs)) e ∙ omega arith
            | false ↦ refl
          ] in
          other ∙ times-filter p r xs ∙ elim (p r) as (λ b. cond b (times r xs) 0 ≡ cond b (0 + times r xs) 0) [ true ↦ omega arith | false ↦ refl ]
    ] refl

pub apart : (n : ℕ) → (suc n == 0) ≡ false
apart n = grind (arith, nat_tests)

-- a list has a row exactly where it has it once or more often
pub has_times : (r : Row) (rows : List Row) → not (has_row rows r) ≡ (times r rows == 0)
has_times r [] = refl
has_times r (x ∷ xs) =
    elim (same_row r x) as (λ b. not (b || has_row xs r) ≡ (cond b 1 0 + times r xs == 0)) [
      | true ↦ let some : 1 + times r xs ≡ suc (times r xs) = omega arith in rw some (sym (apart (times r xs)))
      | false ↦ let same : 0 + times r xs ≡ times r xs = omega arith in rw same (has_times r xs)
    ]

-- how often each operator has a row
joined_times : (operator : Operator) (r : Row) (xs ys : List Row) → times r (joined_rows operator xs ys) ≡ rule_of operator (times r xs) (times r ys)
joined_times union r xs ys = times-firsts r (xs ++ ys) ∙ ap (min 1) (times-append r xs ys)
joined_times union_all r xs ys = times-append r xs ys
joined_times intersect r xs ys =
    times-firsts r (filtered true xs ys) ∙ ap (min 1) (times-filter (has_row ys) r xs) ∙ of (has_row ys r) (times r xs) (times r ys) (has_times r ys)
  where
    of : (b : Bool) (m n : ℕ) → not b ≡ (n == 0) → min 1 (cond b m 0) ≡ min 1 (min m n)
    of true m zero e = absurd (false≢true e)
    of true m (suc n) e = omega arith
    of false m zero e = omega arith
    of false m (suc n) e = absurd (true≢false (e ∙ apart n))
joined_times except r xs ys =
    times-firsts r (filtered false xs ys) ∙ ap (min 1) (times-filter (λ row. not (has_row ys row)) r xs)
    ∙ ap (λ b. min 1 (cond b (times r xs) 0)) (has_times r ys)
    ∙ elim (times r ys == 0) as (λ b. min 1 (cond b (times r xs) 0) ≡ (if b then min 1 (times r xs) else 0)) [ true ↦ refl | false ↦ omega arith ]

pub joined_is_combined : JoinedIsCombined
joined_is_combined operator xs first ys second p q =
    (bags_are_times (combined operator xs ys) (joined_rows operator first second)).1
    (λ r. rules_are_times operator xs ys r
    ∙ ap (λ m. rule_of operator m (times r ys)) ((bags_are_times xs first).0 p r)
    ∙ ap (rule_of operator (times r first)) ((bags_are_times ys second).0 q r)
    ∙ sym (joined_times operator r first second))
