-- Rows of which each is given once.
use Rattle.std.proofs.Common.{◌≡◌, ◌∙◌, ◌+◌, ◌||◌, min, not, Bool, true, false, cond, if◌then◌else◌, ℕ, List, [], ◌∷◌, ◌++◌, append-nil, append_assoc, refl, sym, ap, subst, arith, IsPermutation}
use Rattle.std.specs.List.{filter, list_any}
use Rattle.values.specs.Row.{Row}
use Rattle.indexmap.specs.IndexSet.{insert_key}
use Rattle.semantics.specs.Times.{once, same_row, times}
use Rattle.semantics.proofs.TimesLemmas.{bags_are_times, same_row-reads, same_row-turned, times-once}
use Rattle.semantics.proofs.ScanLemmas.{filter-all}
use Rattle.windows_groups.specs.distinct_rows.Firsts.{firsts, unmet}

abbrev differs : Row → Row → Bool
differs row other = not (same_row row other)

-- ---- as a bag

differs_times : (r x : Row) (ys : List Row) → times r (filter (differs x) ys) ≡ cond (same_row r x) 0 (times r ys)
differs_times r x [] = elim (same_row r x) as (λ b. ◌≡◌ {A = ℕ} 0 (cond b 0 0)) [ true ↦ refl | false ↦ refl ]
differs_times r x (y ∷ ys) =
    elim (same_row x y) as (λ b. same_row x y ≡ b
    → times r (cond (not b) (y ∷ filter (differs x) ys) (filter (differs x) ys)) ≡ cond (same_row r x) 0 (cond (same_row r y) 1 0 + times r ys)) [
      | true ↦ λ e.
          differs_times r x ys
          ∙ elim (same_row r x) as (λ b. cond b 0 (times r ys) ≡ cond b 0 (cond b 1 0 + times r ys)) [ true ↦ refl | false ↦ omega arith ]
          ∙ ap (λ c. cond (same_row r x) 0 (cond c 1 0 + times r ys)) (ap (same_row r) (same_row-reads x y e))
      | false ↦ λ e.
          elim (same_row r x) as (λ b. same_row r x ≡ b → times r (filter (differs x) ys) ≡ cond b 0 (times r ys)
          → cond (same_row r y) 1 0 + times r (filter (differs x) ys) ≡ cond b 0 (cond (same_row r y) 1 0 + times r ys)) [
            | true ↦ λ p before.
                let out : same_row r y ≡ false = ap (λ q. same_row q y) (same_row-reads r x p) ∙ e in
                ap (λ c. cond c 1 0 + times r (filter (differs x) ys)) out ∙ omega (arith, before)
            | false ↦ λ p before. ap (λ n. cond (same_row r y) 1 0 + n) before
          ] refl (differs_times r x ys)
    ] refl

firsts_times : (r : Row) (rows : List Row) → times r (firsts rows) ≡ min 1 (times r rows)
firsts_times r [] = omega arith
firsts_times r (x ∷ xs) =
    ap (λ n. cond (same_row r x) 1 0 + n) (differs_times r x (firsts xs) ∙ ap (cond (same_row r x) 0) (firsts_times r xs))
    ∙ elim (same_row r x) as (λ b. cond b 1 0 + cond b 0 (min 1 (times r xs)) ≡ min 1 (cond b 1 0 + times r xs)) [ true ↦ omega arith | false ↦ omega arith ]

pub firsts_are_once : (rows : List Row) → IsPermutation (once rows) (firsts rows)
firsts_are_once rows = (bags_are_times (once rows) (firsts rows)).1 (λ r. times-once r rows ∙ sym (firsts_times r rows))

-- ---- row by row

pub unmet_none : (rows : List Row) → unmet [] rows ≡ rows
unmet_none rows = filter-all (λ row. not (list_any (same_row row) [])) (λ row. refl) rows

any_push : (x row : Row) (met : List Row) → list_any (same_row x) (met ++ row ∷ []) ≡ (same_row x row || list_any (same_row x) met)
any_push x row [] = refl
any_push x row (m ∷ met) = ap (λ b. same_row x m || b) (any_push x row met) ∙ turned (same_row x m) (same_row x row) (list_any (same_row x) met)
  where
    turned : (a b c : Bool) → (a || (b || c)) ≡ (b || (a || c))
    turned true true c = refl
    turned true false c = refl
    turned false true c = refl
    turned false false c = refl

-- those that differ from a row that was met
unmet_met : (met : List Row) (row : Row) → list_any (same_row row) met ≡ true → (xs : List Row) → unmet met (filter (differs row) xs) ≡ unmet met xs
unmet_met met row held [] = refl
unmet_met met row held (x ∷ xs) =
    elim (same_row row x) as (λ b. same_row row x ≡ b → unmet met (cond (not b) (x ∷ filter (differs row) xs) (filter (differs row) xs)) ≡ unmet met (x ∷ xs)) [
      | true ↦ λ e.
          let gone : list_any (same_row x) met ≡ true = subst (λ r. list_any (same_row r) met ≡ true) (same_row-reads row x e) held in
          unmet_met met row held xs ∙ sym (ap (λ b. cond (not b) (x ∷ unmet met xs) (unmet met xs)) gone)
      | false ↦ λ e. ap (λ rest. cond (not (list_any (same_row x) met)) (x ∷ rest) rest) (unmet_met met row held xs)
    ] refl

-- those that differ from a row that is met now
unmet_more : (met : List Row) (row : Row) (xs : List Row) → unmet met (filter (differs row) xs) ≡ unmet (met ++ row ∷ []) xs
unmet_more met row [] = refl
unmet_more met row (x ∷ xs) =
    elim (same_row row x) as (λ b. same_row row x ≡ b
    → unmet met (cond (not b) (x ∷ filter (differs row) xs) (filter (differs row) xs)) ≡ unmet (met ++ row ∷ []) (x ∷ xs)) [
      | true ↦ λ e. unmet_more met row xs ∙ sym (ap behind (any_push x row met ∙ ap (λ c. c || list_any (same_row x) met) (same_row-turned row x ∙ e)))
      | false ↦ λ e.
          ap (λ rest. cond (not (list_any (same_row x) met)) (x ∷ rest) rest) (unmet_more met row xs)
          ∙ sym (ap behind (any_push x row met ∙ ap (λ c. c || list_any (same_row x) met) (same_row-turned row x ∙ e)))
    ] refl
  where
    behind : Bool → List Row
    behind b = cond (not b) (x ∷ unmet (met ++ row ∷ []) xs) (unmet (met ++ row ∷ []) xs)

module _ (met : List Row) (row : Row) (rows : List Row) where
  -- a row that was met is passed over
  pub met_passed : list_any (same_row row) met ≡ true → unmet met (firsts (row ∷ rows)) ≡ unmet met (firsts rows)
  met_passed held = ap (λ b. cond (not b) (row ∷ unmet met (filter (differs row) (firsts rows))) (unmet met (filter (differs row) (firsts rows)))) held
      ∙ unmet_met met row held (firsts rows)

  -- another is the next
  pub new_first : list_any (same_row row) met ≡ false → unmet met (firsts (row ∷ rows)) ≡ row ∷ unmet (met ++ row ∷ []) (firsts rows)
  new_first out = ap (λ b. cond (not b) (row ∷ unmet met (filter (differs row) (firsts rows))) (unmet met (filter (differs row) (firsts rows)))) out
      ∙ ap (λ rest. row ∷ rest) (unmet_more met row (firsts rows))

-- ---- each once

-- the rows that were seen have these first rows, whatever rows follow
abbrev pub AreFirsts : List Row → List Row → Type 0
AreFirsts keys seen = (rest : List Row) → firsts (seen ++ rest) ≡ keys ++ unmet keys (firsts rest)

pub firsts_none : AreFirsts [] []
firsts_none rest = sym (unmet_none (firsts rest))

pub firsts_more : (keys seen : List Row) (row : Row) → AreFirsts keys seen → AreFirsts (insert_key same_row keys row) (seen ++ row ∷ [])
firsts_more keys seen row are rest =
    ap firsts (append_assoc seen (row ∷ []) rest) ∙ are (row ∷ rest)
    ∙ elim (list_any (same_row row) keys) as (λ b. list_any (same_row row) keys ≡ b → keys ++ unmet keys (firsts (row ∷ rest))
    ≡ (if b then keys else (keys ++ row ∷ [])) ++ unmet (if b then keys else (keys ++ row ∷ [])) (firsts rest)) [
      | true ↦ λ e. ap (λ more. keys ++ more) (met_passed keys row rest e)
      | false ↦ λ e. ap (λ more. keys ++ more) (new_first keys row rest e) ∙ sym (append_assoc keys (row ∷ []) (unmet (keys ++ row ∷ []) (firsts rest)))
    ] refl

pub firsts_whole : (keys seen : List Row) → AreFirsts keys seen → keys ≡ firsts seen
firsts_whole keys seen are = sym (append-nil keys) ∙ sym (are []) ∙ ap firsts (append-nil seen)

grown : (more keys seen : List Row) → AreFirsts keys seen → (all : List Row) × AreFirsts all (seen ++ more)
grown [] keys seen are = (keys, subst (AreFirsts keys) (sym (append-nil seen)) are)
grown (row ∷ more) keys seen are =
    let rest = grown more (insert_key same_row keys row) (seen ++ row ∷ []) (firsts_more keys seen row are) in
    (rest.0, subst (AreFirsts rest.0) (append_assoc seen (row ∷ []) more) rest.1)

-- the first of rows, and of rows behind them
pub are_firsts : (seen : List Row) → AreFirsts (firsts seen) seen
are_firsts seen =
    let found = grown seen [] [] firsts_none in
    subst (λ (keys : List Row). AreFirsts keys seen) (firsts_whole found.0 seen found.1) found.1

pub firsts_push : (seen : List Row) (row : Row) → firsts (seen ++ row ∷ []) ≡ insert_key same_row (firsts seen) row
firsts_push seen row = sym (firsts_whole (insert_key same_row (firsts seen) row) (seen ++ row ∷ []) (firsts_more (firsts seen) seen row (are_firsts seen)))

-- of all rows these were taken, and others are left
pub taken_more : (taken : List Row) (row : Row) (before after all : List Row) → before ≡ row ∷ after → taken ++ before ≡ all → (taken ++ row ∷ []) ++ after ≡ all
taken_more taken row before after all first is = append_assoc taken (row ∷ []) after ∙ ap (λ rest. taken ++ rest) (sym first) ∙ is
