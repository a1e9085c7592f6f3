-- Rows with how many equal ones stand before them.
use Rattle.std.proofs.Common.{◌≡◌, ◌∙◌, ◌+◌, ◌<◌, ℕ, zero, suc, Any, true, false, cond, List, [], ◌∷◌, filter, get_or, length, take, refl, sym, ap, arith}
use Rattle.values.specs.Row.{Row}
use Rattle.semantics.specs.Times.{same_row, times}
use Rattle.semantics.specs.Windows.{numbered, numbered_after, places, row_at}
use Rattle.windows.proofs.lemmas.window_results.PutLemmas.{length-range, range_at}

pub times-as_copies : (row : Row) (rows : List Row) → times row rows ≡ length (filter (same_row row) rows)
times-as_copies row [] = refl
times-as_copies row (x ∷ rows) =
    let ih = times-as_copies row rows in
    elim (same_row row x) as (λ b. cond b 1 0 + times row rows ≡ length (cond b (x ∷ filter (same_row row) rows) (filter (same_row row) rows))) [
      | true ↦ omega (arith, ih)
      | false ↦ omega (arith, ih)
    ]

pub length-numbered_after : (before rows : List Row) → length (numbered_after before rows) ≡ length rows
length-numbered_after before [] = refl
length-numbered_after before (row ∷ rows) = ap suc (length-numbered_after (row ∷ before) rows)

numbered_after_at : (before rows : List Row) (i : ℕ) (d : Row × ℕ) → i < length rows
    → get_or (numbered_after before rows) i d ≡ (row_at rows i, times (row_at rows i) (take i rows) + times (row_at rows i) before)
numbered_after_at before [] i d h = absurd (omega (arith, h))
numbered_after_at before (row ∷ rows) zero d h = let none : times row before ≡ 0 + times row before = omega arith in ap (λ n. (row, n)) none
numbered_after_at before (row ∷ rows) (suc i) d h =
    let ih = numbered_after_at (row ∷ before) rows i d (omega (arith, h)) in
    let this = row_at rows i in
    ih ∙ ap (λ n. (this, n)) (turned (times this (take i rows)) (cond (same_row this row) 1 0) (times this before))
  where
    turned : (a b c : ℕ) → a + (b + c) ≡ (b + a) + c
    turned a b c = omega arith

pub numbered_at : (rows : List Row) (i : ℕ) (d : Row × ℕ) → i < length rows → get_or (numbered rows) i d ≡ (row_at rows i, times (row_at rows i) (take i rows))
numbered_at rows i d h =
    let none : times (row_at rows i) (take i rows) + 0 ≡ times (row_at rows i) (take i rows) = omega arith in
    numbered_after_at [] rows i d h ∙ ap (λ n. (row_at rows i, n)) none

-- one of the places
pub some_place : {X : Type 0} (P : ℕ → Type 0) (xs : List X) → Any P (places xs) → (k : ℕ) × (k < length xs) × P k
some_place P xs some =
    let size = length-range (length xs) 0 in
    let inside : some.0 < length xs = omega (arith, some.2, size) in
    let is : some.1 ≡ some.0 = sym some.3 ∙ range_at (length xs) 0 some.0 some.1 inside ∙ (let none : 0 + some.0 ≡ some.0 = omega arith in none) in
    (some.1, omega (arith, inside, is), some.4)
