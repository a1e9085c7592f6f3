-- A row's text tells where it ends, and its values.
use Rattle.std.proofs.Common.{◌≡◌, ◌≢◌, ℕ, All, List, [], ◌∷◌, ◌++◌, length, map, refl, sym, ap, ◌∙◌, arith, append_assoc, append-nil, inl, inr}
use Rattle.std.specs.List.{join_with_byte}
use Rattle.std.proofs.lemmas.List.{length-append}
use Rattle.std.proofs.lemmas.List.Elements.{All-head, All-tail}
use Rattle.values.specs.Datum.{Datum}
use Rattle.values.specs.Literal.{literal}
use Rattle.values.specs.Row.{Row}
use Rattle.explain.specs.Text.{IsInRange, row_text, rows_text}
use Rattle.explain.proofs.LiteralLemmas.{AreOneInRange, IsBehind, literal_told, literal-no_feed, head, tail}

-- what stands behind the values before these
behind : Row → List ℕ
behind [] = 10 ∷ []
behind (x ∷ xs) = 44 ∷ (literal x ++ behind xs)

row_text-first : (x : Datum) (xs : Row) → row_text (x ∷ xs) ≡ literal x ++ behind xs
unfolding behind
row_text-first x [] = refl
row_text-first x (y ∷ ys) =
    append_assoc (literal x) (44 ∷ join_with_byte 44 (map literal (y ∷ ys))) (10 ∷ [])
    ∙ ap (λ t. literal x ++ (44 ∷ t)) (row_text-first y ys)

behind_is : (xs : Row) (s : List ℕ) → IsBehind (behind xs ++ s)
unfolding behind
behind_is [] s = inr refl
behind_is (x ∷ xs) s = inl refl

-- rows whose whole numbers have 64 bits are told apart by their texts
abbrev AreOneRow : Row → Row → Type 0
AreOneRow xs ys = All IsInRange xs → All IsInRange ys → xs ≡ ys

module _ (x y : Datum) (xs ys : Row) where
  more_told : AreOneInRange x y → AreOneRow xs ys → AreOneRow (x ∷ xs) (y ∷ ys)
  more_told first rest fit others =
      let same = first (All-head IsInRange x xs fit) (All-head IsInRange y ys others) in
      let follow = rest (All-tail IsInRange x xs fit) (All-tail IsInRange y ys others) in
      λ i. same i ∷ follow i

behind_told : (xs ys : Row) (s t : List ℕ) → behind xs ++ s ≡ behind ys ++ t → AreOneRow xs ys × (s ≡ t)
unfolding behind
behind_told [] [] s t e = (λ _ _. refl, tail e)
behind_told [] (y ∷ ys) s t e = absurd (omega (arith, head e))
behind_told (x ∷ xs) [] s t e = absurd (omega (arith, head e))
behind_told (x ∷ xs) (y ∷ ys) s t e =
    let apart = sym (append_assoc (literal x) (behind xs) s) ∙ tail e ∙ append_assoc (literal y) (behind ys) t in
    let first = literal_told x y (behind xs ++ s) (behind ys ++ t) (behind_is xs s) (behind_is ys t) apart in
    let rest = behind_told xs ys s t first.1 in
    (more_told x y xs ys first.0 rest.0, rest.1)

first_told : (x y : Datum) (xs ys : Row) (s t : List ℕ)
    → (literal x ++ behind xs) ++ s ≡ (literal y ++ behind ys) ++ t → AreOneRow (x ∷ xs) (y ∷ ys) × (s ≡ t)
unfolding behind
first_told x y xs ys s t e = behind_told (x ∷ xs) (y ∷ ys) s t (ap (λ l. 44 ∷ l) e)

-- the first value's literal stands at the front
at_front : (x : Datum) (xs : Row) (s : List ℕ) → row_text (x ∷ xs) ++ s ≡ literal x ++ (behind xs ++ s)
at_front x xs s = ap (λ l. l ++ s) (row_text-first x xs) ∙ append_assoc (literal x) (behind xs) s

-- what is behind a row is told too
pub row_told : (xs ys : Row) (s t : List ℕ) → row_text xs ++ s ≡ row_text ys ++ t → AreOneRow xs ys × (s ≡ t)
row_told [] [] s t e = (λ _ _. refl, tail e)
row_told [] (y ∷ ys) s t e = absurd (literal-no_feed y (behind ys ++ t) s (sym (at_front y ys t) ∙ sym e))
row_told (x ∷ xs) [] s t e = absurd (literal-no_feed x (behind xs ++ s) t (sym (at_front x xs s) ∙ e))
row_told (x ∷ xs) (y ∷ ys) s t e =
    first_told x y xs ys s t
    (ap (λ l. l ++ s) (sym (row_text-first x xs)) ∙ e ∙ ap (λ l. l ++ t) (row_text-first y ys))

module _ (first second : Row) (rest : List ℕ) (begins : row_text first ++ rest ≡ row_text second) where
  told : AreOneRow first second × (rest ≡ [])
  told = row_told first second rest [] (begins ∙ sym (append-nil (row_text second)))

  -- no row's text begins another's
  pub same_text : row_text first ≡ row_text second
  same_text = sym (append-nil (row_text first)) ∙ ap (λ l. row_text first ++ l) (sym told.1) ∙ begins

  pub same_row : All IsInRange first → All IsInRange second → first ≡ second
  same_row = told.0

-- a row has a text
some_text : (row : Row) (s : List ℕ) → row_text row ++ s ≢ []
some_text row s e =
    let feed = length-append (join_with_byte 44 (map literal row)) (10 ∷ []) in
    omega (arith, feed, length-append (row_text row) s, ap length e)

pub one_list : (first second : List Row) → All (All IsInRange) first → All (All IsInRange) second
    → rows_text first ≡ rows_text second → first ≡ second
one_list [] [] fit others e = refl
one_list [] (ys ∷ second) fit others e = absurd (some_text ys (rows_text second) (sym e))
one_list (xs ∷ first) [] fit others e = absurd (some_text xs (rows_text first) e)
one_list (xs ∷ first) (ys ∷ second) fit others e =
    let row = row_told xs ys (rows_text first) (rows_text second) e in
    let same = row.0 (All-head (All IsInRange) xs first fit) (All-head (All IsInRange) ys second others) in
    let rest = one_list first second (All-tail (All IsInRange) xs first fit) (All-tail (All IsInRange) ys second others) row.1 in
    λ i. same i ∷ rest i
