-- The reader of spaces and comments finds exactly the one that stands at the front.
use Rattle.std.proofs.Common.{◌≡◌, ℕ, true, false, List, [], ◌∷◌, Some, None, nat_eq, refl, sym, ap, ◌∙◌, subst}
use mathlib.Core.Logic.{inl, inr}
use Rattle.std.proofs.lemmas.Bool.{cond-true, cond-false, eqb-true, and_parts}
use Rattle.sql_reader_tokens.proofs.FormLemmas.{chosen, run_complete, run_sound}
use Rattle.sql_reader_tokens.specs.byte_runs.Bytes.{is_space, is_not}
use Rattle.sql_reader_tokens.specs.Lexeme.{Closes, Blank, ends_comment}
use Rattle.sql_reader_tokens.specs.byte_runs.Runs.{run_of}
use Rattle.sql_reader_tokens.specs.Reading.{tail, after_comment, line_comment, block_comment, blank}

pub closes_complete : {bs after : List ℕ} → Closes bs after → after_comment bs ≡ Some after
closes_complete Closes.here = refl
closes_complete (Closes.later h r) = cond-false _ _ _ h ∙ closes_complete r

closes_here : (b : ℕ) (bs after : List ℕ) → ends_comment (b ∷ bs) ≡ true → tail bs ≡ after → Closes (b ∷ bs) after
closes_here b [] after h e = absurd (let k = (and_parts (nat_eq b 42) false h).1 in cc)
closes_here b (c ∷ cs) after h e =
    let k = and_parts (nat_eq b 42) (nat_eq c 47) h in
    subst (Closes (b ∷ c ∷ cs)) e (subst (λ d. Closes (d ∷ c ∷ cs) cs) (sym (eqb-true b 42 k.0)) (subst (λ d. Closes (42 ∷ d ∷ cs) cs) (sym (eqb-true c 47 k.1)) Closes.here))

some_inj : (x y : List ℕ) → Some x ≡ Some y → x ≡ y
some_inj x y h = cc

pub closes_sound : (bs after : List ℕ) → after_comment bs ≡ Some after → Closes bs after
closes_sound [] after h = absurd cc
closes_sound (b ∷ bs) after h = elim (chosen (ends_comment (b ∷ bs)) (Some (tail bs)) (after_comment bs) (Some after) h) [
  | inl k ↦ closes_here b bs after k.0 (some_inj (tail bs) after k.1)
  | inr k ↦ Closes.later k.0 (closes_sound bs after k.1)
]

pub blank_complete : {from after : List ℕ} → Blank from after → blank from ≡ Some after
unfolding blank
blank_complete (Blank.space h) = cond-true _ _ _ h
blank_complete (Blank.line_comment r) = ap (λ (p : List ℕ × List ℕ). Some p.1) (run_complete r)
blank_complete (Blank.block_comment r) = closes_complete r

line_sound : (bs after : List ℕ) → line_comment bs ≡ Some after → Blank (45 ∷ bs) after
line_sound [] after h = absurd cc
line_sound (b ∷ bs) after h = elim (chosen (nat_eq b 45) (Some (run_of (is_not 10) bs).1) None (Some after) h) [
  | inl k ↦ subst (λ c. Blank (45 ∷ c ∷ bs) after) (sym (eqb-true b 45 k.0)) (subst (Blank (45 ∷ 45 ∷ bs)) (some_inj _ after k.1) (Blank.line_comment (run_sound (is_not 10) bs)))
  | inr k ↦ absurd (let n = k.1 in cc)
]

block_sound : (bs after : List ℕ) → block_comment bs ≡ Some after → Blank (47 ∷ bs) after
block_sound [] after h = absurd cc
block_sound (b ∷ bs) after h = elim (chosen (nat_eq b 42) (after_comment bs) None (Some after) h) [
  | inl k ↦ subst (λ c. Blank (47 ∷ c ∷ bs) after) (sym (eqb-true b 42 k.0)) (Blank.block_comment (closes_sound bs after k.1))
  | inr k ↦ absurd (let n = k.1 in cc)
]

pub blank_sound : (from after : List ℕ) → blank from ≡ Some after → Blank from after
unfolding blank
blank_sound [] after h = absurd cc
blank_sound (b ∷ bs) after h = elim (chosen (is_space b) (Some bs) _ (Some after) h) [
  | inl k ↦ subst (Blank (b ∷ bs)) (some_inj bs after k.1) (Blank.space k.0)
  | inr k ↦ elim (chosen (nat_eq b 45) (line_comment bs) _ (Some after) k.1) [
    | inl j ↦ subst (λ c. Blank (c ∷ bs) after) (sym (eqb-true b 45 j.0)) (line_sound bs after j.1)
    | inr j ↦ elim (chosen (nat_eq b 47) (block_comment bs) None (Some after) j.1) [
      | inl i ↦ subst (λ c. Blank (c ∷ bs) after) (sym (eqb-true b 47 i.0)) (block_sound bs after i.1)
      | inr i ↦ absurd (let n = i.1 in cc)
    ]
  ]
]
