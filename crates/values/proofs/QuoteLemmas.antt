-- A text with its quotes doubled, run by run.
use Rattle.std.proofs.Common.{◌≡◌, ◌≢◌, ℕ, zero, suc, ◌+◌, ◌-◌, ◌<◌, ◌≤◌, List, [], ◌∷◌, ◌++◌, take, drop, length, get_or, refl, ap, sym, ◌∙◌, append_assoc, arith, Ok, Err}
use Rattle.std.proofs.lemmas.Grind.{common_steps}
use Rattle.std.proofs.lemmas.List.{take_rest, take-append-drop, drop-drop, drop_more, get_or-drop}
use Rattle.std.proofs.Common.{length-drop}
use Rattle.values.specs.Literal.{quoted, quoted_all}
use Rattle.values.specs.Sink.{SinkFacts, Writes}
use Rattle.values.specs.declared.fault.Fault.{Fault}
use Rattle.memchr.specs.Find.{IsFirstByte, is_byte}
use Rattle.std.proofs.lemmas.Bool.{eqb-true, eq-eqb}
use Rattle.std.proofs.Common.{Some, None}
use Rattle.values.proofs.SinkLemmas.{Writes-none, Writes-then, Writes-cut, take-add}

quoted-other : (byte : ℕ) → byte ≢ 39 → quoted byte ≡ byte ∷ []
quoted-other byte other = grind (arith, common_steps)

-- a text without quotes is written as it is
pub quoted_all-none : (xs : List ℕ) → ((k : ℕ) → k < length xs → get_or xs k 0 ≢ 39) → quoted_all xs ≡ xs
quoted_all-none [] none = refl
quoted_all-none (x ∷ xs) none =
    rw (quoted-other x (none 0 (omega arith))) (ap (λ t. x ∷ t) (quoted_all-none xs (λ k h. none (suc k) (omega arith))))

-- up to its first quote, which stands twice
pub quoted_all-first : (xs : List ℕ) (i : ℕ) → i < length xs → ((k : ℕ) → k < i → get_or xs k 0 ≢ 39) → get_or xs i 0 ≡ 39
    → quoted_all xs ≡ take (suc i) xs ++ (39 ∷ quoted_all (drop (suc i) xs))
quoted_all-first (x ∷ xs) zero within before is = rw is refl
quoted_all-first (x ∷ xs) (suc i) within before is =
    rw (quoted-other x (before 0 (omega arith)))
    (ap (λ t. x ∷ t) (quoted_all-first xs i (omega arith) (λ k h. before (suc k) (omega arith)) is))
quoted_all-first [] i within before is = absurd (omega arith)

-- what `memchr` found
pub record IsFirstQuote (xs : List ℕ) (i : ℕ) : Type 0 where
  pub within : i < length xs
  pub before : (k : ℕ) → k < i → get_or xs k 0 ≢ 39
  pub is : get_or xs i 0 ≡ 39

pub first_quote : (xs : List ℕ) (i : ℕ) → IsFirstByte (is_byte 39) xs (Some i) → IsFirstQuote xs i
first_quote xs i found = record {
  within = found.0.high;
  before = λ k below same. found.0.before k (omega arith) below (eq-eqb _ _ same);
  is = eqb-true _ _ found.1;
}

pub no_quote : (xs : List ℕ) → IsFirstByte (is_byte 39) xs None → (k : ℕ) → k < length xs → get_or xs k 0 ≢ 39
no_quote xs none k below same = none k (omega arith) below (eq-eqb _ _ same)

-- What is written of a text: all but this piece, of which the first `seen` bytes are no quotes that wait for a second.
pub record Quoting (text piece : List ℕ) (seen : ℕ) (start now : SinkFacts) : Type 0 where
  pub within : seen ≤ length piece
  pub short : length piece ≤ length text
  pub done : List ℕ
  pub whole : done ++ (take seen piece ++ quoted_all (drop seen piece)) ≡ quoted_all text
  pub writes : Writes {T = Unit {0}} done (Ok (tt {0})) start now

pub Quoting-start : (text : List ℕ) (start : SinkFacts) → Quoting text text 0 start start
Quoting-start text start = record { within = omega arith; short = omega arith; done = []; whole = refl; writes = Writes-none (tt {0}) start }

module _ (text piece : List ℕ) (seen : ℕ) (start now : SinkFacts) (q : Quoting text piece seen start now) where
  -- no quote is left
  pub Quoting-last : IsFirstByte (is_byte 39) (take (length piece - seen) (drop seen piece)) None → q.done ++ piece ≡ quoted_all text
  Quoting-last none =
      let same = quoted_all-none (drop seen piece) (no_quote _ (rw (take_rest piece seen) at none)) in
      ap (λ t. q.done ++ t) (sym (take-append-drop seen piece) ∙ ap (λ t. take seen piece ++ t) (sym same)) ∙ q.whole

  module _ (ahead : ℕ) (found : IsFirstByte (is_byte 39) (take (length piece - seen) (drop seen piece)) (Some ahead)) where
    first : IsFirstQuote (drop seen piece) ahead
    first = first_quote _ _ (rw (take_rest piece seen) at found)

    pub Quoting-within : seen + ahead < length piece
    Quoting-within = omega (arith, first.within, length-drop seen piece)

    -- the piece that is written next, and what it leaves
    pub Quoting-whole : (q.done ++ take (seen + ahead + 1) piece) ++ (39 ∷ quoted_all (drop (seen + ahead + 1) piece)) ≡ quoted_all text
    Quoting-whole =
        let split : take (seen + ahead + 1) piece ≡ take seen piece ++ take (suc ahead) (drop seen piece) =
        ap (λ n. take n piece) (omega arith) ∙ take-add seen (suc ahead) piece in
        let rest : drop (seen + ahead + 1) piece ≡ drop (suc ahead) (drop seen piece) =
        ap (λ n. drop n piece) (omega arith) ∙ sym (drop-drop (suc ahead) seen piece) in
        let first = quoted_all-first (drop seen piece) ahead first.within first.before first.is in
        rw (split, rest) (simp append_assoc (ap (λ t. q.done ++ (take seen piece ++ t)) (sym first) ∙ q.whole))

    -- a failure in that piece is one in the text
    pub Quoting-cut : {T : Type 0} (e : Fault) (new : SinkFacts) → Writes {T = Unit {0}} (take (seen + ahead + 1) piece) (Err e) now new
        → Writes {T = T} (quoted_all text) (Err e) start new
    Quoting-cut e new failed =
        rw (← Quoting-whole)
        (Writes-cut {U = Unit {0}} e (q.done ++ take (seen + ahead + 1) piece) (39 ∷ quoted_all (drop (seen + ahead + 1) piece)) start new
        (Writes-then _ _ q.done _ _ _ _ q.writes failed))

    -- the quote begins the next piece
    pub Quoting-more : (v : Unit {0}) (new : SinkFacts) → Writes {T = Unit {0}} (take (seen + ahead + 1) piece) (Ok v) now new
        → Quoting text (take (length piece - (seen + ahead)) (drop (seen + ahead) piece)) 1 start new
    Quoting-more v new written =
        let within : seen + ahead < length piece = Quoting-within in
        let quote : get_or piece (seen + ahead) 0 ≡ 39 = sym (get_or-drop seen piece ahead 0) ∙ first.is in
        let next : drop (seen + ahead) piece ≡ 39 ∷ drop (seen + ahead + 1) piece = drop_more piece (seen + ahead) 0 within ∙ ap (λ b. b ∷ drop (seen + ahead + 1) piece) quote in
        let shorter : length (39 ∷ drop (seen + ahead + 1) piece) ≤ length text = omega (arith, length-drop (seen + ahead + 1) piece, q.short) in
        rw (take_rest piece (seen + ahead), next) (record {
          within = omega arith;
          short = shorter;
          done = q.done ++ take (seen + ahead + 1) piece;
          whole = Quoting-whole;
          writes = Writes-then _ _ q.done _ _ _ _ q.writes written;
        })
