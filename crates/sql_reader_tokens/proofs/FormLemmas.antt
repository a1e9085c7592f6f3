-- The reader of runs and of what stands between quotes finds exactly what the definitions say.
use Rattle.std.proofs.Common.{◌≡◌, ℕ, Bool, true, false, not, suc, ◌+◌, ◌*◌, ◌%◌, ◌⊎◌, List, [], ◌∷◌, length, Option, Some, None, cond, nat_eq, refl, sym, ap, ◌∙◌, subst, arith}
use mathlib.Core.Logic.{inl, inr}
use Rattle.std.proofs.lemmas.Bool.{cond-true, cond-false, eqb-true, eq-eqb}
use Rattle.sql_reader_tokens.specs.byte_runs.Bytes.{is_hex_digit, hex_value}
use Rattle.sql_reader_tokens.specs.Content.{undoubled, unhex}
use Rattle.sql_reader_tokens.specs.Lexeme.{Run, Stops, Quoted, Hex}
use Rattle.sql_reader_tokens.specs.byte_runs.Runs.{Taken, cons_taken, run_of, cons_some, quoted}
use Rattle.sql_reader_tokens.specs.Reading.{stops, closed}

-- which way a test went
pub chosen : {A : Type 0} (b : Bool) (x y z : A) → cond b x y ≡ z → ((b ≡ true) × (x ≡ z)) ⊎ ((b ≡ false) × (y ≡ z))
chosen true x y z h = inl (refl, h)
chosen false x y z h = inr (refl, h)

pub run_complete : {p : ℕ → Bool} {bs run after : List ℕ} → Run p bs run after → run_of p bs ≡ (run, after)
run_complete Run.end = refl
run_complete (Run.stop h) = cond-false _ _ _ h
run_complete (Run.more {b = b} h r) = cond-true _ _ _ h ∙ ap (cons_taken b) (run_complete r)

run_test : (p : ℕ → Bool) (b : ℕ) (bs : List ℕ) (c : Bool) → p b ≡ c → Run p bs (run_of p bs).0 (run_of p bs).1
    → (let r = cond c (cons_taken b (run_of p bs)) ([], b ∷ bs) in Run p (b ∷ bs) r.0 r.1)
run_test p b bs true h r = Run.more h r
run_test p b bs false h r = Run.stop h

pub run_sound : (p : ℕ → Bool) (bs : List ℕ) → Run p bs (run_of p bs).0 (run_of p bs).1
run_sound p [] = Run.end
run_sound p (b ∷ bs) = run_test p b bs (p b) refl (run_sound p bs)

pub stops_true : {p : ℕ → Bool} {bs : List ℕ} → Stops p bs → stops p bs ≡ true
stops_true Stops.at_end = refl
stops_true (Stops.at_byte h) = ap not h

not_true : (c : Bool) → not c ≡ true → c ≡ false
not_true true h = sym h
not_true false h = refl

pub true_stops : (p : ℕ → Bool) (bs : List ℕ) → stops p bs ≡ true → Stops p bs
true_stops p [] h = Stops.at_end
true_stops p (b ∷ bs) h = Stops.at_byte (not_true (p b) h)

-- a quote that is written twice stands for one
undoubled_pair : (q : ℕ) (inside : List ℕ) → undoubled q false (q ∷ q ∷ inside) ≡ q ∷ undoubled q false inside
undoubled_pair q inside =
    let same : nat_eq q q ≡ true = eq-eqb q q refl in
    ap (λ passed. q ∷ undoubled q passed (q ∷ inside)) same ∙ ap (λ bs. q ∷ bs) (cond-true (nat_eq q q) _ _ same)

undoubled_other : (q b : ℕ) (inside : List ℕ) → nat_eq b q ≡ false → undoubled q false (b ∷ inside) ≡ b ∷ undoubled q false inside
undoubled_other q b inside h = ap (λ passed. b ∷ undoubled q passed inside) h

after_quote : (q : ℕ) (after : List ℕ) → Stops (λ b. nat_eq b q) after → quoted q true after ≡ Some ([], after)
after_quote q [] h = refl
after_quote q (b ∷ bs) (Stops.at_byte h) = cond-false _ _ _ h

-- what was read, and the content that it is
pub record Read (q : ℕ) (bs content after : List ℕ) : Type 0 where
  pub inside : List ℕ
  pub found : quoted q false bs ≡ Some (inside, after)
  pub content_is : undoubled q false inside ≡ content

pub quoted_complete : {q : ℕ} {bs content after : List ℕ} → Quoted q bs content after → Read q bs content after
quoted_complete {q = q} (Quoted.close {after = after} h) =
    record { inside = []; found = cond-true (nat_eq q q) _ _ (eq-eqb q q refl) ∙ after_quote q after h; content_is = refl }
quoted_complete {q = q} (Quoted.doubled {bs = bs} {content = content} {after = after} r) =
    let x = quoted_complete r in
    let same : nat_eq q q ≡ true = eq-eqb q q refl in
    record {
      inside = q ∷ q ∷ x.inside;
      found = cond-true (nat_eq q q) (quoted q true (q ∷ bs)) (cons_some q (quoted q false (q ∷ bs))) same
          ∙ (cond-true (nat_eq q q) (cons_some q (cons_some q (quoted q false bs))) (Some ([], q ∷ bs)) same ∙ ap (λ o. cons_some q (cons_some q o)) x.found);
      content_is = undoubled_pair q x.inside ∙ ap (λ c. q ∷ c) x.content_is;
    }
quoted_complete {q = q} (Quoted.plain {b = b} {bs = bs} h r) =
    let x = quoted_complete r in
    record {
      inside = b ∷ x.inside;
      found = cond-false _ _ _ h ∙ ap (cons_some b) x.found;
      content_is = undoubled_other q b x.inside h ∙ ap (λ c. b ∷ c) x.content_is;
    }

some_cons : (b : ℕ) (o : Option Taken) (r : Taken) → cons_some b o ≡ Some r → (x : Taken) × (o ≡ Some x) × (cons_taken b x ≡ r)
some_cons b None r h = absurd cc
some_cons b (Some x) r h = (x, refl, (let i : Some (cons_taken b x) ≡ Some r = h in cc))

-- the bytes from the quote that was just passed
abbrev from_quote : ℕ → Bool → List ℕ → List ℕ
from_quote q false bs = bs
from_quote q true bs = q ∷ bs

abbrev QuotedAt : ℕ → List ℕ → Taken → Type 0
QuotedAt q bs r = Quoted q bs (undoubled q false r.0) r.1

quoted_pair : (q : ℕ) (bs : List ℕ) (r : Taken) → QuotedAt q bs r → QuotedAt q (q ∷ q ∷ bs) (cons_taken q (cons_taken q r))
quoted_pair q bs r h = subst (λ c. Quoted q (q ∷ q ∷ bs) c r.1) (sym (undoubled_pair q r.0)) (Quoted.doubled h)

quoted_other : (q b : ℕ) (bs : List ℕ) (r : Taken) → nat_eq b q ≡ false → QuotedAt q bs r → QuotedAt q (b ∷ bs) (cons_taken b r)
quoted_other q b bs r n h = subst (λ c. Quoted q (b ∷ bs) c r.1) (sym (undoubled_other q b r.0 n)) (Quoted.plain n h)

quoted_by : (q : ℕ) (passed : Bool) (bs : List ℕ) (r : Taken) → quoted q passed bs ≡ Some r → QuotedAt q (from_quote q passed bs) r
quoted_by q false [] r h = absurd cc
quoted_by q true [] r h = subst (QuotedAt q (q ∷ [])) (let i : ([], []) ≡ r = cc in i) (Quoted.close Stops.at_end)
quoted_by q false (b ∷ bs) r h = elim (chosen (nat_eq b q) (quoted q true bs) (cons_some b (quoted q false bs)) (Some r) h) [
  | inl k ↦ subst (λ c. QuotedAt q (c ∷ bs) r) (sym (eqb-true b q k.0)) (quoted_by q true bs r k.1)
  | inr k ↦ let a = some_cons b (quoted q false bs) r k.1 in subst (QuotedAt q (b ∷ bs)) a.2 (quoted_other q b bs a.0 k.0 (quoted_by q false bs a.0 a.1))
]
quoted_by q true (b ∷ bs) r h = elim (chosen (nat_eq b q) (cons_some q (cons_some q (quoted q false bs))) (Some ([], b ∷ bs)) (Some r) h) [
  | inl k ↦
      let a = some_cons q (cons_some q (quoted q false bs)) r k.1 in
      let c = some_cons q (quoted q false bs) a.0 a.1 in
      subst (λ d. QuotedAt q (q ∷ d ∷ bs) r) (sym (eqb-true b q k.0)) (subst (QuotedAt q (q ∷ q ∷ bs)) (ap (cons_taken q) c.2 ∙ a.2) (quoted_pair q bs c.0 (quoted_by q false bs c.0 c.1)))
  | inr k ↦ subst (QuotedAt q (q ∷ b ∷ bs)) (let i : ([], b ∷ bs) ≡ r = (let j = k.1 in cc) in i) (Quoted.close (Stops.at_byte k.0))
]

pub quoted_sound : (q : ℕ) (bs : List ℕ) (r : Taken) → quoted q false bs ≡ Some r → Quoted q bs (undoubled q false r.0) r.1
quoted_sound q = quoted_by q false

pub closed_complete : {p : ℕ → Bool} {bs inside after : List ℕ} (c : ℕ) → Run p bs inside (c ∷ after) → closed (run_of p bs) ≡ Some (inside, after)
closed_complete c r = ap closed (run_complete r)

-- the digits that were read, and the bytes that they are
pub record ReadHex (bs bytes after : List ℕ) : Type 0 where
  pub digits : List ℕ
  pub run : Run is_hex_digit bs digits (39 ∷ after)
  pub even : length digits % 2 ≡ 0
  pub bytes_are : unhex digits ≡ bytes
  pub apart : Stops (λ b. nat_eq b 39) after

pub hex_complete : {bs bytes after : List ℕ} → Hex bs bytes after → ReadHex bs bytes after
hex_complete (Hex.close h) = record { digits = []; run = Run.stop refl; even = refl; bytes_are = refl; apart = h }
hex_complete (Hex.pair {high = high} {low = low} h l r) =
    let x = hex_complete r in
    record {
      digits = high ∷ low ∷ x.digits;
      run = Run.more h (Run.more l x.run);
      even = (let e : length x.digits % 2 ≡ 0 = x.even in omega arith);
      bytes_are = ap (λ bs. (16 * hex_value high + hex_value low) ∷ bs) x.bytes_are;
      apart = x.apart;
    }

pub hex_sound : {bs digits rest : List ℕ} → Run is_hex_digit bs digits rest → (after : List ℕ) → rest ≡ 39 ∷ after → length digits % 2 ≡ 0
    → Stops (λ b. nat_eq b 39) after → Hex bs (unhex digits) after
hex_sound Run.end after e even st = absurd cc
hex_sound (Run.stop h) after e even st = subst (λ xs. Hex xs [] after) (sym e) (Hex.close st)
hex_sound (Run.more h Run.end) after e even st = absurd cc
hex_sound (Run.more h (Run.stop l)) after e even st = absurd (let odd : 1 % 2 ≡ 0 = even in omega arith)
hex_sound (Run.more h (Run.more {run = digits} l r)) after e even st = Hex.pair h l (hex_sound r after e (let n : suc (suc (length digits)) % 2 ≡ 0 = even in omega arith) st)
