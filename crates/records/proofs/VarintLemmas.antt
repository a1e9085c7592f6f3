-- No varint begins another, bytes that end inside one begin with none, and what a step of reading finds.
use Rattle.std.proofs.Common.{◌≡◌, ℕ, ◌+◌, ◌-◌, ◌*◌, ◌%◌, ◌<◌, ◌≤◌, inl, inr, ℤ, List, [], ◌∷◌, ◌++◌, length, get_or, take, drop, All, refl, sym, ap, subst, ◌∙◌, arith}
use Rattle.std.proofs.lemmas.List.Sums.{fold-append}
use Rattle.std.proofs.lemmas.List.{get_or_append_left, get_or_at, length-append, length_push, take-append-drop, length-take, take_more}
use Rattle.std.proofs.lemmas.List.Elements.{All-get_or, All-more, All-nil}
use Rattle.std.proofs.lemmas.Bool.{cases_lt}
use Rattle.std.specs.Int.{w64, cast_signed}
use Rattle.records.specs.Varint.{seven_bits, GoesOn, IsVarint, BeginsVarint, EndsInside}
use Rattle.records.proofs.ListLemmas.{same_split}

pub seven_bits-push : (xs : List ℕ) (x : ℕ) → seven_bits (xs ++ x ∷ []) ≡ seven_bits xs * 128 + x % 128
seven_bits-push xs x = fold-append (λ high byte. high * 128 + byte % 128) 0 xs (x ∷ [])

-- how long a varint is, where its high bits are set and where they are clear
pub record Shape (bytes : List ℕ) : Type 0 where
  pub some : 0 < length bytes
  pub most : length bytes ≤ 9
  pub go_on : (k : ℕ) → k + 1 < length bytes → 128 ≤ get_or bytes k 0
  pub ends : length bytes < 9 → get_or bytes (length bytes - 1) 0 < 128

pub shape : (bytes : List ℕ) (value : ℤ) → IsVarint bytes value → Shape bytes
shape bytes value is =
    elim is.spelt [
      | inl s ↦
          let len : length bytes ≡ length s.front + 1 = ap length s.parts ∙ length_push s.front s.last in
          let at : length s.front ≡ length bytes - 1 = omega arith in
          record {
            some = omega arith;
            most = omega (arith, s.at_most_eight);
            go_on = λ k lt. rw (ap (λ (b : List ℕ). get_or b k 0) s.parts, get_or_append_left s.front (s.last ∷ []) 0 k (omega arith)) (All-get_or GoesOn s.front k 0 (omega arith) s.go_on);
            ends = λ _. rw (ap (λ (b : List ℕ). get_or b (length bytes - 1) 0) s.parts, get_or_at s.front s.last [] 0 (length bytes - 1) at) s.ends;
          }
      | inr s ↦
          let len : length bytes ≡ length s.front + 1 = ap length s.parts ∙ length_push s.front s.last in
          record {
            some = omega arith;
            most = omega (arith, s.eight);
            go_on = λ k lt. rw (ap (λ (b : List ℕ). get_or b k 0) s.parts, get_or_append_left s.front (s.last ∷ []) 0 k (omega arith)) (All-get_or GoesOn s.front k 0 (omega arith) s.go_on);
            ends = λ short. absurd (omega (arith, s.eight));
          }
    ]

-- a varint isn't a proper front of another
not_shorter : (a x b y : List ℕ) → Shape a → Shape b → a ++ x ≡ b ++ y → length a < length b → ⊥
not_shorter a x b y p q e lt =
    let k = length a - 1 in
    let here : get_or (a ++ x) k 0 ≡ get_or a k 0 = get_or_append_left a x 0 k (omega (arith, p.some)) in
    let there : get_or (b ++ y) k 0 ≡ get_or b k 0 = get_or_append_left b y 0 k (omega (arith, p.some)) in
    let same : get_or (a ++ x) k 0 ≡ get_or (b ++ y) k 0 = ap (λ (l : List ℕ). get_or l k 0) e in
    let low = p.ends (omega (arith, q.most)) in
    let high = q.go_on k (omega (arith, p.some)) in
    omega arith

same_value : (bytes : List ℕ) (v w : ℤ) → IsVarint bytes v → IsVarint bytes w → v ≡ w
same_value bytes v w p q =
    let bits : p.bits ≡ q.bits =
    elim p.spelt [
      | inl s ↦ elim q.spelt [
        | inl t ↦ s.number ∙ sym t.number
        | inr t ↦ absurd (omega (arith, ap length s.parts, length_push s.front s.last, s.at_most_eight, ap length t.parts, length_push t.front t.last, t.eight))
      ]
      | inr s ↦ elim q.spelt [
        | inl t ↦ absurd (omega (arith, ap length s.parts, length_push s.front s.last, s.eight, ap length t.parts, length_push t.front t.last, t.at_most_eight))
        | inr t ↦
            let whole : s.front ++ s.last ∷ [] ≡ t.front ++ t.last ∷ [] = sym s.parts ∙ t.parts in
            let fronts = (same_split s.front (s.last ∷ []) t.front (t.last ∷ []) whole (s.eight ∙ sym t.eight)).front in
            let lasts : s.last ≡ t.last =
            sym (get_or_at s.front s.last [] 0 8 s.eight) ∙ ap (λ (l : List ℕ). get_or l 8 0) whole ∙ get_or_at t.front t.last [] 0 8 t.eight in
            s.number ∙ ap (λ (l : List ℕ). seven_bits l * 256 + s.last) fronts ∙ ap (λ (n : ℕ). seven_bits t.front * 256 + n) lasts ∙ sym t.number
      ]
    ]
    in
    p.signed ∙ ap (cast_signed w64) bits ∙ sym q.signed

-- what two readings of the same bytes share
pub record SameReading (a x b y : List ℕ) (v w : ℤ) : Type 0 where
  pub varint : a ≡ b
  pub rest : x ≡ y
  pub value : v ≡ w

pub one_varint : (a x b y : List ℕ) (v w : ℤ) → IsVarint a v → IsVarint b w → a ++ x ≡ b ++ y → SameReading a x b y v w
one_varint a x b y v w p q e =
    let first = shape a v p in
    let second = shape b w q in
    let len : length a ≡ length b =
    elim (cases_lt (length a) (length b)) [
      | inl lt ↦ absurd (not_shorter a x b y first second e lt)
      | inr le ↦ elim (cases_lt (length b) (length a)) [ inl lt ↦ absurd (not_shorter b y a x second first (sym e) lt) | inr ge ↦ omega arith ]
    ]
    in
    let same = same_split a x b y e len in
    record { varint = same.front; rest = same.rest; value = same_value a v w p (rw same.front q) }

-- the same where both are a front of the bytes
pub one_front : (bytes : List ℕ) (v w : ℤ) (m n : ℕ) → BeginsVarint bytes v m → BeginsVarint bytes w n → (v ≡ w) × (m ≡ n)
one_front bytes v w m n p q =
    let e : take m bytes ++ drop m bytes ≡ take n bytes ++ drop n bytes = take-append-drop m bytes ∙ sym (take-append-drop n bytes) in
    let s = one_varint (take m bytes) (drop m bytes) (take n bytes) (drop n bytes) v w p.is q.is e in
    (s.value, omega (arith, ap length s.varint, p.within, q.within, length-take m bytes, length-take n bytes))

pub varint_some : (bytes : List ℕ) (value : ℤ) → IsVarint bytes value → 0 < length bytes
varint_some bytes value is = (shape bytes value is).some

-- bytes that end inside a varint begin with none
pub none_inside : (a x : List ℕ) (v : ℤ) → IsVarint a v → EndsInside (a ++ x) → ⊥
none_inside a x v p cut =
    let s = shape a v p in
    let long : length (a ++ x) ≡ length a + length x = length-append a x in
    let k = length a - 1 in
    let here : get_or (a ++ x) k 0 ≡ get_or a k 0 = get_or_append_left a x 0 k (omega (arith, s.some)) in
    let high : 128 ≤ get_or (a ++ x) k 0 = All-get_or GoesOn (a ++ x) k 0 (omega (arith, s.some)) cut.go_on in
    let low = s.ends (omega (arith, cut.short)) in
    omega arith

pub none_inside_front : (bytes : List ℕ) (v : ℤ) (len : ℕ) → BeginsVarint bytes v len → EndsInside bytes → ⊥
none_inside_front bytes v len b cut = none_inside (take len bytes) (drop len bytes) v b.is (subst EndsInside (sym (take-append-drop len bytes)) cut)

-- a byte below 128 ends a varint of at most eight
pub ends_short : (bytes : List ℕ) (read bits byte : ℕ) → read < 8 → read < length bytes → byte ≡ get_or bytes read 0 → byte < 128
    → All GoesOn (take read bytes) → bits ≡ seven_bits (take read bytes)
    → BeginsVarint bytes (cast_signed w64 (bits * 128 + byte % 128)) (read + 1)
ends_short bytes read bits byte lt in_it at low go_on so_far =
    let parts : take (read + 1) bytes ≡ take read bytes ++ byte ∷ [] =
    take_more bytes read 0 in_it ∙ ap (λ (b : ℕ). take read bytes ++ b ∷ []) (sym at) in
    record {
      within = omega arith;
      is = record {
        bits = bits * 128 + byte % 128;
        spelt = inl (record {
          front = take read bytes;
          last = byte;
          parts = parts;
          at_most_eight = omega (arith, length-take read bytes);
          go_on = go_on;
          ends = low;
          number = ap (λ (b : ℕ). b * 128 + byte % 128) so_far ∙ sym (ap seven_bits parts ∙ seven_bits-push (take read bytes) byte);
        });
        signed = refl;
      };
    }

-- two bytes with the high bit set and one below 128
pub ends_third : (bytes : List ℕ) (high middle low : ℕ) → 3 ≤ length bytes → 128 ≤ get_or bytes 0 0 → 128 ≤ get_or bytes 1 0 → get_or bytes 2 0 < 128
    → high ≡ get_or bytes 0 0 % 128 → middle ≡ get_or bytes 1 0 % 128 → low ≡ get_or bytes 2 0
    → BeginsVarint bytes (cast_signed w64 ((high * 128 + middle) * 128 + low)) 3
ends_third bytes high middle low long first second third is_high is_middle is_low =
    let one : All GoesOn (take 1 bytes) = All-more GoesOn bytes 0 0 (omega arith) (All-nil GoesOn) first in
    let two : All GoesOn (take 2 bytes) = All-more GoesOn bytes 1 0 (omega arith) one second in
    let front : seven_bits (take 1 bytes) ≡ 0 + get_or bytes 0 0 % 128 =
    ap seven_bits (take_more bytes 0 0 (omega arith)) ∙ seven_bits-push (take 0 bytes) (get_or bytes 0 0) in
    let spelt : seven_bits (take 2 bytes) ≡ seven_bits (take 1 bytes) * 128 + get_or bytes 1 0 % 128 =
    ap seven_bits (take_more bytes 1 0 (omega arith)) ∙ seven_bits-push (take 1 bytes) (get_or bytes 1 0) in
    let small : low % 128 ≡ low = omega (arith, third, is_low) in
    subst (λ (n : ℕ). BeginsVarint bytes (cast_signed w64 ((high * 128 + middle) * 128 + n)) 3) small
    (ends_short bytes 2 (high * 128 + middle) low (omega arith) (omega arith) is_low (omega (arith, third, is_low)) two (omega (arith, front, spelt, is_high, is_middle)))

-- a ninth byte ends one
pub ends_long : (bytes : List ℕ) (read bits byte : ℕ) → read ≡ 8 → read < length bytes → byte ≡ get_or bytes read 0
    → All GoesOn (take read bytes) → bits ≡ seven_bits (take read bytes)
    → BeginsVarint bytes (cast_signed w64 (bits * 256 + byte)) 9
ends_long bytes read bits byte eight in_it at go_on so_far =
    let parts : take 9 bytes ≡ take read bytes ++ byte ∷ [] =
    ap (λ (k : ℕ). take (k + 1) bytes) (sym eight) ∙ take_more bytes read 0 in_it ∙ ap (λ (b : ℕ). take read bytes ++ b ∷ []) (sym at) in
    record {
      within = omega arith;
      is = record {
        bits = bits * 256 + byte;
        spelt = inr (record {
          front = take read bytes;
          last = byte;
          parts = parts;
          eight = omega (arith, length-take read bytes);
          go_on = go_on;
          number = ap (λ (b : ℕ). b * 256 + byte) so_far;
        });
        signed = refl;
      };
    }
