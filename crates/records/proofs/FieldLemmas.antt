-- One field: its body's length, its one value, and what has no value.
use Rattle.std.proofs.Common.{◌≡◌, ℕ, ◌+◌, ◌*◌, ◌%◌, ◌≤◌, ◌⊎◌, inl, inr, ℤ, pos, negsuc, cond, eqb, ltb, List, length, refl, sym, ap, ◌∙◌, arith}
use Rattle.std.specs.Prelude.{IsUtf8, ◌≤ℤ◌, ◌<ℤ◌, unsigned_abs, nat_lt, ◌==◌, if◌then◌else◌}
use Rattle.std.proofs.lemmas.Bool.Decides.{nat_tests}
use Rattle.std.proofs.lemmas.Int.{ints}
use Rattle.values.specs.Datum.{Datum, null, int, text, blob}
use Rattle.records.specs.Serial.{IsField, is_null, is_int, is_zero, is_one, is_blob, is_text, IsReserved, is_ten, is_eleven, is_below, body_len, big_endian}

pub body_len-blob : (n : ℕ) → body_len (pos (12 + 2 * n)) ≡ n
body_len-blob n = grind (arith, nat_tests)

pub body_len-text : (n : ℕ) → body_len (pos (13 + 2 * n)) ≡ n
body_len-text n = grind (arith, nat_tests)

pub field_len : (serial : ℤ) (body : List ℕ) (v : Datum) → IsField serial body v → length body ≡ body_len serial
field_len serial body v h = elim h [
  | is_null e b w ↦ ap length b ∙ sym (ap body_len e)
  | is_int low high n w ↦ n
  | is_zero e b w ↦ ap length b ∙ sym (ap body_len e)
  | is_one e b w ↦ ap length b ∙ sym (ap body_len e)
  | is_blob e w ↦ sym (ap body_len e ∙ body_len-blob (length body))
  | is_text e u w ↦ sym (ap body_len e ∙ body_len-text (length body))
]

-- ---- a type and a body have one value at most

-- the value of a type and a body, where they have one
abbrev pub value_at : ℤ → List ℕ → Datum
value_at (pos n) body =
    if n == 0 then null
    else (if nat_lt n 7 then int (big_endian body)
    else (if n == 8 then int (pos 0)
    else (if n == 9 then int (pos 1) else (if n % 2 == 0 then blob body else text body))))
value_at (negsuc n) body = null

value_at-int : (serial : ℤ) (body : List ℕ) → pos 1 ≤ℤ serial → serial ≤ℤ pos 6 → int (big_endian body) ≡ value_at serial body
value_at-int (pos n) body low high =
    let l : 1 ≤ n = omega (arith, ints) in
    let h : n ≤ 6 = omega (arith, ints) in
    at n (big_endian body) body l h
  where
    at : (n : ℕ) (z : ℤ) (body : List ℕ) → 1 ≤ n → n ≤ 6
        → int z ≡ cond (eqb n 0) null (cond (ltb n 7) (int z) (cond (eqb n 8) (int (pos 0)) (cond (eqb n 9) (int (pos 1)) (cond (eqb (n % 2) 0) (blob body) (text body)))))
    at n z body l h = grind (arith, nat_tests)
value_at-int (negsuc n) body low high = absurd (omega (arith, ints))

value_at-blob : (body : List ℕ) (n : ℕ) → blob body ≡ value_at (pos (12 + 2 * n)) body
value_at-blob body n = grind (arith, nat_tests)

value_at-text : (body : List ℕ) (n : ℕ) → text body ≡ value_at (pos (13 + 2 * n)) body
value_at-text body n = grind (arith, nat_tests)

pub field_means : (serial : ℤ) (body : List ℕ) (v : Datum) → IsField serial body v → v ≡ value_at serial body
field_means serial body v h = elim h [
  | is_null e b w ↦ w ∙ ap (λ (s : ℤ). value_at s body) (sym e)
  | is_int low high n w ↦ w ∙ value_at-int serial body low high
  | is_zero e b w ↦ w ∙ ap (λ (s : ℤ). value_at s body) (sym e)
  | is_one e b w ↦ w ∙ ap (λ (s : ℤ). value_at s body) (sym e)
  | is_blob e w ↦ w ∙ value_at-blob body (length body) ∙ ap (λ (s : ℤ). value_at s body) (sym e)
  | is_text e u w ↦ w ∙ value_at-text body (length body) ∙ ap (λ (s : ℤ). value_at s body) (sym e)
]

-- ---- what breaks a field keeps it from having a value

-- a type of which some body is a value
pub record HasValue (serial : ℤ) : Type 0 where
  pub body : List ℕ
  pub value : Datum
  pub is : IsField serial body value

pub float_has_none : (serial : ℤ) → HasValue serial → serial ≡ pos 7 → ⊥
float_has_none serial v s = elim v.is [
  | is_null e b w ↦ absurd cc
  | is_int low high n w ↦ omega (arith, ints)
  | is_zero e b w ↦ omega (arith, ap unsigned_abs (sym e ∙ s))
  | is_one e b w ↦ omega (arith, ap unsigned_abs (sym e ∙ s))
  | is_blob e w ↦ omega (arith, ap unsigned_abs (sym e ∙ s))
  | is_text e u w ↦ omega (arith, ap unsigned_abs (sym e ∙ s))
]

pub reserved_has_none : (serial : ℤ) → HasValue serial → IsReserved serial → ⊥
reserved_has_none serial v r = elim r [
  | is_ten s ↦ at_number 10 serial v (inl refl) s
  | is_eleven s ↦ at_number 11 serial v (inr refl) s
  | is_below low ↦ at_below serial v low
]
  where
    at_number : (n : ℕ) (serial : ℤ) → HasValue serial → (n ≡ 10) ⊎ (n ≡ 11) → serial ≡ pos n → ⊥
    at_number n serial v which s = elim v.is [
      | is_null e b w ↦ omega (arith, which, ap unsigned_abs (sym e ∙ s))
      | is_int low high k w ↦ omega (arith, which, ints, s, high)
      | is_zero e b w ↦ omega (arith, which, ap unsigned_abs (sym e ∙ s))
      | is_one e b w ↦ omega (arith, which, ap unsigned_abs (sym e ∙ s))
      | is_blob e w ↦ omega (arith, which, ap unsigned_abs (sym e ∙ s))
      | is_text e u w ↦ omega (arith, which, ap unsigned_abs (sym e ∙ s))
    ]

    at_below : (serial : ℤ) → HasValue serial → serial <ℤ pos 0 → ⊥
    at_below serial v low = elim v.is [
      | is_null e b w ↦ omega (arith, ints)
      | is_int l h k w ↦ omega (arith, ints)
      | is_zero e b w ↦ omega (arith, ints)
      | is_one e b w ↦ omega (arith, ints)
      | is_blob e w ↦ omega (arith, ints)
      | is_text e u w ↦ omega (arith, ints)
    ]

pub text_is_utf8 : (serial : ℤ) (body : List ℕ) (v : Datum) → serial ≡ pos (13 + 2 * length body) → IsField serial body v → IsUtf8 body
text_is_utf8 serial body v s h = elim h [
  | is_null e b w ↦ absurd (omega (arith, ap unsigned_abs (sym e ∙ s)))
  | is_int low high k w ↦ absurd (omega (arith, ints))
  | is_zero e b w ↦ absurd (omega (arith, ap unsigned_abs (sym e ∙ s)))
  | is_one e b w ↦ absurd (omega (arith, ap unsigned_abs (sym e ∙ s)))
  | is_blob e w ↦ absurd (omega (arith, ap unsigned_abs (sym e ∙ s)))
  | is_text e u w ↦ u
]
