-- Bodies: what a step of reading adds, that they are those of one list of values at most, and that what
-- breaks them keeps them from being any.
use Rattle.std.proofs.Common.{◌≡◌, ◌≢◌, ℕ, ◌+◌, ◌*◌, ◌<◌, ◌≤◌, inl, inr, ℤ, pos, List, [], ◌∷◌, ◌++◌, length, get_or, take, drop, All, refl, sym, ap, subst, ◌∙◌, arith}
use Rattle.std.specs.Prelude.{sum_by, IsUtf8}
use Rattle.std.proofs.lemmas.List.{length-append, length-take, length-drop, take-append-drop, append_assoc, drop_more, take_all, get_or_default}
use Rattle.std.proofs.lemmas.List.Elements.{All-nil, All-cons, All-contains}
use Rattle.std.proofs.lemmas.List.Sums.{sum_by_more, sum_by_more_le, sum_by-append}
use Rattle.values.specs.Datum.{Datum}
use Rattle.records.specs.declared.fault.RecordFault.{RecordFault}
use Rattle.records.specs.declared.fault.RecordFault.TheVariants.{Bad, Float, Text, NoMemory}
use Rattle.records.specs.Serial.{IsField, body_len, BeginsField, BreaksFront}
use Rattle.records.specs.Record.{AreBodies, IsBadText, BreaksBodies}
use Rattle.records.proofs.ListLemmas.{same_split}
use Rattle.records.proofs.FieldLemmas.{body_len-text, field_len, value_at, field_means, HasValue, float_has_none, reserved_has_none, text_is_utf8}

-- ---- one more field

-- a value at the front, and those of the types behind it
pub bodies_step : (types : List ℤ) (i : ℕ) (d : ℤ) (bytes rest : List ℕ) (v : Datum) (more : List Datum) → i < length types
    → BeginsField (get_or types i d) bytes v rest → AreBodies (drop (i + 1) types) rest more
    → AreBodies (drop i types) bytes (v ∷ more)
bodies_step types i d bytes rest v more lt b h = subst (λ (ts : List ℤ). AreBodies ts bytes (v ∷ more)) (sym (drop_more types i d lt)) (b.body, rest, b.parts, b.is, h)

-- the bodies before a place are as long as their types say
pub record IsPlace (types : List ℤ) (bytes : List ℕ) (i : ℕ) (rest : List ℕ) : Type 0 where
  pub front : List ℕ
  pub parts : bytes ≡ front ++ rest
  pub len : length front ≡ sum_by body_len (take i types)

pub place_step : (types : List ℤ) (bytes : List ℕ) (i : ℕ) (d : ℤ) (rest after : List ℕ) (v : Datum) → i < length types
    → IsPlace types bytes i rest → BeginsField (get_or types i d) rest v after → IsPlace types bytes (i + 1) after
place_step types bytes i d rest after v lt p b =
    record {
      front = p.front ++ b.body;
      parts = p.parts ∙ ap (λ (l : List ℕ). p.front ++ l) b.parts ∙ sym (append_assoc p.front b.body after);
      len = omega (arith, length-append p.front b.body, p.len, field_len (get_or types i d) b.body v b.is, sum_by_more body_len types i d lt);
    }

-- what breaks the next field breaks the bodies
pub place_broken : (f : RecordFault) (types : List ℤ) (bytes : List ℕ) (i : ℕ) (d : ℤ) (rest : List ℕ) → i < length types
    → IsPlace types bytes i rest → BreaksFront f (get_or types i d) rest → BreaksBodies f types bytes
place_broken Bad types bytes i d rest lt p (inl h) = inl (i, get_or types i d, lt, get_or_default types i (get_or types i d) d lt, h)
place_broken Bad types bytes i d rest lt p (inr h) = inr (λ same. omega (arith, same, h, p.len, ap length p.parts, length-append p.front rest, sum_by_more_le body_len types i d lt))
place_broken Float types bytes i d rest lt p h = (i, lt, get_or_default types i (pos 7) d lt ∙ h)
place_broken Text types bytes i d rest lt p (text, more, parts, is, bad) =
    record {
      before = take i types;
      after = drop (i + 1) types;
      front = p.front;
      text = text;
      more = more;
      serial_at = sym (take-append-drop i types) ∙ ap (λ (ts : List ℤ). take i types ++ ts) (drop_more types i d lt ∙ ap (λ (s : ℤ). s ∷ drop (i + 1) types) is);
      text_at = p.parts ∙ ap (λ (l : List ℕ). p.front ++ l) parts;
      place = p.len;
      not_utf8 = bad;
    }
place_broken NoMemory types bytes i d rest lt p h = absurd h

-- bytes are left over behind the last body
pub left_over : (types : List ℤ) (bytes : List ℕ) (i : ℕ) (rest : List ℕ) → length types ≤ i → IsPlace types bytes i rest → 0 < length rest
    → sum_by body_len types ≢ length bytes
left_over types bytes i rest all p some same =
    omega (arith, same, p.len, ap length p.parts, length-append p.front rest, ap (sum_by body_len) (take_all i types all))

-- ---- bodies are those of one list of values at most

pub bodies_len : (types : List ℤ) (bytes : List ℕ) (values : List Datum) → AreBodies types bytes values
    → sum_by body_len types ≡ length bytes
bodies_len [] bytes [] h = sym (ap length h)
bodies_len (s ∷ types) bytes (v ∷ values) (first, rest, parts, is, h) =
    omega (arith, sum_by-append body_len (s ∷ []) types, bodies_len types rest values h, field_len s first v is, ap length parts, length-append first rest)
bodies_len [] bytes (v ∷ values) h = absurd h
bodies_len (s ∷ types) bytes [] h = absurd h

pub one_bodies : (types : List ℤ) (bytes : List ℕ) (vs ws : List Datum) → AreBodies types bytes vs → AreBodies types bytes ws → vs ≡ ws
one_bodies [] bytes [] [] p q = refl
one_bodies [] bytes [] (w ∷ ws) p q = absurd q
one_bodies [] bytes (v ∷ vs) ws p q = absurd p
one_bodies (s ∷ types) bytes [] ws p q = absurd p
one_bodies (s ∷ types) bytes (v ∷ vs) [] p q = absurd q
one_bodies (s ∷ types) bytes (v ∷ vs) (w ∷ ws) (a, x, pa, ia, ha) (b, y, pb, ib, hb) =
    let same = same_split a x b y (sym pa ∙ pb) (field_len s a v ia ∙ sym (field_len s b w ib)) in
    let head : v ≡ w = field_means s a v ia ∙ ap (value_at s) same.front ∙ sym (field_means s b w ib) in
    let tail = one_bodies types y vs ws (subst (λ (r : List ℕ). AreBodies types r vs) same.rest ha) hb in
    cc (head, tail)

-- ---- what breaks bodies keeps them from being any

have_values : (types : List ℤ) (bytes : List ℕ) (values : List Datum) → AreBodies types bytes values → All HasValue types
have_values [] bytes values h = All-nil HasValue
have_values (s ∷ types) bytes [] h = absurd h
have_values (s ∷ types) bytes (v ∷ values) (first, rest, parts, is, h) = All-cons HasValue s types (record { body = first; value = v; is = is }) (have_values types rest values h)

-- the bodies behind those of the first types
bodies_behind : (before after : List ℤ) (front rest : List ℕ) (values : List Datum) → length front ≡ sum_by body_len before
    → AreBodies (before ++ after) (front ++ rest) values → (more : List Datum) × AreBodies after rest more
bodies_behind [] after [] rest values len h = (values, h)
bodies_behind [] after (x ∷ front) rest values len h = absurd (omega arith)
bodies_behind (s ∷ before) after front rest [] len h = absurd h
bodies_behind (s ∷ before) after front rest (v ∷ values) len (first, behind, parts, is, h) =
    let sum : sum_by body_len (s ∷ before) ≡ body_len s + sum_by body_len before = omega (arith, sum_by-append body_len (s ∷ []) before) in
    let n : length first ≡ body_len s = field_len s first v is in
    let within : length first ≤ length front = omega arith in
    let split : take (length first) front ++ (drop (length first) front ++ rest) ≡ first ++ behind =
    sym (append_assoc (take (length first) front) (drop (length first) front) rest) ∙ ap (λ (l : List ℕ). l ++ rest) (take-append-drop (length first) front) ∙ parts in
    let same =
    same_split (take (length first) front) (drop (length first) front ++ rest) first behind split (omega (arith, length-take (length first) front)) in
    bodies_behind before after (drop (length first) front) rest values (omega (arith, length-drop (length first) front)) (subst (λ (b : List ℕ). AreBodies (before ++ after) b values) (sym same.rest) h)

bad_text : (types : List ℤ) (bytes : List ℕ) (values : List Datum) → IsBadText types bytes → AreBodies types bytes values → ⊥
bad_text types bytes values t h =
    let serial = pos (13 + 2 * length t.text) in
    let split =
    subst (λ (b : List ℕ). AreBodies (t.before ++ serial ∷ t.after) b values) t.text_at (subst (λ (ts : List ℤ). AreBodies ts bytes values) t.serial_at h) in
    let behind = bodies_behind t.before (serial ∷ t.after) t.front (t.text ++ t.more) values t.place split in
    first_bad t.text t.more serial t.after behind.0 refl t.not_utf8 behind.1
  where
    first_bad : (text more : List ℕ) (s : ℤ) (after : List ℤ) (values : List Datum) → s ≡ pos (13 + 2 * length text) → ¬ (IsUtf8 text)
        → AreBodies (s ∷ after) (text ++ more) values → ⊥
    first_bad text more s after [] e bad h = h
    first_bad text more s after (v ∷ values) e bad (first, rest, parts, is, h) =
        let len : length text ≡ length first = sym (ap body_len e ∙ body_len-text (length text)) ∙ sym (field_len s first v is) in
        let same = same_split text more first rest parts len in
        bad (text_is_utf8 s text v e (subst (λ (b : List ℕ). IsField s b v) (sym same.front) is))

-- only want of memory is a fault of bodies
pub not_broken_bodies : (f : RecordFault) (types : List ℤ) (bytes : List ℕ) (values : List Datum) → BreaksBodies f types bytes
    → AreBodies types bytes values → f ≡ NoMemory
not_broken_bodies Bad types bytes values (inl (k, s, lt, at, r)) h = absurd (reserved_has_none s (subst HasValue at (have_values types bytes values h k s lt)) r)
not_broken_bodies Bad types bytes values (inr other) h = absurd (other (bodies_len types bytes values h))
not_broken_bodies Float types bytes values b h = absurd (float_has_none (pos 7) (All-contains HasValue types (pos 7) (have_values types bytes values h) b) refl)
not_broken_bodies Text types bytes values b h = absurd (bad_text types bytes values b h)
not_broken_bodies NoMemory types bytes values b h = refl
