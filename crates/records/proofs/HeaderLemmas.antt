-- Headers: what a step of reading types adds, where a header lies, and that bytes have one at most.
use Rattle.std.proofs.Common.{◌≡◌, ℕ, ◌+◌, ◌-◌, ◌<◌, ◌≤◌, ℤ, pos, negsuc, List, [], ◌∷◌, ◌++◌, length, take, drop, refl, sym, ap, subst, ◌∙◌, arith, SFits, w64, ◌^◌}
use Rattle.std.specs.Prelude.{unsigned_abs}
use Rattle.std.proofs.lemmas.List.{length-append, length-take, length-drop, take-append-drop, drop-drop}
use Rattle.std.specs.Int.{FitsUnsignedBits}
use Rattle.records.specs.Varint.{IsVarint, BeginsVarint, EndsInside}
use Rattle.records.specs.Record.{AreTypes, SplitsHeader, IsHeader, HasNoHeader}
use Rattle.records.proofs.ListLemmas.{SameSplit, same_split}
use Rattle.records.proofs.VarintLemmas.{one_varint, none_inside, varint_some}

-- ---- types

-- the bytes at the front are a varint, and the rest spells the others
pub types_step : (rest : List ℕ) (len : ℕ) (serial : ℤ) (more : List ℤ) → BeginsVarint rest serial len → AreTypes (drop len rest) more
    → AreTypes rest (serial ∷ more)
types_step rest len serial more b h = (take len rest, drop len rest, sym (take-append-drop len rest), b.is, h)

-- bytes that spell types and begin with a varint spell the others behind it
pub types_tail : (rest : List ℕ) (len : ℕ) (serial : ℤ) (all : List ℤ) → BeginsVarint rest serial len → AreTypes rest all
    → (more : List ℤ) × AreTypes (drop len rest) more
types_tail rest len serial [] b h = absurd (omega (arith, varint_some (take len rest) serial b.is, length-take len rest, ap length h))
types_tail rest len serial (t ∷ ts) b (first, after, parts, first_is, h) =
    let s = one_varint (take len rest) (drop len rest) first after serial t b.is first_is (take-append-drop len rest ∙ parts) in
    (ts, subst (λ (l : List ℕ). AreTypes l ts) (sym s.rest) h)

-- bytes that end inside a varint spell no types
pub types_cut : (rest : List ℕ) (all : List ℤ) → 0 < length rest → EndsInside rest → AreTypes rest all → ⊥
types_cut rest [] some cut h = omega (arith, ap length h)
types_cut rest (t ∷ ts) some cut (first, after, parts, first_is, h) = none_inside first after t first_is (subst EndsInside parts cut)

pub one_types : (bytes : List ℕ) (ts us : List ℤ) → AreTypes bytes ts → AreTypes bytes us → ts ≡ us
one_types bytes [] [] p q = refl
one_types bytes [] (u ∷ us) p (first, after, parts, first_is, h) = absurd (omega (arith, varint_some first u first_is, ap length (sym p ∙ parts), length-append first after))
one_types bytes (t ∷ ts) [] (first, after, parts, first_is, h) q = absurd (omega (arith, varint_some first t first_is, ap length (sym q ∙ parts), length-append first after))
one_types bytes (t ∷ ts) (u ∷ us) (a, x, pa, ia, ha) (b, y, pb, ib, hb) =
    let s = one_varint a x b y t u ia ib (sym pa ∙ pb) in
    let tails = one_types y ts us (subst (λ (r : List ℕ). AreTypes r ts) s.rest ha) hb in
    cc (s.value, tails)

-- ---- the header

-- what a header has in common with the varint at the front of the bytes
pub record AgreesWith (bytes : List ℕ) (value : ℤ) (start : ℕ) (spelt bodies : List ℕ) : Type 0 where
  pub value_is : value ≡ pos (start + length spelt)
  pub rest_is : drop start bytes ≡ spelt ++ bodies

pub split_agrees : (bytes spelt bodies : List ℕ) (value : ℤ) (start : ℕ) → BeginsVarint bytes value start → SplitsHeader bytes spelt bodies
    → AgreesWith bytes value start spelt bodies
split_agrees bytes spelt bodies value start b h =
    let s =
    one_varint (take start bytes) (drop start bytes) h.size (spelt ++ bodies) value (pos (length h.size + length spelt)) b.is h.counts (take-append-drop start bytes ∙ h.parts) in
    let len : start ≡ length h.size = omega (arith, b.within, ap length s.varint, length-take start bytes) in
    record { value_is = s.value ∙ ap (λ (n : ℕ). pos (n + length spelt)) (sym len); rest_is = s.rest }

-- a header ends where its first varint says
pub split_made : (bytes : List ℕ) (start end : ℕ) → start ≤ end → end ≤ length bytes → BeginsVarint bytes (pos end) start
    → SplitsHeader bytes (take (end - start) (drop start bytes)) (drop end bytes)
split_made bytes start end le within b =
    let gap : start + (end - start) ≡ end = omega arith in
    let spelt = take (end - start) (drop start bytes) in
    let split : drop start bytes ≡ spelt ++ drop end bytes =
    sym (take-append-drop (end - start) (drop start bytes)) ∙ ap (λ (r : List ℕ). spelt ++ r) (drop-drop (end - start) start bytes ∙ ap (λ (k : ℕ). drop k bytes) gap) in
    record {
      size = take start bytes;
      parts = sym (take-append-drop start bytes) ∙ ap (λ (r : List ℕ). take start bytes ++ r) split;
      counts = subst (λ (n : ℕ). IsVarint (take start bytes) (pos n)) (omega (arith, length-take start bytes, length-take (end - start) (drop start bytes), length-drop start bytes)) b.is;
    }

-- that end lies between the first varint and the end of the bytes
pub split_fits : (bytes spelt bodies : List ℕ) (start end : ℕ) → BeginsVarint bytes (pos end) start → SplitsHeader bytes spelt bodies
    → (start ≤ end) × (end ≤ length bytes)
split_fits bytes spelt bodies start end b h =
    let a = split_agrees bytes spelt bodies (pos end) start b h in
    let n : end ≡ start + length spelt = ap unsigned_abs a.value_is in
    let r : length bytes - start ≡ length spelt + length bodies =
    sym (length-drop start bytes) ∙ ap length a.rest_is ∙ length-append spelt bodies in
    (omega arith, omega (arith, b.within))

pub split_cut : (bytes spelt bodies : List ℕ) → EndsInside bytes → SplitsHeader bytes spelt bodies → ⊥
split_cut bytes spelt bodies cut h = none_inside h.size (spelt ++ bodies) _ h.counts (subst EndsInside h.parts cut)

pub one_split : (bytes a x b y : List ℕ) → SplitsHeader bytes a x → SplitsHeader bytes b y → SameSplit a x b y
one_split bytes a x b y p q =
    let s = one_varint p.size (a ++ x) q.size (b ++ y) _ _ p.counts q.counts (sym p.parts ∙ q.parts) in
    let lens : length p.size + length a ≡ length q.size + length b = ap unsigned_abs s.value in
    same_split a x b y s.rest (omega (arith, ap length s.varint))

-- what two headers of the same bytes share
pub record SameHeader (ts us : List ℤ) (xs ys : List ℕ) : Type 0 where
  pub types : ts ≡ us
  pub bodies : xs ≡ ys

pub one_header : (bytes : List ℕ) (ts us : List ℤ) (xs ys : List ℕ) → IsHeader bytes ts xs → IsHeader bytes us ys → SameHeader ts us xs ys
one_header bytes ts us xs ys p q =
    let same = one_split bytes p.spelt xs q.spelt ys p.split q.split in
    record { types = one_types q.spelt ts us (subst (λ (l : List ℕ). AreTypes l ts) same.front p.are_types) q.are_types; bodies = same.rest }

-- bytes that spell no types keep a header from being any
pub no_header : (bytes spelt bodies : List ℕ) → SplitsHeader bytes spelt bodies → ((types : List ℤ) → ¬ (AreTypes spelt types))
    → HasNoHeader bytes
no_header bytes spelt bodies s none types others h =
    let same = one_split bytes h.spelt others spelt bodies h.split s in
    none types (subst (λ (l : List ℕ). AreTypes l types) same.front h.are_types)

-- ---- a varint's value as a length

pub as_length : (z : ℤ) (n : ℕ) → FitsUnsignedBits 64 z → n ≡ unsigned_abs z → z ≡ pos n
as_length (pos m) n f e = ap pos (sym e)
as_length (negsuc m) n f e = absurd f

pub length_fits : (z : ℤ) (n : ℕ) → SFits w64 z → z ≡ pos n → FitsUnsignedBits 64 z
length_fits z n f e =
    let g : SFits w64 (pos n) = subst (SFits w64) e f in
    let small : n < 2 ^ 63 = g.sfits in
    subst (FitsUnsignedBits 64) (sym e) (omega arith)
