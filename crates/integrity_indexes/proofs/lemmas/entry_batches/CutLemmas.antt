-- Codes that lie one behind the other.
use Rattle.std.proofs.Common.{◌≡◌, ◌∙◌, ◌≤◌, ◌+◌, ◌-◌, ℕ, zero, suc, List, [], ◌∷◌, ◌++◌, None, Some, drop, length, slice_get, sum_by, take, refl, sym, ap, subst, arith}
use Rattle.std.specs.List.{slice_range}
use Rattle.std.proofs.Math.Seq.{drop-append_seam, take-length}
use Rattle.std.proofs.lemmas.List.{drop-append-le, length-drop, length-take-le, take-append-drop, take-append-le}
use Rattle.std.proofs.lemmas.List.Sums.{sum_by-cons}
use Rattle.integrity_trees.specs.wanted_entries.Bags.{Coded}
use Rattle.integrity_indexes.specs.declared.entry_batches.batch.Slot.{Slot}
use Rattle.integrity_indexes.specs.entry_batches.Batches.{IsCut, code_at, coded, last_end}

-- where the code at a place begins
abbrev pub start_at : ℕ → List Slot → ℕ → ℕ
start_at start slots zero = start
start_at start [] (suc place) = start
start_at start (slot ∷ slots) (suc place) = start_at slot.end slots place

-- a code begins where the one before it ends
pub start_behind : (start : ℕ) (slots : List Slot) (place : ℕ) (slot : Slot) → slice_get slots place ≡ Some slot → start_at start slots (suc place) ≡ slot.end
start_behind start [] place slot at = let e : None ≡ Some slot = at in cc
start_behind start (first ∷ slots) zero slot at = let e : Some first ≡ Some slot = at in let f : first ≡ slot = cc in ap (λ (s : Slot). s.end) f
start_behind start (first ∷ slots) (suc place) slot at = start_behind first.end slots place slot at

pub code_here : (start : ℕ) (slots : List Slot) (codes : List ℕ) (place : ℕ) (slot : Slot) → slice_get slots place ≡ Some slot
    → code_at start slots codes place ≡ slice_range codes (start_at start slots place) slot.end
code_here start [] codes place slot at = let e : None ≡ Some slot = at in cc
code_here start (first ∷ slots) codes zero slot at = let e : Some first ≡ Some slot = at in let f : first ≡ slot = cc in
    ap (λ (s : Slot). slice_range codes start s.end) f
code_here start (first ∷ slots) codes (suc place) slot at = code_here first.end slots codes place slot at

pub least_end : (start : ℕ) (slots : List Slot) (most : ℕ) → IsCut start slots most → start ≤ most
least_end start [] most cut = cut
least_end start (slot ∷ slots) most cut = let here = cut.0 in let later = least_end slot.end slots most cut.1 in omega (arith, here, later)

-- the code at a place lies within the bytes
pub record LiesWithin (start end most : ℕ) : Type 0 where
  pub up : start ≤ end
  pub within : end ≤ most

pub lies_within : (start : ℕ) (slots : List Slot) (most place : ℕ) (slot : Slot) → IsCut start slots most → slice_get slots place ≡ Some slot
    → LiesWithin (start_at start slots place) slot.end most
lies_within start [] most place slot cut at = let e : None ≡ Some slot = at in cc
lies_within start (first ∷ slots) most zero slot cut at = let e : Some first ≡ Some slot = at in let f : first ≡ slot = cc in
    subst (λ (s : Slot). LiesWithin start s.end most) f (record { up = cut.0; within = least_end first.end slots most cut.1 })
lies_within start (first ∷ slots) most (suc place) slot cut at = lies_within first.end slots most place slot cut.1 at

pub last_within : (start : ℕ) (slots : List Slot) (most : ℕ) → IsCut start slots most → last_end start slots ≤ most
last_within start [] most cut = cut
last_within start (slot ∷ slots) most cut = last_within slot.end slots most cut.1

-- they lie within as many bytes as the last of them ends at, and within more
pub cut_tight : (start : ℕ) (slots : List Slot) (most : ℕ) → IsCut start slots most → IsCut start slots (last_end start slots)
cut_tight start [] most cut = omega arith
cut_tight start (slot ∷ slots) most cut = (cut.0, cut_tight slot.end slots most cut.1)

pub cut_more : (start : ℕ) (slots : List Slot) (most more : ℕ) → most ≤ more → IsCut start slots most → IsCut start slots more
cut_more start [] most more least cut = let c = cut in omega (arith, least, c)
cut_more start (slot ∷ slots) most more least cut = (cut.0, cut_more slot.end slots most more least cut.1)

pub cut_push : (start : ℕ) (slots : List Slot) (slot : Slot) (most more : ℕ) → IsCut start slots most → most ≤ slot.end → slot.end ≤ more
    → IsCut start (slots ++ slot ∷ []) more
cut_push start [] slot most more cut least few = let c = cut in (omega (arith, least, c), few)
cut_push start (first ∷ slots) slot most more cut least few = (cut.0, cut_push first.end slots slot most more cut.1 least few)

-- a part of bytes that others follow
range_front : (xs ys : List ℕ) (a b : ℕ) → a ≤ b → b ≤ length xs → slice_range (xs ++ ys) a b ≡ slice_range xs a b
range_front xs ys a b up within =
    let long = length-drop a xs in
    ap (take (b - a)) (drop-append-le a xs ys (omega (arith, up, within))) ∙ take-append-le (b - a) (drop a xs) ys (omega (arith, up, within, long))

range_behind : (xs ys : List ℕ) (b : ℕ) → b ≡ length xs + length ys → slice_range (xs ++ ys) (length xs) b ≡ ys
range_behind xs ys b is =
    let e : b - length xs ≡ length ys = omega (arith, is) in
    ap (take (b - length xs)) (drop-append_seam xs ys) ∙ ap (λ (n : ℕ). take n ys) e ∙ take-length ys

pub coded_front : (start : ℕ) (slots : List Slot) (xs ys : List ℕ) → IsCut start slots (length xs) → coded start slots (xs ++ ys) ≡ coded start slots xs
coded_front start [] xs ys cut = refl
coded_front start (slot ∷ slots) xs ys cut =
    let here = range_front xs ys start slot.end cut.0 (least_end slot.end slots (length xs) cut.1) in
    let rest = coded_front slot.end slots xs ys cut.1 in
    λ k. record { key = slot.key; code = here k } ∷ rest k

-- bytes behind the last code are none of theirs
pub coded_kept : (slots : List Slot) (codes : List ℕ) → IsCut 0 slots (length codes) → coded 0 slots (take (last_end 0 slots) codes) ≡ coded 0 slots codes
coded_kept slots codes cut =
    let n = last_end 0 slots in
    let long : length (take n codes) ≡ n = length-take-le n codes (last_within 0 slots (length codes) cut) in
    sym (coded_front 0 slots (take n codes) (drop n codes) (subst (λ (m : ℕ). IsCut 0 slots m) (sym long) (cut_tight 0 slots (length codes) cut)))
    ∙ ap (coded 0 slots) (take-append-drop n codes)

-- an entry more
pub coded_push : (start : ℕ) (slots : List Slot) (slot : Slot) (xs ys : List ℕ) → IsCut start slots (length xs) → last_end start slots ≡ length xs
    → slot.end ≡ length xs + length ys
    → coded start (slots ++ slot ∷ []) (xs ++ ys) ≡ coded start slots xs ++ record { key = slot.key; code = ys } ∷ []
coded_push start [] slot xs ys cut last is =
    let here = ap (λ (n : ℕ). slice_range (xs ++ ys) n slot.end) last ∙ range_behind xs ys slot.end is in
    λ k. record { key = slot.key; code = here k } ∷ []
coded_push start (first ∷ slots) slot xs ys cut last is =
    let here = range_front xs ys start first.end cut.0 (least_end first.end slots (length xs) cut.1) in
    let rest = coded_push first.end slots slot xs ys cut.1 last is in
    λ k. record { key = first.key; code = here k } ∷ rest k

-- the entry at a place
pub coded_at : (start : ℕ) (slots : List Slot) (codes : List ℕ) (place : ℕ) (slot : Slot) → slice_get slots place ≡ Some slot
    → slice_get (coded start slots codes) place ≡ Some (record { key = slot.key; code = code_at start slots codes place })
coded_at start [] codes place slot at = let e : None ≡ Some slot = at in cc
coded_at start (first ∷ slots) codes zero slot at = let e : Some first ≡ Some slot = at in let f : first ≡ slot = cc in
    ap (λ (s : Slot). Some (record { key = s.key; code = slice_range codes start first.end })) f
coded_at start (first ∷ slots) codes (suc place) slot at = coded_at first.end slots codes place slot at

-- and the slot of an entry
pub record HasSlot (start : ℕ) (slots : List Slot) (codes : List ℕ) (entry : Coded) : Type 0 where
  pub place : ℕ
  pub slot : Slot
  pub at : slice_get slots place ≡ Some slot
  pub key_is : slot.key ≡ entry.key
  pub code_is : code_at start slots codes place ≡ entry.code

pub has_slot : (start : ℕ) (slots : List Slot) (codes : List ℕ) (place : ℕ) (entry : Coded) → slice_get (coded start slots codes) place ≡ Some entry
    → HasSlot start slots codes entry
has_slot start [] codes place entry at = let e : None ≡ Some entry = at in cc
has_slot start (first ∷ slots) codes zero entry at =
    let e : Some (record { key = first.key; code = slice_range codes start first.end }) ≡ Some entry = at in
    let f : record { key = first.key; code = slice_range codes start first.end } ≡ entry = cc in
    record { place = zero; slot = first; at = refl; key_is = ap (λ (c : Coded). c.key) f; code_is = ap (λ (c : Coded). c.code) f }
has_slot start (first ∷ slots) codes (suc place) entry at =
    let there = has_slot first.end slots codes place entry at in
    record { place = suc there.place; slot = there.slot; at = there.at; key_is = there.key_is; code_is = there.code_is }

-- where the last slot ends
pub end_is : (start : ℕ) (slots : List Slot) (n : ℕ) (slot : Slot) → suc n ≡ length slots → slice_get slots n ≡ Some slot → last_end start slots ≡ slot.end
end_is start [] n slot last at = let e : None ≡ Some slot = at in cc
end_is start (first ∷ []) zero slot last at = let e : Some first ≡ Some slot = at in let f : first ≡ slot = cc in ap (λ (s : Slot). s.end) f
end_is start (first ∷ []) (suc n) slot last at = let e : None ≡ Some slot = at in cc
end_is start (first ∷ second ∷ slots) zero slot last at = absurd (omega (arith, last))
end_is start (first ∷ second ∷ slots) (suc n) slot last at = end_is first.end (second ∷ slots) n slot (omega (arith, last)) at

-- a code that is cut out has the bytes between its bounds
long_range : (xs : List ℕ) (a b : ℕ) → a ≤ b → b ≤ length xs → length (slice_range xs a b) ≡ b - a
long_range xs a b up within =
    let long = length-drop a xs in
    length-take-le (b - a) (drop a xs) (omega (arith, up, within, long))

-- the last code ends behind the bytes of all of them
pub end_sums : (start : ℕ) (slots : List Slot) (codes : List ℕ) → IsCut start slots (length codes)
    → last_end start slots ≡ start + sum_by (λ entry. length entry.code) (coded start slots codes)
end_sums start [] codes cut = omega arith
end_sums start (slot ∷ slots) codes cut =
    let long = long_range codes start slot.end cut.0 (least_end slot.end slots (length codes) cut.1) in
    let up = cut.0 in
    let rest = end_sums slot.end slots codes cut.1 in
    let first = sum_by-cons (λ (entry : Coded). length entry.code) (record { key = slot.key; code = slice_range codes start slot.end }) (coded slot.end slots codes) in
    rest ∙ omega (arith, long, up, first)

pub long_coded : (start : ℕ) (slots : List Slot) (codes : List ℕ) → length (coded start slots codes) ≡ length slots
long_coded start [] codes = refl
long_coded start (slot ∷ slots) codes = ap suc (long_coded slot.end slots codes)
