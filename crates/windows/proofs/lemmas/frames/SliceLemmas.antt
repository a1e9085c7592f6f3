-- The places of three ranges, and the elements there.
use Rattle.std.proofs.Common.{◌≡◌, ◌∙◌, ◌+◌, ◌-◌, ◌<◌, ◌≤◌, ◌++◌, Bool, true, false, ℕ, zero, suc, List, [], ◌∷◌, cond, drop, filter, get_or, length, map, slice_range, take, refl, sym, ap, arith}
use Rattle.std.specs.List.{range_with_len}
use Rattle.std.proofs.lemmas.List.{append-nil, drop_more}
use Rattle.values.specs.Row.{Row}
use Rattle.semantics.specs.Windows.{places}
use Rattle.windows.specs.declared.frames.ranges.Ranges.{Ranges}
use Rattle.windows.specs.frames.Ranges.{IsUnion}
use Rattle.windows.specs.frames.Slices.{RowsAreSlices, ValuesAreSlices, slices}

-- the places from one up to another
abbrev segment : ℕ → ℕ → List ℕ
segment a b = range_with_len a (b - a)

split_range : (a m n : ℕ) → range_with_len a (m + n) ≡ range_with_len a m ++ range_with_len (a + m) n
split_range a zero n = let none : 0 + n ≡ n = omega arith in let same : a ≡ a + 0 = omega arith in (λ i. range_with_len (same i) (none i))
split_range a (suc m) n =
    let more : suc m + n ≡ suc (m + n) = omega arith in
    let same : a + 1 + m ≡ a + suc m = omega arith in
    ap (range_with_len a) more ∙ ap (λ l. a ∷ l) (split_range (a + 1) m n ∙ ap (λ b. range_with_len (a + 1) m ++ range_with_len b n) same)

split_segment : (a b c : ℕ) → a ≤ b → b ≤ c → segment a c ≡ segment a b ++ segment b c
split_segment a b c p q =
    let whole : c - a ≡ (b - a) + (c - b) = omega (arith, p, q) in
    let same : a + (b - a) ≡ b = omega (arith, p) in
    ap (range_with_len a) whole ∙ split_range a (b - a) (c - b) ∙ ap (λ k. segment a b ++ range_with_len k (c - b)) same

append_kept : (S : ℕ → Bool) (xs ys : List ℕ) → filter S (xs ++ ys) ≡ filter S xs ++ filter S ys
append_kept S [] ys = refl
append_kept S (x ∷ xs) ys =
    elim (S x) as (λ b. cond b (x ∷ filter S (xs ++ ys)) (filter S (xs ++ ys)) ≡ cond b (x ∷ filter S xs) (filter S xs) ++ filter S ys) [
      | true ↦ ap (λ l. x ∷ l) (append_kept S xs ys)
      | false ↦ append_kept S xs ys
    ]

none_of : (S : ℕ → Bool) (n a : ℕ) → ((k : ℕ) → a ≤ k → k < a + n → S k ≡ false) → filter S (range_with_len a n) ≡ []
none_of S zero a h = refl
none_of S (suc n) a h = rw (h a (omega arith) (omega arith)) (none_of S n (a + 1) (λ k low high. h k (omega (arith, low)) (omega (arith, high))))

all_of : (S : ℕ → Bool) (n a : ℕ) → ((k : ℕ) → a ≤ k → k < a + n → S k ≡ true) → filter S (range_with_len a n) ≡ range_with_len a n
all_of S zero a h = refl
all_of S (suc n) a h = rw (h a (omega arith) (omega arith)) (ap (λ l. a ∷ l) (all_of S n (a + 1) (λ k low high. h k (omega (arith, low)) (omega (arith, high)))))

module _ (S : ℕ → Bool) (n : ℕ) where
  passed : (a b : ℕ) → a ≤ b → b ≤ n → ((k : ℕ) → a ≤ k → k < b → S k ≡ false) → filter S (segment a n) ≡ filter S (segment b n)
  passed a b p q h =
      ap (filter S) (split_segment a b n p q) ∙ append_kept S (segment a b) (segment b n)
      ∙ ap (λ l. l ++ filter S (segment b n)) (none_of S (b - a) a (λ k low high. h k low (omega (arith, high, p))))

  kept : (a b : ℕ) → a ≤ b → b ≤ n → ((k : ℕ) → a ≤ k → k < b → S k ≡ true) → filter S (segment a n) ≡ segment a b ++ filter S (segment b n)
  kept a b p q h =
      ap (filter S) (split_segment a b n p q) ∙ append_kept S (segment a b) (segment b n)
      ∙ ap (λ l. l ++ filter S (segment b n)) (all_of S (b - a) a (λ k low high. h k low (omega (arith, high, p))))

  pub three : (r : Ranges) → IsUnion S r n → filter S (range_with_len 0 n) ≡ segment r.start r.from ++ (segment r.middle r.after ++ segment r.to r.end)
  three r u =
      let all : n ≡ n - 0 = omega arith in
      let none : n - n ≡ 0 = omega arith in
      ap (λ m. filter S (range_with_len 0 m)) all
      ∙ passed 0 r.start (omega arith) (omega (arith, u.a, u.b, u.c, u.d, u.e, u.within)) (λ k low high. u.ahead k high)
      ∙ kept r.start r.from u.a (omega (arith, u.b, u.c, u.d, u.e, u.within)) u.front
      ∙ ap (λ l. segment r.start r.from ++ l)
      (passed r.from r.middle u.b (omega (arith, u.c, u.d, u.e, u.within)) u.gap
      ∙ kept r.middle r.after u.c (omega (arith, u.d, u.e, u.within)) u.inside
      ∙ ap (λ l. segment r.middle r.after ++ l)
      (passed r.after r.to u.d (omega (arith, u.e, u.within)) u.gap_after
      ∙ kept r.to r.end u.e u.within u.back
      ∙ ap (λ l. segment r.to r.end ++ l) (passed r.end n u.within (omega arith) u.behind ∙ ap (λ m. filter S (range_with_len n m)) none)
      ∙ append-nil (segment r.to r.end)))

module _ {X : Type 0} (xs : List X) (d : X) where
  picked : (n a : ℕ) → a + n ≤ length xs → map (λ at. get_or xs at d) (range_with_len a n) ≡ take n (drop a xs)
  picked zero a h = refl
  picked (suc n) a h =
      let inside : a < length xs = omega (arith, h) in
      ap (λ l. get_or xs a d ∷ l) (picked n (a + 1) (omega (arith, h))) ∙ sym (ap (take (suc n)) (drop_more xs a d inside))

  picked_segment : (a b : ℕ) → a ≤ b → b ≤ length xs → map (λ at. get_or xs at d) (segment a b) ≡ slice_range xs a b
  picked_segment a b p q = picked (b - a) a (omega (arith, p, q))

map_both : {X Y : Type 0} (f : X → Y) (xs ys : List X) → map f (xs ++ ys) ≡ map f xs ++ map f ys
map_both f [] ys = refl
map_both f (x ∷ xs) ys = ap (λ l. f x ∷ l) (map_both f xs ys)

pub chosen_slices : (X : Type 0) (S : ℕ → Bool) (r : Ranges) (xs : List X) (d : X) → IsUnion S r (length xs) → map (λ at. get_or xs at d) (filter S (places xs)) ≡ slices r xs
chosen_slices X S r xs d u =
    let pick : ℕ → X = λ at. get_or xs at d in
    ap (map pick) (three S (length xs) r u) ∙ map_both pick (segment r.start r.from) (segment r.middle r.after ++ segment r.to r.end)
    ∙ (λ i. picked_segment xs d r.start r.from u.a (omega (arith, u.b, u.c, u.d, u.e, u.within)) i ++ map_both pick (segment r.middle r.after) (segment r.to r.end) i)
    ∙ (λ i. slice_range xs r.start r.from ++ (picked_segment xs d r.middle r.after u.c (omega (arith, u.d, u.e, u.within)) i ++ picked_segment xs d r.to r.end u.e u.within i))

pub rows_are_slices : RowsAreSlices
rows_are_slices S r rows u = chosen_slices Row S r rows [] u

map_taken : {X Y : Type 0} (f : X → Y) (n : ℕ) (xs : List X) → map f (take n xs) ≡ take n (map f xs)
map_taken f zero xs = refl
map_taken f (suc n) [] = refl
map_taken f (suc n) (x ∷ xs) = ap (λ l. f x ∷ l) (map_taken f n xs)

map_dropped : {X Y : Type 0} (f : X → Y) (n : ℕ) (xs : List X) → map f (drop n xs) ≡ drop n (map f xs)
map_dropped f zero xs = refl
map_dropped f (suc n) [] = refl
map_dropped f (suc n) (x ∷ xs) = map_dropped f n xs

map_slice : {X Y : Type 0} (f : X → Y) (xs : List X) (a b : ℕ) → map f (slice_range xs a b) ≡ slice_range (map f xs) a b
map_slice f xs a b = map_taken f (b - a) (drop a xs) ∙ ap (take (b - a)) (map_dropped f a xs)

pub slices-map : {X Y : Type 0} (f : X → Y) (r : Ranges) (xs : List X) → map f (slices r xs) ≡ slices r (map f xs)
slices-map f r xs =
    map_both f (slice_range xs r.start r.from) (slice_range xs r.middle r.after ++ slice_range xs r.to r.end)
    ∙ (λ i. map_slice f xs r.start r.from i ++ map_both f (slice_range xs r.middle r.after) (slice_range xs r.to r.end) i)
    ∙ (λ i. slice_range (map f xs) r.start r.from ++ (map_slice f xs r.middle r.after i ++ map_slice f xs r.to r.end i))

pub values_are_slices : ValuesAreSlices
values_are_slices S r rows value u = ap (map value) (rows_are_slices S r rows u) ∙ slices-map value r rows
