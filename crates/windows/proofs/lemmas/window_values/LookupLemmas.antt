-- What stands in three slices.
use Rattle.std.proofs.Common.{◌≡◌, ◌∙◌, ◌+◌, ◌-◌, ◌<◌, ◌≤◌, ◌++◌, ℕ, List, drop, length, map, reverse, slice_range, ap, arith}
use Rattle.std.proofs.lemmas.List.{get_or-reverse, length-append, length-drop, length-map, length-take-le}
use Rattle.values.specs.Datum.{Datum, datum_of, null}
use Rattle.values.specs.declared.value.Value.{Value}
use Rattle.semantics.specs.Sequence.{value_at}
use Rattle.windows.specs.declared.frames.ranges.Ranges.{Ranges}
use Rattle.windows.specs.frames.Ranges.{AreInside}
use Rattle.windows.specs.frames.Slices.{slices}

size_of : (xs : List Datum) (a b : ℕ) → a ≤ b → b ≤ length xs → length (slice_range xs a b) ≡ b - a
size_of xs a b p q = let rest = length-drop a xs in length-take-le (b - a) (drop a xs) (omega (arith, rest, p, q))

module _ (xs : List Datum) (r : Ranges) (n : ℕ) (all : length xs ≡ n) (u : AreInside r n) where
  front_size : length (slice_range xs r.start r.from) ≡ r.from - r.start
  front_size = size_of xs r.start r.from u.a (omega (arith, all, u.b, u.c, u.d, u.e, u.within))

  middle_size : length (slice_range xs r.middle r.after) ≡ r.after - r.middle
  middle_size = size_of xs r.middle r.after u.c (omega (arith, all, u.d, u.e, u.within))

  back_size : length (slice_range xs r.to r.end) ≡ r.end - r.to
  back_size = size_of xs r.to r.end u.e (omega (arith, all, u.within))

  whole_size : length (slices r xs) ≡ (r.from - r.start) + (r.after - r.middle) + (r.end - r.to)
  whole_size =
      let first = length-append (slice_range xs r.start r.from) (slice_range xs r.middle r.after ++ slice_range xs r.to r.end) in
      let second = length-append (slice_range xs r.middle r.after) (slice_range xs r.to r.end) in
      omega (arith, first, second, front_size, middle_size, back_size)

  pub the_last : (c : ℕ) → c ≡ (r.from - r.start) + (r.after - r.middle) + (r.end - r.to) → 0 < c → value_at (reverse (slices r xs)) 0 ≡ value_at (slices r xs) (c - 1)
  the_last c is some =
      let last : length (slices r xs) - 1 - 0 ≡ c - 1 = omega (arith, whole_size, is) in
      get_or-reverse (slices r xs) 0 null (omega (arith, whole_size, is, some)) ∙ ap (value_at (slices r xs)) last

pub length-data : (values : List Value) → length (map datum_of values) ≡ length values
length-data values = length-map values datum_of
