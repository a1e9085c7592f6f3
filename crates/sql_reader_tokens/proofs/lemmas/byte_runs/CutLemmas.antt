-- Where a text may be cut.
use Rattle.std.proofs.Common.{◌≡◌, ℕ, ◌+◌, ◌<◌, ◌≤◌, List, length, get_or, arith, subst}
use mathlib.Core.Logic.{inl, inr}
use Rattle.std.proofs.lemmas.Bool.{cases_lt}
use Rattle.std.proofs.lemmas.Str.{IsCharBoundary-before_ascii, IsCharBoundary-after_ascii, IsCharBoundary-end}
use Rattle.std.specs.Str.{IsUtf8, IsCharBoundary}

pub before_ascii : (text : List ℕ) (len : ℕ) → len ≤ length text → (len < length text → get_or text len 0 < 128) → IsCharBoundary text len
before_ascii text len h a = elim (cases_lt len (length text)) [
  | inl k ↦ IsCharBoundary-before_ascii text len k (a k)
  | inr k ↦ subst (IsCharBoundary text) (let e : length text ≡ len = omega arith in e) (IsCharBoundary-end text)
]

pub after_ascii : (text : List ℕ) → IsUtf8 text → 0 < length text → get_or text 0 0 < 128 → IsCharBoundary text 1
after_ascii text u h a = subst (IsCharBoundary text) (let e : 0 + 1 ≡ 1 = omega arith in e) (IsCharBoundary-after_ascii text 0 u h a)
