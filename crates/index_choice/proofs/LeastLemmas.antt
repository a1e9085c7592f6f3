-- The least path of a list.
use Rattle.std.proofs.Common.{◌≡◌, ◌≤◌, ℕ, Bool, true, false, ◌&&◌, ◌||◌, List, [], ◌∷◌, ◌++◌, length, get_or, refl, ◌∙◌, arith, subst, append-nil, append_assoc, length-append}
use Rattle.std.specs.Prelude.{All, nat_eq, nat_lt, if◌then◌else◌}
use Rattle.std.proofs.Math.ListN.{get_or-append}
use Rattle.std.proofs.Math.Seq.{get_or-append_seam}
use Rattle.std.proofs.lemmas.List.{take-append-le, take_all}
use Rattle.std.proofs.lemmas.List.Elements.{All-append, All-cons, All-nil}
use Rattle.index_choice.specs.Paths.{IsLeastPath, PathData, is_taken, least_of}

abbrev taken : ℕ → ℕ → ℕ → ℕ → Bool
taken c r d s = nat_lt c d || (nat_eq c d && nat_lt r s)

taken_itself : (c r : ℕ) → taken c r c r ≡ false
taken_itself c r = grind arith

-- y isn't taken before b, and x is
taken_past : (y s b t x r : ℕ) → taken y s b t ≡ false → taken x r b t ≡ true → taken y s x r ≡ false
taken_past y s b t x r h k = grind arith

taken_over : (y s b t x r : ℕ) → taken y s b t ≡ false → taken x r b t ≡ true → taken x r y s ≡ true
taken_over y s b t x r h k = grind arith

past : (y b x : PathData) → is_taken y b ≡ false → is_taken x b ≡ true → is_taken y x ≡ false
past y b x = taken_past y.cost y.rows b.cost b.rows x.cost x.rows

over : (y b x : PathData) → is_taken y b ≡ false → is_taken x b ≡ true → is_taken x y ≡ true
over y b x = taken_over y.cost y.rows b.cost b.rows x.cost x.rows

abbrev NotBefore : PathData → PathData → Type 0
NotBefore path other = is_taken other path ≡ false

abbrev Before : PathData → PathData → Type 0
Before path other = is_taken path other ≡ true

All-map : {X : Type 0} (P Q : X → Type 0) → ((x : X) → P x → Q x) → (xs : List X) → All P xs → All Q xs
All-map P Q f xs all k d lt = f (get_or xs k d) (all k d lt)

one : (path : PathData) → IsLeastPath (path ∷ []) path
one path = record {
  rank = 0;
  within = omega arith;
  there = λ d. refl;
  none_before = All-cons (NotBefore path) path [] (taken_itself path.cost path.rows) (All-nil (NotBefore path));
  first = All-nil (Before path);
}

-- one path more
module _ (paths : List PathData) (best x : PathData) (least : IsLeastPath paths best) where
  taken_more : is_taken x best ≡ true → IsLeastPath (paths ++ x ∷ []) x
  taken_more t = record {
    rank = length paths;
    within = omega (arith, length-append paths (x ∷ []));
    there = λ d. get_or-append_seam paths x [] d;
    none_before = All-append (NotBefore x) paths (x ∷ []) (All-map (NotBefore best) (NotBefore x) (λ y h. past y best x h t) paths least.none_before)
        (All-cons (NotBefore x) x [] (taken_itself x.cost x.rows) (All-nil (NotBefore x)));
    first = rw (take-append-le (length paths) paths (x ∷ []) (omega arith), take_all (length paths) paths (omega arith))
        (All-map (NotBefore best) (Before x) (λ y h. over y best x h t) paths least.none_before);
  }

  kept_more : is_taken x best ≡ false → IsLeastPath (paths ++ x ∷ []) best
  kept_more t = record {
    rank = least.rank;
    within = omega (arith, least.within, length-append paths (x ∷ []));
    there = λ d. get_or-append paths (x ∷ []) d least.rank least.within ∙ least.there d;
    none_before = All-append (NotBefore best) paths (x ∷ []) least.none_before (All-cons (NotBefore best) x [] t (All-nil (NotBefore best)));
    first = let short : least.rank ≤ length paths = omega (arith, least.within) in rw (take-append-le least.rank paths (x ∷ []) short) least.first;
  }

  more : IsLeastPath (paths ++ x ∷ []) (if is_taken x best then x else best)
  more = by-test (is_taken x best) refl
    where
      by-test : (t : Bool) → is_taken x best ≡ t → IsLeastPath (paths ++ x ∷ []) (if t then x else best)
      by-test true e = taken_more e
      by-test false e = kept_more e

least_behind : (paths : List PathData) (best : PathData) (rest : List PathData) → IsLeastPath paths best → IsLeastPath (paths ++ rest) (least_of best rest)
least_behind paths best [] least = rw (append-nil paths) least
least_behind paths best (x ∷ rest) least =
    let h = least_behind (paths ++ x ∷ []) (if is_taken x best then x else best) rest (more paths best x least) in
    subst (λ ps. IsLeastPath ps (least_of (if is_taken x best then x else best) rest)) (append_assoc paths (x ∷ []) rest) h

pub least_is_least : (paths : List PathData) (path first : PathData) (rest : List PathData) → paths ≡ first ∷ rest → path ≡ least_of first rest → IsLeastPath paths path
least_is_least paths path first rest whole least = rw (whole, least) (least_behind (first ∷ []) first rest (one first))
