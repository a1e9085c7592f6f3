-- The first conjunct that bounds a column has a bound of it.
use Rattle.std.proofs.Common.{◌≡◌, ◌<◌, ℕ, suc, ◌+◌, Bool, true, false, not, cond, ◌&&◌, ◌||◌, List, [], ◌∷◌, length, map, Some, None, refl, arith, subst}
use Rattle.std.specs.Prelude.{nat_eq, nat_lt}
use Rattle.std.specs.List.{Contains, list_any, prefix_len}
use Rattle.std.proofs.lemmas.Bool.{eqb-true, ltb-true}
use Rattle.expr.specs.Columns.{columns_of}
use Rattle.expr.specs.Term.{Term}
use Rattle.index_choice.specs.declared.comparisons.Side.{Side}
use Rattle.index_choice.specs.declared.comparisons.Side.TheVariants.{Equal, Lower, Upper}
use Rattle.index_choice.specs.Bounds.{FirstBoundIsBound, IsBoundAt, are_known, bounds_column, is_bound_on, same_side, seen_bound, seen_of}
use Rattle.index_choice.specs.ColumnBounds.{BoundTerm, bounds_of}

and_left : (a b : Bool) → (a && b) ≡ true → a ≡ true
and_left true b h = refl
and_left false b h = cc

and_right : (a b : Bool) → (a && b) ≡ true → b ≡ true
and_right true b h = h
and_right false b h = cc

one_side : (a b : Side) → same_side a b ≡ true → a ≡ b
one_side Equal Equal h = refl
one_side Lower Lower h = refl
one_side Upper Upper h = refl
one_side a b h = cc

module _ (known : List Bool) (side : Side) (c : ℕ) where
  -- a bound term that the test takes
  record Found (bounds : List BoundTerm) : Type 0 where
    bound : BoundTerm
    among : Contains bounds bound
    taken : is_bound_on known side c (seen_bound bound) ≡ true

  found_in : (b : BoundTerm) (rest : List BoundTerm) (t : Bool) → (is_bound_on known side c) (seen_bound b) ≡ t → (t || list_any (is_bound_on known side c) (map seen_bound rest)) ≡ true
      → (list_any (is_bound_on known side c) (map seen_bound rest) ≡ true → Found rest) → Found (b ∷ rest)
  found_in b rest true e h go = record { bound = b; among = (0, omega arith, refl); taken = e }
  found_in b rest false e h go =
      let later = go h in
      record { bound = later.bound; among = (suc later.among.0, omega (arith, later.among.1), later.among.2); taken = later.taken }

  found : (bounds : List BoundTerm) → list_any (is_bound_on known side c) (map seen_bound bounds) ≡ true → Found bounds
  found [] h = cc
  found (b ∷ rest) h = found_in b rest ((is_bound_on known side c) (seen_bound b)) refl h (found rest)

  here : (t : Term) (ts : List Term) → bounds_column known side c (seen_of t) ≡ true → IsBoundAt known (t ∷ ts) side c 0
  here t ts h =
      let f = found (bounds_of t) h in
      let sides = same_side f.bound.side side in
      let columns = nat_eq f.bound.column c in
      let both : (sides && columns) ≡ true = and_left (sides && columns) (are_known known (columns_of f.bound.value)) f.taken in
      record {
        term = t;
        there = refl;
        bound = f.bound;
        among = f.among;
        side_is = one_side f.bound.side side (and_left sides columns both);
        column_is = eqb-true f.bound.column c (and_right sides columns both);
        known_is = and_right (sides && columns) (are_known known (columns_of f.bound.value)) f.taken;
      }

  later : (t : Term) (ts : List Term) (n : ℕ) → IsBoundAt known ts side c n → IsBoundAt known (t ∷ ts) side c (suc n)
  later t ts n at = record {
    term = at.term;
    there = at.there;
    bound = at.bound;
    among = at.among;
    side_is = at.side_is;
    column_is = at.column_is;
    known_is = at.known_is;
  }

  abbrev at_place : List Term → ℕ
  at_place ts = prefix_len (λ x. not (bounds_column known side c x)) (map seen_of ts)

  first_in : (t : Term) (ts : List Term) (b : Bool) → bounds_column known side c (seen_of t) ≡ b
      → (at_place ts < length (map seen_of ts) → IsBoundAt known ts side c (at_place ts))
      → cond (not b) (1 + at_place ts) 0 < suc (length (map seen_of ts)) → IsBoundAt known (t ∷ ts) side c (cond (not b) (1 + at_place ts) 0)
  first_in t ts true e go lt = here t ts e
  first_in t ts false e go lt =
      let more : suc (at_place ts) ≡ 1 + at_place ts = omega arith in
      subst (IsBoundAt known (t ∷ ts) side c) more (later t ts (at_place ts) (go (omega (arith, lt))))

  at_first : (ts : List Term) → at_place ts < length (map seen_of ts) → IsBoundAt known ts side c (at_place ts)
  at_first [] lt = absurd (omega (arith, lt))
  at_first (t ∷ ts) lt = first_in t ts (bounds_column known side c (seen_of t)) refl (at_first ts) lt

  at_position : (ts : List Term) (at : ℕ) (b : Bool) → nat_lt (at_place ts) (length (map seen_of ts)) ≡ b
      → cond b (Some (at_place ts)) None ≡ Some at → IsBoundAt known ts side c at
  at_position ts at true e is =
      let place : at_place ts ≡ at = cc in
      subst (IsBoundAt known ts side c) place (at_first ts (ltb-true (at_place ts) (length (map seen_of ts)) e))
  at_position ts at false e is = cc

pub first_bound_is_bound : FirstBoundIsBound
first_bound_is_bound known terms side c at is =
    at_position known side c terms at (nat_lt (at_place known side c terms) (length (map seen_of terms))) refl is
