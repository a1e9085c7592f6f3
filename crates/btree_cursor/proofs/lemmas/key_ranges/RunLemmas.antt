-- Between two cuts of an ascending list stands one run of it.
use Rattle.std.proofs.Common.{◌≡◌, ◌≤◌, Bool, true, false, not, ◌&&◌, List, [], ◌∷◌, length, refl, sym, ap, subst, ◌∙◌}
use Rattle.std.specs.Prelude.{All, ⊤}
use Rattle.std.proofs.lemmas.Cmp.{tied_itself}
use Rattle.std.proofs.lemmas.List.Elements.{All-cons, All-head, All-nil, All-tail}
use Rattle.std.specs.List.{filter, list_all}
use Rattle.std.specs.Ordering.{ordering_then, ordering_reverse, is_lt}
use Rattle.std.specs.declared.cmp.Ordering.{Ordering}
use Rattle.std.specs.declared.cmp.Ordering.TheVariants.{Less, Equal, Greater}
use Rattle.values.specs.Datum.{Datum}
use Rattle.values.specs.Order.{datum_cmp}
use Rattle.values.specs.OrderLaws.{datum_cmp_total, datum_cmp-IsAntisymmetric}
use Rattle.btree_cursor.specs.key_ranges.Ranges.{Cut, Range, directed, from_cut, has_null, is_before, is_within, key_cmp, meets, stands_before, to_cut, width}
use Rattle.btree_cursor.specs.key_ranges.Runs.{Ascend, CutsAreOneRun, RangeIsOneRun, skip_while, take_while}
use Rattle.btree_cursor.proofs.lemmas.key_ranges.RangeLemmas.{cuts_are_range}

-- the order of a column, whichever way it goes
directed_turns : (d : Bool) (x y : Datum) → directed d (datum_cmp x y) ≡ ordering_reverse (directed d (datum_cmp y x))
directed_turns true x y = ap ordering_reverse (datum_cmp_total.antisymm x y)
directed_turns false x y = datum_cmp_total.antisymm x y

less_of : (o : Ordering) → ordering_reverse o ≡ Less → o ≡ Greater
less_of Less e = cc
less_of Equal e = cc
less_of Greater e = refl

equal_of : (o : Ordering) → ordering_reverse o ≡ Equal → o ≡ Equal
equal_of Less e = cc
equal_of Equal e = refl
equal_of Greater e = cc

directed_trans : (d : Bool) (x y z : Datum) → directed d (datum_cmp x y) ≡ Less → directed d (datum_cmp y z) ≡ Less → directed d (datum_cmp x z) ≡ Less
directed_trans false x y z a b = datum_cmp_total.trans x y z a b
directed_trans true x y z a b =
    let zy : datum_cmp z y ≡ Less = datum_cmp_total.antisymm z y ∙ b in
    let yx : datum_cmp y x ≡ Less = datum_cmp_total.antisymm y x ∙ a in
    let zx : datum_cmp z x ≡ Less = datum_cmp_total.trans z y x zy yx in
    sym (datum_cmp_total.antisymm z x) ∙ zx

directed_congr : (d : Bool) (x y z : Datum) → directed d (datum_cmp x y) ≡ Equal → directed d (datum_cmp x z) ≡ directed d (datum_cmp y z)
directed_congr false x y z a = datum_cmp_total.congr x y z a
directed_congr true x y z a = ap ordering_reverse (datum_cmp_total.congr x y z (equal_of (datum_cmp x y) a))

never : (b : Bool) → stands_before b Less ≡ true → ⊥
never true e = cc
never false e = cc

always : (b : Bool) → stands_before b Greater ≡ true
always true = refl
always false = refl

-- of one column: v is the key's value, x that of an entry and y that of a later one
one_step : (d b : Bool) (v x y : Datum) (rest_xy rest_vx rest_vy : Ordering)
    → ordering_then (directed d (datum_cmp x y)) rest_xy ≡ Less → (rest_xy ≡ Less → stands_before b rest_vy ≡ true → stands_before b rest_vx ≡ true)
    → stands_before b (ordering_then (directed d (datum_cmp v y)) rest_vy) ≡ true → stands_before b (ordering_then (directed d (datum_cmp v x)) rest_vx) ≡ true
one_step d b v x y rest_xy rest_vx rest_vy less later h =
    cases (directed d (datum_cmp x y)) (directed d (datum_cmp v y)) refl refl less h
  where
    -- x comes before v, so v after x
    after : directed d (datum_cmp x v) ≡ Less → stands_before b (ordering_then (directed d (datum_cmp v x)) rest_vx) ≡ true
    after e = let g : directed d (datum_cmp v x) ≡ Greater = directed_turns d v x ∙ ap ordering_reverse e in rw g (always b)

    back : (u w : Datum) (o : Ordering) → directed d (datum_cmp u w) ≡ o → directed d (datum_cmp w u) ≡ ordering_reverse o
    back u w o e = directed_turns d w u ∙ ap ordering_reverse e

    cases : (o p : Ordering) → directed d (datum_cmp x y) ≡ o → directed d (datum_cmp v y) ≡ p → ordering_then o rest_xy ≡ Less
        → stands_before b (ordering_then p rest_vy) ≡ true → stands_before b (ordering_then (directed d (datum_cmp v x)) rest_vx) ≡ true
    cases o Less e f l k = absurd (never b k)
    cases Less Greater e f l k = after (directed_trans d x y v e (back v y Greater f))
    cases Equal Greater e f l k = after (directed_congr d x y v e ∙ back v y Greater f)
    cases Greater p e f l k = cc
    cases Less Equal e f l k = let g : directed d (datum_cmp v x) ≡ Greater = directed_congr d v y x f ∙ back x y Less e in rw g (always b)
    cases Equal Equal e f l k = let g : directed d (datum_cmp v x) ≡ Equal = directed_congr d v y x f ∙ back x y Equal e in rw g (later l k)

-- an entry that comes before one that stands before a cut stands before it too
pub before_too : (ds : List Bool) (key x y : List Datum) (b : Bool) → key_cmp ds x y ≡ Less → stands_before b (key_cmp ds key y) ≡ true → stands_before b (key_cmp ds key x) ≡ true
before_too ds [] x y b less h = h
before_too ds (v ∷ more) [] y b less h = always b
before_too ds (v ∷ more) (x ∷ xs) [] b less h = cc
before_too [] (v ∷ more) (x ∷ xs) (y ∷ ys) b less h =
    one_step false b v x y (key_cmp [] xs ys) (key_cmp [] more xs) (key_cmp [] more ys) less (λ l k. before_too [] more xs ys b l k) h
before_too (d ∷ ds) (v ∷ more) (x ∷ xs) (y ∷ ys) b less h =
    one_step d b v x y (key_cmp ds xs ys) (key_cmp ds more xs) (key_cmp ds more ys) less (λ l k. before_too ds more xs ys b l k) h

-- values that tie are one value
one_value : (d : Bool) (x y : Datum) → directed d (datum_cmp x y) ≡ Equal → x ≡ y
one_value false x y e = datum_cmp-IsAntisymmetric x y e
one_value true x y e = datum_cmp-IsAntisymmetric x y (equal_of (datum_cmp x y) e)

-- of one column of three entries
step_after : (d : Bool) (x y z : Datum) (rest_xy rest_yz rest_xz : Ordering) → ordering_then (directed d (datum_cmp x y)) rest_xy ≡ Less
    → ordering_then (directed d (datum_cmp y z)) rest_yz ≡ Less → (rest_xy ≡ Less → rest_yz ≡ Less → rest_xz ≡ Less)
    → ordering_then (directed d (datum_cmp x z)) rest_xz ≡ Less
step_after d x y z rest_xy rest_yz rest_xz first next later =
    cases (directed d (datum_cmp x y)) (directed d (datum_cmp y z)) refl refl first next
  where
    cases : (o p : Ordering) → directed d (datum_cmp x y) ≡ o → directed d (datum_cmp y z) ≡ p → ordering_then o rest_xy ≡ Less
        → ordering_then p rest_yz ≡ Less → ordering_then (directed d (datum_cmp x z)) rest_xz ≡ Less
    cases Greater p e f k l = cc
    cases Less Greater e f k l = cc
    cases Equal Greater e f k l = cc
    cases Less Less e f k l = let g : directed d (datum_cmp x z) ≡ Less = directed_trans d x y z e f in rw g refl
    cases Less Equal e f k l =
        let g : directed d (datum_cmp x z) ≡ Less = subst (λ (v : Datum). directed d (datum_cmp x v) ≡ Less) (one_value d y z f) e in rw g refl
    cases Equal Less e f k l = let g : directed d (datum_cmp x z) ≡ Less = directed_congr d x y z e ∙ f in rw g refl
    cases Equal Equal e f k l = let g : directed d (datum_cmp x z) ≡ Equal = directed_congr d x y z e ∙ f in rw g (later k l)

-- what comes before an entry comes before all that this comes before
pub key_after : (ds : List Bool) (x y z : List Datum) → key_cmp ds x y ≡ Less → key_cmp ds y z ≡ Less → key_cmp ds x z ≡ Less
key_after ds [] y z first next = cc
key_after ds (x ∷ xs) [] z first next = cc
key_after ds (x ∷ xs) (y ∷ ys) [] first next = cc
key_after [] (x ∷ xs) (y ∷ ys) (z ∷ zs) first next =
    step_after false x y z (key_cmp [] xs ys) (key_cmp [] ys zs) (key_cmp [] xs zs) first next (λ k l. key_after [] xs ys zs k l)
key_after (d ∷ ds) (x ∷ xs) (y ∷ ys) (z ∷ zs) first next =
    step_after d x y z (key_cmp ds xs ys) (key_cmp ds ys zs) (key_cmp ds xs zs) first next (λ k l. key_after ds xs ys zs k l)

directed_itself : (d : Bool) (x : Datum) → directed d (datum_cmp x x) ≡ Equal
directed_itself false x = tied_itself datum_cmp_total x
directed_itself true x = ap ordering_reverse (tied_itself datum_cmp_total x)

-- and no entry comes before itself
pub key_never : (ds : List Bool) (x : List Datum) → key_cmp ds x x ≡ Less → ⊥
key_never ds [] less = cc
key_never [] (x ∷ xs) less = key_never [] xs (ap (λ (o : Ordering). ordering_then o (key_cmp [] xs xs)) (sym (directed_itself false x)) ∙ less)
key_never (d ∷ ds) (x ∷ xs) less = key_never ds xs (ap (λ (o : Ordering). ordering_then o (key_cmp ds xs xs)) (sym (directed_itself d x)) ∙ less)

-- ---- lists on which a test fails for good

abbrev Fails : {X : Type 0} → (X → Bool) → List X → Type 0
Fails test [] = ⊤
Fails test (x ∷ xs) = (test x ≡ false) × Fails test xs

abbrev Falls : {X : Type 0} → (X → Bool) → List X → Type 0
Falls test [] = ⊤
Falls test (x ∷ xs) = (test x ≡ false → Fails test xs) × Falls test xs

module _ {X : Type 0} (f t : X → Bool) where
  abbrev both : X → Bool
  both x = not (f x) && t x

  none_more : (xs : List X) → Fails f xs → Fails t xs → filter both xs ≡ []
  none_more [] a b = refl
  none_more (x ∷ xs) a b = rw (a.0, b.0) (none_more xs a.1 b.1)

  run_on : (xs : List X) → Fails f xs → Falls t xs → filter both xs ≡ take_while t xs
  run_on [] a b = refl
  run_on (x ∷ xs) a b = by-test (t x) refl (run_on xs a.1 b.1) (λ e. none_more xs a.1 (b.0 e))
    where
      by-test : (r : Bool) → t x ≡ r → filter both xs ≡ take_while t xs → (t x ≡ false → filter both xs ≡ []) → filter both (x ∷ xs) ≡ take_while t (x ∷ xs)
      by-test true e on off = rw (a.0, e) (ap (λ ys. x ∷ ys) on)
      by-test false e on off = rw (a.0, e) (off e)

  one_run : (xs : List X) → Falls f xs → Falls t xs → filter both xs ≡ take_while t (skip_while f xs)
  one_run [] a b = refl
  one_run (x ∷ xs) a b = by-test (f x) refl (one_run xs a.1 b.1)
    where
      by-test : (r : Bool) → f x ≡ r → filter both xs ≡ take_while t (skip_while f xs) → filter both (x ∷ xs) ≡ take_while t (skip_while f (x ∷ xs))
      by-test true e on = rw e on
      by-test false e on = rw e (sym (rw e refl) ∙ run_on (x ∷ xs) (e, a.0 e) b)

module _ (ds : List Bool) (cut : Cut) where
  fails_after : (x : List Datum) (xs : List (List Datum)) → list_all (λ y. is_lt (key_cmp ds x y)) xs ≡ true → is_before ds cut x ≡ false → Fails (is_before ds cut) xs
  fails_after x [] h e = tt
  fails_after x (y ∷ ys) h e =
      (by-test (is_before ds cut y) refl, fails_after x ys (and_right (is_lt (key_cmp ds x y)) h) e)
    where
      and_left : (a b : Bool) → (a && b) ≡ true → a ≡ true
      and_left true b k = refl
      and_left false b k = k

      and_right : (a : Bool) → (a && list_all (λ z. is_lt (key_cmp ds x z)) ys) ≡ true → list_all (λ z. is_lt (key_cmp ds x z)) ys ≡ true
      and_right true k = k
      and_right false k = cc

      lesser : (o : Ordering) → is_lt o ≡ true → o ≡ Less
      lesser Less k = refl
      lesser Equal k = cc
      lesser Greater k = cc

      by-test : (r : Bool) → is_before ds cut y ≡ r → is_before ds cut y ≡ false
      by-test false k = k
      by-test true k =
          let less : key_cmp ds x y ≡ Less = lesser (key_cmp ds x y) (and_left (is_lt (key_cmp ds x y)) (list_all (λ z. is_lt (key_cmp ds x z)) ys) h) in
          let too : is_before ds cut x ≡ true = before_too ds cut.key x y cut.behind less k in
          cc

  falls : (xs : List (List Datum)) → Ascend ds xs → Falls (is_before ds cut) xs
  falls [] a = tt
  falls (x ∷ xs) a = (λ e. fails_after x xs a.0 e, falls xs a.1)

pub cuts_are_one_run : CutsAreOneRun
cuts_are_one_run ds from to entries up = one_run (is_before ds from) (is_before ds to) entries (falls ds from entries up) (falls ds to entries up)

-- ---- ranges

module _ {X : Type 0} (f g : X → Bool) where
  filter_same : (xs : List X) → All (λ x. f x ≡ g x) xs → filter f xs ≡ filter g xs
  filter_same [] same = refl
  filter_same (x ∷ xs) same =
      let first : f x ≡ g x = All-head (λ y. f y ≡ g y) x xs same in
      let rest : filter f xs ≡ filter g xs = filter_same xs (All-tail (λ y. f y ≡ g y) x xs same) in
      rw (first, rest) refl

module _ (ds : List Bool) (range : Range) (sound : has_null range ≡ false) where
  abbrev MeetsWithin : List Datum → Type 0
  MeetsWithin entry = meets range.equal range.lower range.upper entry ≡ is_within ds (from_cut ds range) (to_cut ds range) entry

  all_meet : (xs : List (List Datum)) → All (λ entry. width range ≤ length entry) xs
      → All MeetsWithin xs
  all_meet [] wide = All-nil MeetsWithin
  all_meet (x ∷ xs) wide =
      All-cons MeetsWithin x xs (sym (cuts_are_range ds range x sound (All-head (λ entry. width range ≤ length entry) x xs wide)))
      (all_meet xs (All-tail (λ entry. width range ≤ length entry) x xs wide))

pub range_is_one_run : RangeIsOneRun
range_is_one_run ds range entries up sound wide =
    filter_same (meets range.equal range.lower range.upper) (is_within ds (from_cut ds range) (to_cut ds range)) entries (all_meet ds range sound entries wide)
    ∙ cuts_are_one_run ds (from_cut ds range) (to_cut ds range) entries up
