-- Between the cuts of a range stand exactly the entries that meet it.
use Rattle.std.proofs.Common.{◌≡◌, ◌+◌, ◌≤◌, Bool, true, false, not, ◌&&◌, ◌||◌, cond, List, [], ◌∷◌, length, Option, Some, None, refl, sym, ap, ◌∙◌, arith}
use Rattle.std.specs.Prelude.{slice_index_or}
use Rattle.std.specs.List.{list_any}
use Rattle.std.specs.Ordering.{ordering_then, ordering_reverse, is_eq}
use Rattle.std.specs.declared.cmp.Ordering.{Ordering}
use Rattle.std.specs.declared.cmp.Ordering.TheVariants.{Less, Equal, Greater}
use Rattle.values.specs.Datum.{Datum, null, int, text, blob}
use Rattle.values.specs.Order.{datum_cmp}
use Rattle.values.specs.OrderLaws.{datum_cmp_total}
use Rattle.btree_cursor.specs.key_ranges.Ranges.{Edge, Cut, bounded_columns, is_null, holds, above, below, is_above, is_below, meets, directed, key_cmp, stands_before, first_cut, last_cut, behind_values, direction, is_within, edge_is_null}
use Rattle.btree_cursor.specs.key_ranges.Laws.{CutsAreRange, NullMeetsNothing}

turned : (x y : Datum) → datum_cmp x y ≡ ordering_reverse (datum_cmp y x)
turned x y = datum_cmp_total.antisymm x y

-- a comparison of two values, none of them NULL, and of one that may be
holds_of : (test : Ordering → Bool) (x v : Datum) → is_null x ≡ false → is_null v ≡ false → holds test x v ≡ test (datum_cmp x v)
holds_of test x v a b = rw (a, b) refl

holds_null : (test : Ordering → Bool) (x v : Datum) → is_null x ≡ true → holds test x v ≡ false
holds_null test x v a = rw a refl

holds_by_null : (test : Ordering → Bool) (x v : Datum) → is_null v ≡ true → holds test x v ≡ false
holds_by_null test x v b = by-first (is_null x)
  where
    by-first : (t : Bool) → cond (t || is_null v) false (test (datum_cmp x v)) ≡ false
    by-first true = refl
    by-first false = rw b refl

null_least : (v x : Datum) → is_null v ≡ false → is_null x ≡ true → datum_cmp v x ≡ Greater
null_least null x a b = cc
null_least (int n) null a b = refl
null_least (int n) (int m) a b = cc
null_least (int n) (text s) a b = cc
null_least (int n) (blob s) a b = cc
null_least (text s) null a b = refl
null_least (text s) (int m) a b = cc
null_least (text s) (text t) a b = cc
null_least (text s) (blob t) a b = cc
null_least (blob s) null a b = refl
null_least (blob s) (int m) a b = cc
null_least (blob s) (text t) a b = cc
null_least (blob s) (blob t) a b = cc

null_first : (x : Datum) → is_null x ≡ false → datum_cmp null x ≡ Less
null_first null a = cc
null_first (int n) a = refl
null_first (text s) a = refl
null_first (blob s) a = refl

null_itself : (x : Datum) → is_null x ≡ true → datum_cmp null x ≡ Equal
null_itself null a = refl
null_itself (int n) a = cc
null_itself (text s) a = cc
null_itself (blob s) a = cc

-- a bound's four places: what isn't before the cut of a first bound, and what is before that of a last one

test_above : (strict : Bool) (o : Ordering) → above strict (ordering_reverse o) ≡ not (stands_before strict o)
test_above true Less = refl
test_above true Equal = refl
test_above true Greater = refl
test_above false Less = refl
test_above false Equal = refl
test_above false Greater = refl

test_below : (strict : Bool) (o : Ordering) → below strict (ordering_reverse o) ≡ stands_before (not strict) o
test_below true Less = refl
test_below true Equal = refl
test_below true Greater = refl
test_below false Less = refl
test_below false Equal = refl
test_below false Greater = refl

-- in a column that descends
test_below_turned : (strict : Bool) (o : Ordering) → below strict (ordering_reverse o) ≡ not (stands_before strict (ordering_reverse o))
test_below_turned true Less = refl
test_below_turned true Equal = refl
test_below_turned true Greater = refl
test_below_turned false Less = refl
test_below_turned false Equal = refl
test_below_turned false Greater = refl

test_above_turned : (strict : Bool) (o : Ordering) → above strict (ordering_reverse o) ≡ stands_before (not strict) (ordering_reverse o)
test_above_turned true Less = refl
test_above_turned true Equal = refl
test_above_turned true Greater = refl
test_above_turned false Less = refl
test_above_turned false Equal = refl
test_above_turned false Greater = refl

-- ---- one column

abbrev one_cmp : Bool → List Datum → Datum → Ordering
one_cmp d [] x = Equal
one_cmp d (v ∷ _) x = directed d (datum_cmp v x)

abbrev one_within : Bool → Cut → Cut → Datum → Bool
one_within d from to x = not (stands_before from.behind (one_cmp d from.key x)) && stands_before to.behind (one_cmp d to.key x)

and_false : (b : Bool) → (b && false) ≡ false
and_false true = refl
and_false false = refl

and_swap : (a b : Bool) → (a && b) ≡ (b && a)
and_swap true true = refl
and_swap true false = refl
and_swap false true = refl
and_swap false false = refl

-- of a value that isn't NULL
module _ (x : Datum) (some : is_null x ≡ false) (e : Edge) (sound : is_null e.value ≡ false) where
  above_first : not (stands_before e.strict (datum_cmp e.value x)) ≡ holds (above e.strict) x e.value
  above_first = sym (holds_of (above e.strict) x e.value some sound ∙ ap (above e.strict) (turned x e.value) ∙ test_above e.strict (datum_cmp e.value x))

  below_last : stands_before (not e.strict) (datum_cmp e.value x) ≡ holds (below e.strict) x e.value
  below_last = sym (holds_of (below e.strict) x e.value some sound ∙ ap (below e.strict) (turned x e.value) ∙ test_below e.strict (datum_cmp e.value x))

  below_first : not (stands_before e.strict (ordering_reverse (datum_cmp e.value x))) ≡ holds (below e.strict) x e.value
  below_first = sym (holds_of (below e.strict) x e.value some sound ∙ ap (below e.strict) (turned x e.value) ∙ test_below_turned e.strict (datum_cmp e.value x))

  above_last : stands_before (not e.strict) (ordering_reverse (datum_cmp e.value x)) ≡ holds (above e.strict) x e.value
  above_last = sym (holds_of (above e.strict) x e.value some sound ∙ ap (above e.strict) (turned x e.value) ∙ test_above_turned e.strict (datum_cmp e.value x))

past_greater : (strict : Bool) → not (stands_before strict Greater) ≡ false
past_greater true = refl
past_greater false = refl

past_less : (behind : Bool) → stands_before behind Less ≡ false
past_less true = refl
past_less false = refl

some_value : (d : Bool) (l u : Option Edge) (x : Datum) → is_null x ≡ false → edge_is_null l ≡ false → edge_is_null u ≡ false
    → one_within d (first_cut d l u) (last_cut d l u) x ≡ (is_above l x && is_below u x)
some_value false None None x s a b = refl
some_value false (Some l) None x s a b = ap (λ t. t && true) (above_first x s l a)
some_value false None (Some u) x s a b = rw (null_first x s) (below_last x s u b)
some_value false (Some l) (Some u) x s a b = rw (above_first x s l a, below_last x s u b) refl
some_value true None None x s a b = refl
some_value true (Some l) None x s a b = rw (above_last x s l a) (sym (and_true (holds (above l.strict) x l.value)))
  where
    and_true : (t : Bool) → (t && true) ≡ t
    and_true true = refl
    and_true false = refl
some_value true None (Some u) x s a b = rw (null_first x s) (ap (λ t. t && true) (below_first x s u b) ∙ and_swap (holds (below u.strict) x u.value) true)
some_value true (Some l) (Some u) x s a b = rw (above_last x s l a, below_first x s u b) (and_swap (holds (below u.strict) x u.value) (holds (above l.strict) x l.value))

no_value : (d : Bool) (l u : Option Edge) (x : Datum) → is_null x ≡ true → edge_is_null l ≡ false → edge_is_null u ≡ false
    → one_within d (first_cut d l u) (last_cut d l u) x ≡ (is_above l x && is_below u x)
no_value false None None x s a b = refl
no_value false (Some l) None x s a b = rw (null_least l.value x a s, past_greater l.strict, holds_null (above l.strict) x l.value s) refl
no_value false None (Some u) x s a b = rw (null_itself x s, holds_null (below u.strict) x u.value s) refl
no_value false (Some l) (Some u) x s a b = rw (null_least l.value x a s, past_greater l.strict, holds_null (above l.strict) x l.value s) refl
no_value true None None x s a b = refl
no_value true (Some l) None x s a b = rw (null_least l.value x a s, past_less (not l.strict), holds_null (above l.strict) x l.value s) refl
no_value true None (Some u) x s a b = rw (null_itself x s, holds_null (below u.strict) x u.value s) (and_false (not (stands_before u.strict (ordering_reverse (datum_cmp u.value x)))))
no_value true (Some l) (Some u) x s a b = rw (null_least l.value x a s, past_less (not l.strict), holds_null (above l.strict) x l.value s) (and_false (not (stands_before u.strict (ordering_reverse (datum_cmp u.value x)))))

one_column : (d : Bool) (l u : Option Edge) (x : Datum) → edge_is_null l ≡ false → edge_is_null u ≡ false
    → one_within d (first_cut d l u) (last_cut d l u) x ≡ (is_above l x && is_below u x)
one_column d l u x a b = by-value (is_null x) refl
  where
    by-value : (t : Bool) → is_null x ≡ t → one_within d (first_cut d l u) (last_cut d l u) x ≡ (is_above l x && is_below u x)
    by-value true s = no_value d l u x s a b
    by-value false s = some_value d l u x s a b

-- ---- all columns

then_equal : (o : Ordering) → ordering_then o Equal ≡ o
then_equal Less = refl
then_equal Equal = refl
then_equal Greater = refl

-- a cut of one column at most, as both cuts of a range are behind its values
last_is_one : (ds : List Bool) (key : List Datum) (x : Datum) (rest : List Datum) → length key ≤ 1 → key_cmp ds key (x ∷ rest) ≡ one_cmp (direction ds 0) key x
last_is_one ds [] x rest h = refl
last_is_one [] (v ∷ []) x rest h = then_equal (datum_cmp v x)
last_is_one (d ∷ ds) (v ∷ []) x rest h = then_equal (directed d (datum_cmp v x))
last_is_one ds (v ∷ w ∷ more) x rest h = absurd (omega (arith, h))

first_short : (d : Bool) (l u : Option Edge) → length (first_cut d l u).key ≤ 1
first_short false (Some l) u = omega arith
first_short false None (Some u) = omega arith
first_short false None None = omega arith
first_short true l (Some u) = omega arith
first_short true l None = omega arith

last_short : (d : Bool) (l u : Option Edge) → length (last_cut d l u).key ≤ 1
last_short false l (Some u) = omega arith
last_short false l None = omega arith
last_short true (Some l) u = omega arith
last_short true None (Some u) = omega arith
last_short true None None = omega arith

equal_turned : (d : Bool) (o : Ordering) → is_eq (directed d o) ≡ is_eq (ordering_reverse o)
equal_turned true o = refl
equal_turned false Less = refl
equal_turned false Equal = refl
equal_turned false Greater = refl

-- equality with a bound is agreement with the cuts' key
holds_equal : (d : Bool) (x v : Datum) → is_null v ≡ false → holds is_eq x v ≡ is_eq (directed d (datum_cmp v x))
holds_equal d x v a = by-value (is_null x) refl
  where
    greater : (k : Bool) → is_eq (directed k Greater) ≡ false
    greater true = refl
    greater false = refl

    by-value : (t : Bool) → is_null x ≡ t → holds is_eq x v ≡ is_eq (directed d (datum_cmp v x))
    by-value true s = rw (holds_null is_eq x v s, null_least v x a s) (sym (greater d))
    by-value false s = holds_of is_eq x v s a ∙ ap is_eq (turned x v) ∙ sym (equal_turned d (datum_cmp v x))

-- both cuts have a value more at their front
one_more : (o r1 r2 : Ordering) (b1 b2 m : Bool) → (not (stands_before b1 r1) && stands_before b2 r2) ≡ m
    → (not (stands_before b1 (ordering_then o r1)) && stands_before b2 (ordering_then o r2)) ≡ (is_eq o && m)
one_more Less r1 r2 b1 b2 m h = rw (past_less b2) (and_false (not (stands_before b1 Less)))
one_more Equal r1 r2 b1 b2 m h = h
one_more Greater r1 r2 b1 b2 m h = rw (past_greater b1) refl

or_left : (a b : Bool) → (a || b) ≡ false → a ≡ false
or_left true b h = cc
or_left false b h = refl

or_right : (a b : Bool) → (a || b) ≡ false → b ≡ false
or_right true b h = cc
or_right false b h = h

-- of no column the cuts let every entry through
no_column : (l u : Option Edge) (d : Bool) (ds : List Bool) → 0 + bounded_columns l u ≤ 0
    → is_within ds (behind_values [] (first_cut d l u)) (behind_values [] (last_cut d l u)) [] ≡ meets [] l u []
no_column None None true ds h = refl
no_column None None false ds h = refl
no_column None (Some u) d ds h = absurd (omega (arith, h))
no_column (Some l) None d ds h = absurd (omega (arith, h))
no_column (Some l) (Some u) d ds h = absurd (omega (arith, h))

module _ (l u : Option Edge) (a : edge_is_null l ≡ false) (b : edge_is_null u ≡ false) where
  cuts : (ds : List Bool) (equal entry : List Datum) → list_any is_null equal ≡ false → length equal + bounded_columns l u ≤ length entry
      → is_within ds (behind_values equal (first_cut (direction ds (length equal)) l u)) (behind_values equal (last_cut (direction ds (length equal)) l u)) entry
      ≡ meets equal l u entry
  cuts ds [] [] n h = no_column l u (direction ds 0) ds h
  cuts ds [] (x ∷ rest) n h =
      let d = direction ds 0 in
      rw (last_is_one ds (first_cut d l u).key x rest (first_short d l u), last_is_one ds (last_cut d l u).key x rest (last_short d l u)) (one_column d l u x a b)
  cuts ds (v ∷ more) [] n h = absurd (omega (arith, h))
  cuts [] (v ∷ more) (x ∷ rest) n h =
      let sound : is_null v ≡ false = or_left (is_null v) (list_any is_null more) n in
      let later = cuts [] more rest (or_right (is_null v) (list_any is_null more) n) (omega (arith, h)) in
      rw (holds_equal false x v sound) (one_more (datum_cmp v x) _ _ _ _ (meets more l u rest) later)
  cuts (d ∷ ds) (v ∷ more) (x ∷ rest) n h =
      let sound : is_null v ≡ false = or_left (is_null v) (list_any is_null more) n in
      let later = cuts ds more rest (or_right (is_null v) (list_any is_null more) n) (omega (arith, h)) in
      rw (holds_equal d x v sound) (one_more (directed d (datum_cmp v x)) _ _ _ _ (meets more l u rest) later)

pub cuts_are_range : CutsAreRange
cuts_are_range descends range entry sound wide =
    let values = list_any is_null range.equal in
    let edges = edge_is_null range.lower || edge_is_null range.upper in
    cuts range.lower range.upper (or_left (edge_is_null range.lower) (edge_is_null range.upper) (or_right values edges sound))
    (or_right (edge_is_null range.lower) (edge_is_null range.upper) (or_right values edges sound))
    descends range.equal entry (or_left values edges sound) wide

-- ---- NULL

module _ (l u : Option Edge) where
  edge_null : (x : Datum) → (edge_is_null l || edge_is_null u) ≡ true → (is_above l x && is_below u x) ≡ false
  edge_null x h = by-edges l u h
    where
      by-edges : (l u : Option Edge) → (edge_is_null l || edge_is_null u) ≡ true → (is_above l x && is_below u x) ≡ false
      by-edges None None h = cc
      by-edges None (Some u) h = holds_by_null (below u.strict) x u.value h
      by-edges (Some l) None h = rw (holds_by_null (above l.strict) x l.value (or_false (is_null l.value) h)) refl
        where
          or_false : (t : Bool) → (t || false) ≡ true → t ≡ true
          or_false true h = refl
          or_false false h = h
      by-edges (Some l) (Some u) h = by-first (is_null l.value) refl h
        where
          by-first : (t : Bool) → is_null l.value ≡ t → (t || is_null u.value) ≡ true → (is_above (Some l) x && is_below (Some u) x) ≡ false
          by-first true e h = rw (holds_by_null (above l.strict) x l.value e) refl
          by-first false e h = rw (holds_by_null (below u.strict) x u.value h) (and_false (is_above (Some l) x))

  null_in : (equal entry : List Datum) → (list_any is_null equal || (edge_is_null l || edge_is_null u)) ≡ true → meets equal l u entry ≡ false
  null_in [] entry h = edge_null (slice_index_or entry 0 null) h
  null_in (v ∷ more) [] h = refl
  null_in (v ∷ more) (x ∷ rest) h = by-value (is_null v) refl h (null_in more rest)
    where
      by-value : (t : Bool) → is_null v ≡ t → ((t || list_any is_null more) || (edge_is_null l || edge_is_null u)) ≡ true
          → ((list_any is_null more || (edge_is_null l || edge_is_null u)) ≡ true → meets more l u rest ≡ false) → (holds is_eq x v && meets more l u rest) ≡ false
      by-value true e h later = rw (holds_by_null is_eq x v e) refl
      by-value false e h later = rw (later h) (and_false (holds is_eq x v))

pub null_meets_nothing : NullMeetsNothing
null_meets_nothing range entry h = null_in range.lower range.upper range.equal entry h
