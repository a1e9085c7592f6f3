-- A bound says of a row what its conjunct says.
use Rattle.std.proofs.Common.{◌≡◌, ◌||◌, Bool, true, false, ℕ, List, [], Option, Some, None, refl, ap, ◌∙◌}
use Rattle.std.specs.Prelude.{All, option_to_list, slice_index_or, if◌then◌else◌}
use Rattle.std.proofs.lemmas.List.Elements.{All-append, All-cons, All-contains, All-nil}
use Rattle.std.specs.Ordering.{ordering_reverse}
use Rattle.std.specs.declared.cmp.Ordering.{Ordering}
use Rattle.std.specs.declared.cmp.Ordering.TheVariants.{Less, Equal as Same, Greater}
use Rattle.values.specs.Datum.{Datum, null, int, text, blob}
use Rattle.values.specs.Order.{datum_cmp}
use Rattle.values.specs.OrderLaws.{datum_cmp_total}
use Rattle.expr.specs.declared.operations.kinds.Comparison.{Comparison}
use Rattle.expr.specs.declared.operations.kinds.Comparison.TheVariants.{Eq, Ne, Lt, Le, Gt, Ge}
use Rattle.expr.specs.Conjuncts.{is_true, keeps}
use Rattle.expr.specs.Meaning.{run}
use Rattle.expr.specs.operations.Operations.{comparison, condition, is_null as is_null_value, test_of, truth}
use Rattle.expr.specs.Term.{Term, column, compare}
use Rattle.btree_cursor.specs.key_ranges.Ranges.{holds, is_null}
use Rattle.index_choice.specs.ColumnBounds.{BoundSaysConjunct, BoundTerm, bound_by, bounds_of, column_bound, says, turned}

truth_condition : (b : Option Bool) → truth (condition b) ≡ b
unfolding truth condition
truth_condition None = refl
truth_condition (Some true) = refl
truth_condition (Some false) = refl

pub same_null : (x : Datum) → is_null_value x ≡ is_null x
unfolding is_null_value
same_null null = refl
same_null (int n) = refl
same_null (text s) = refl
same_null (blob s) = refl

-- a comparison is true where its test is and neither side is NULL
comparison_holds : (op : Comparison) (x v : Datum) → keeps (comparison op x v) ≡ holds (test_of op) x v
unfolding comparison
comparison_holds op x v = rw (same_null x, same_null v) (by-null (is_null x || is_null v))
  where
    by-null : (t : Bool) → keeps (if t then None else Some (test_of op (datum_cmp x v))) ≡ (if t then false else test_of op (datum_cmp x v))
    by-null true = refl
    by-null false = by-test (test_of op (datum_cmp x v))
      where
        by-test : (t : Bool) → keeps (Some t) ≡ t
        by-test true = refl
        by-test false = refl

pub compare_holds : (op : Comparison) (x v : Datum) → is_true (Some (condition (comparison op x v))) ≡ holds (test_of op) x v
compare_holds op x v = ap keeps (truth_condition (comparison op x v)) ∙ comparison_holds op x v

test_turned : (op : Comparison) (r : Ordering) → test_of op (ordering_reverse r) ≡ test_of (turned op) r
unfolding test_of
test_turned Eq Less = refl
test_turned Eq Same = refl
test_turned Eq Greater = refl
test_turned Ne Less = refl
test_turned Ne Same = refl
test_turned Ne Greater = refl
test_turned Lt Less = refl
test_turned Lt Same = refl
test_turned Lt Greater = refl
test_turned Le Less = refl
test_turned Le Same = refl
test_turned Le Greater = refl
test_turned Gt Less = refl
test_turned Gt Same = refl
test_turned Gt Greater = refl
test_turned Ge Less = refl
test_turned Ge Same = refl
test_turned Ge Greater = refl

holds_turned : (op : Comparison) (x v : Datum) → holds (test_of op) v x ≡ holds (test_of (turned op)) x v
holds_turned op x v =
    let e : test_of op (datum_cmp v x) ≡ test_of (turned op) (datum_cmp x v) = ap (test_of op) (datum_cmp_total.antisymm v x) ∙ test_turned op (datum_cmp x v) in
    by-null (is_null v) (is_null x) e
  where
    by-null : (s t : Bool) → test_of op (datum_cmp v x) ≡ test_of (turned op) (datum_cmp x v)
        → (if s || t then false else test_of op (datum_cmp v x)) ≡ (if t || s then false else test_of (turned op) (datum_cmp x v))
    by-null true true e = refl
    by-null true false e = refl
    by-null false true e = refl
    by-null false false e = e

module _ (t : Term) where
  abbrev Says : BoundTerm → Type 0
  Says bound = (o : Option Datum) (row : List Datum) (value : Datum) → run o row bound.value ≡ Some value
      → is_true (run o row t) ≡ says bound.side bound.strict (slice_index_or row bound.column null) value

  -- where the conjunct is true exactly where the comparison of a column is
  by_op : (op : Comparison) (c : ℕ) (e : Term) → ((o : Option Datum) (row : List Datum) (value : Datum) → run o row e ≡ Some value
      → is_true (run o row t) ≡ holds (test_of op) (slice_index_or row c null) value) → All Says (option_to_list (bound_by op c e))
  unfolding test_of
  by_op Eq c e h = All-cons Says _ [] h (All-nil Says)
  by_op Ne c e h = All-nil Says
  by_op Lt c e h = All-cons Says _ [] h (All-nil Says)
  by_op Le c e h = All-cons Says _ [] h (All-nil Says)
  by_op Gt c e h = All-cons Says _ [] h (All-nil Says)
  by_op Ge c e h = All-cons Says _ [] h (All-nil Says)

  by_column : (op : Comparison) (left e : Term) → ((c : ℕ) → left ≡ column c → (o : Option Datum) (row : List Datum) (value : Datum) → run o row e ≡ Some value
      → is_true (run o row t) ≡ holds (test_of op) (slice_index_or row c null) value) → All Says (option_to_list (column_bound op left e))
  by_column op (column c) e h = by_op op c e (h c refl)
  by_column op left e h = All-nil Says

all_say : (t : Term) → All (Says t) (bounds_of t)
all_say (compare op a b) =
    All-append (Says (compare op a b)) (option_to_list (column_bound op a b)) (option_to_list (column_bound (turned op) b a))
    (by_column (compare op a b) op a b (λ c is o row v e. rw (is, e) (compare_holds op (slice_index_or row c null) v)))
    (by_column (compare op a b) (turned op) b a (λ c is o row v e.
    rw (is, e) (compare_holds op v (slice_index_or row c null) ∙ holds_turned op (slice_index_or row c null) v)))
all_say t = All-nil (Says t)

pub bound_says_conjunct : BoundSaysConjunct
bound_says_conjunct t bound among = All-contains (Says t) (bounds_of t) bound (all_say t) among
