-- What is told to be the same is equal.
use Rattle.std.proofs.Common.{◌≡◌, ◌↔◌, Less, Equal, Greater, Bool, true, false, ◌&&◌, ℕ, List, [], ◌∷◌, Option, Some, None, nat_eq, refl, sym, subst, ap, ◌∙◌}
use Rattle.std.specs.Ordering.{is_eq}
use Rattle.std.specs.Cmp.{tied_itself}
use Rattle.std.proofs.lemmas.Bool.{eq-eqb, eqb-true}
use Rattle.values.specs.Datum.{Datum}
use Rattle.values.specs.Order.{datum_cmp}
use Rattle.values.specs.OrderLaws.{datum_cmp_total, datum_cmp-IsAntisymmetric}
use Rattle.expr.specs.Term.{Term, Terms, Arms}
use Rattle.expr.specs.declared.operations.kinds.Arithmetic.{Arithmetic}
use Rattle.expr.specs.declared.operations.kinds.Arithmetic.TheVariants as a
use Rattle.expr.specs.declared.operations.kinds.Comparison.{Comparison}
use Rattle.expr.specs.declared.operations.kinds.Comparison.TheVariants as c
use Rattle.expr.specs.declared.operations.kinds.Function.{Function}
use Rattle.expr.specs.declared.operations.kinds.Function.TheVariants as g
use Rattle.semantics.specs.Query.{Aggregate, AggregateFunction, Body, Direction, Edge, Exclusion, Frame, FrameUnit, From, Grouping, InnerQuery, JoinKind, Operator, Select, SortTerm, Source, Window, WindowCall, WindowFunction}
use Rattle.semantics_names.specs.Laws.{SameIsEqual}
use Rattle.semantics_names.specs.Same.{aggregate_place, are_same, are_same_arms, are_same_terms, arithmetic_place, comparison_place, exclusion_place, function_place, is_same_aggregate, is_same_body, is_same_bool, is_same_call, is_same_direction, is_same_edge, is_same_frame, is_same_from, is_same_function, is_same_grouping, is_same_inner, is_same_option, is_same_select, is_same_sort, is_same_source, is_same_term, is_same_window, join_place, operator_place, unit_place}

both_are : (x y : Bool) → (x && y) ≡ true → (x ≡ true) × (y ≡ true)
both_are true y e = (refl, e)
both_are false y e = absurd cc

both_hold : (x y : Bool) → x ≡ true → y ≡ true → (x && y) ≡ true
both_hold true y e d = d
both_hold false y e d = absurd cc

ap2 : {A B C : Type 0} (f : A → B → C) (x x' : A) (y y' : B) → x ≡ x' → y ≡ y' → f x y ≡ f x' y'
ap2 f x x' y y' e d = ap (λ v. f v y) e ∙ ap (λ v. f x' v) d

ap3 : {A B C D : Type 0} (f : A → B → C → D) (x x' : A) (y y' : B) (z z' : C) → x ≡ x' → y ≡ y' → z ≡ z' → f x y z ≡ f x' y' z'
ap3 f x x' y y' z z' e d h = ap2 (λ v w. f v w z) x x' y y' e d ∙ ap (λ v. f x' y' v) h

-- ---- values and operators

same_datum : (v u : Datum) → is_eq (datum_cmp v u) ≡ true → v ≡ u
same_datum v u e =
    datum_cmp-IsAntisymmetric v u
    (elim (datum_cmp v u) as (λ o. is_eq o ≡ true → o ≡ Equal) [ Less ↦ λ p. cc | Equal ↦ λ p. refl | Greater ↦ λ p. cc ] e)

itself_datum : (v : Datum) → is_eq (datum_cmp v v) ≡ true
itself_datum v = ap is_eq (tied_itself datum_cmp_total v)

itself_nat : (n : ℕ) → nat_eq n n ≡ true
itself_nat n = eq-eqb n n refl

same_arithmetic : (f h : Arithmetic) → nat_eq (arithmetic_place f) (arithmetic_place h) ≡ true → f ≡ h
same_arithmetic a.Add a.Add e = refl
same_arithmetic a.Sub a.Sub e = refl
same_arithmetic a.Mul a.Mul e = refl
same_arithmetic a.Div a.Div e = refl
same_arithmetic a.Rem a.Rem e = refl
same_arithmetic a.BitAnd a.BitAnd e = refl
same_arithmetic a.BitOr a.BitOr e = refl
same_arithmetic f h e = absurd cc

same_comparison : (f h : Comparison) → nat_eq (comparison_place f) (comparison_place h) ≡ true → f ≡ h
same_comparison c.Eq c.Eq e = refl
same_comparison c.Ne c.Ne e = refl
same_comparison c.Lt c.Lt e = refl
same_comparison c.Le c.Le e = refl
same_comparison c.Gt c.Gt e = refl
same_comparison c.Ge c.Ge e = refl
same_comparison f h e = absurd cc

same_function : (f h : Function) → nat_eq (function_place f) (function_place h) ≡ true → f ≡ h
same_function g.Neg g.Neg e = refl
same_function g.BitNot g.BitNot e = refl
same_function g.Not g.Not e = refl
same_function g.Abs g.Abs e = refl
same_function g.Length g.Length e = refl
same_function g.Lower g.Lower e = refl
same_function g.Upper g.Upper e = refl
same_function g.Hex g.Hex e = refl
same_function g.TypeOf g.TypeOf e = refl
same_function f h e = absurd cc

-- ---- terms

mutual
  pub same_term : (t u : Term) → is_same_term t u ≡ true → t ≡ u
  same_term (Term.literal v) (Term.literal u) e = ap Term.literal (same_datum v u e)
  same_term (Term.column i) (Term.column j) e = ap Term.column (eqb-true i j e)
  same_term (Term.call f x) (Term.call h y) e =
      let (o, p) = both_are (nat_eq (function_place f) (function_place h)) _ e in ap2 Term.call f h x y (same_function f h o) (same_term x y p)
  same_term (Term.arithmetic f x s) (Term.arithmetic h y t) e =
      let (o, r) = both_are (nat_eq (arithmetic_place f) (arithmetic_place h)) _ e in
      let (p, q) = both_are (is_same_term x y) _ r in
      ap3 Term.arithmetic f h x y s t (same_arithmetic f h o) (same_term x y p) (same_term s t q)
  same_term (Term.concat x s) (Term.concat y t) e =
      let (p, q) = both_are (is_same_term x y) _ e in ap2 Term.concat x y s t (same_term x y p) (same_term s t q)
  same_term (Term.compare f x s) (Term.compare h y t) e =
      let (o, r) = both_are (nat_eq (comparison_place f) (comparison_place h)) _ e in
      let (p, q) = both_are (is_same_term x y) _ r in
      ap3 Term.compare f h x y s t (same_comparison f h o) (same_term x y p) (same_term s t q)
  same_term (Term.is x s) (Term.is y t) e =
      let (p, q) = both_are (is_same_term x y) _ e in ap2 Term.is x y s t (same_term x y p) (same_term s t q)
  same_term (Term.and x s) (Term.and y t) e =
      let (p, q) = both_are (is_same_term x y) _ e in ap2 Term.and x y s t (same_term x y p) (same_term s t q)
  same_term (Term.or x s) (Term.or y t) e =
      let (p, q) = both_are (is_same_term x y) _ e in ap2 Term.or x y s t (same_term x y p) (same_term s t q)
  same_term (Term.between x s v) (Term.between y t u) e =
      let (p, r) = both_are (is_same_term x y) _ e in
      let (q, o) = both_are (is_same_term s t) _ r in
      ap3 Term.between x y s t v u (same_term x y p) (same_term s t q) (same_term v u o)
  same_term (Term.among x xs) (Term.among y ys) e =
      let (p, q) = both_are (is_same_term x y) _ e in ap2 Term.among x y xs ys (same_term x y p) (same_terms xs ys q)
  same_term (Term.coalesce xs) (Term.coalesce ys) e = ap Term.coalesce (same_terms xs ys e)
  same_term (Term.choice xs x) (Term.choice ys y) e =
      let (p, q) = both_are (are_same_arms xs ys) _ e in ap2 Term.choice xs ys x y (same_arms xs ys p) (same_term x y q)
  same_term (Term.choice_of s xs x) (Term.choice_of t ys y) e =
      let (o, r) = both_are (is_same_term s t) _ e in
      let (p, q) = both_are (are_same_arms xs ys) _ r in
      ap3 Term.choice_of s t xs ys x y (same_term s t o) (same_arms xs ys p) (same_term x y q)
  same_term (Term.null_if x s) (Term.null_if y t) e =
      let (p, q) = both_are (is_same_term x y) _ e in ap2 Term.null_if x y s t (same_term x y p) (same_term s t q)
  same_term (Term.like x s) (Term.like y t) e =
      let (p, q) = both_are (is_same_term x y) _ e in ap2 Term.like x y s t (same_term x y p) (same_term s t q)
  same_term t u e = absurd cc

  same_terms : (ts us : Terms) → are_same_terms ts us ≡ true → ts ≡ us
  same_terms Terms.none Terms.none e = refl
  same_terms (Terms.answer j) (Terms.answer k) e = ap Terms.answer (eqb-true j k e)
  same_terms (Terms.more x xs) (Terms.more y ys) e =
      let (p, q) = both_are (is_same_term x y) _ e in ap2 Terms.more x y xs ys (same_term x y p) (same_terms xs ys q)
  same_terms ts us e = absurd cc

  same_arms : (xs ys : Arms) → are_same_arms xs ys ≡ true → xs ≡ ys
  same_arms Arms.no_arms Arms.no_arms e = refl
  same_arms (Arms.arm x s xs) (Arms.arm y t ys) e =
      let (p, r) = both_are (is_same_term x y) _ e in
      let (q, o) = both_are (is_same_term s t) _ r in
      ap3 Arms.arm x y s t xs ys (same_term x y p) (same_term s t q) (same_arms xs ys o)
  same_arms xs ys e = absurd cc

mutual
  pub itself_term : (t : Term) → is_same_term t t ≡ true
  itself_term (Term.literal v) = itself_datum v
  itself_term (Term.column i) = itself_nat i
  itself_term (Term.call f x) = both_hold (nat_eq (function_place f) (function_place f)) _ (itself_nat (function_place f)) (itself_term x)
  itself_term (Term.arithmetic f x s) =
      both_hold (nat_eq (arithmetic_place f) (arithmetic_place f)) _ (itself_nat (arithmetic_place f)) (both_hold (is_same_term x x) _ (itself_term x) (itself_term s))
  itself_term (Term.concat x s) = both_hold (is_same_term x x) _ (itself_term x) (itself_term s)
  itself_term (Term.compare f x s) =
      both_hold (nat_eq (comparison_place f) (comparison_place f)) _ (itself_nat (comparison_place f)) (both_hold (is_same_term x x) _ (itself_term x) (itself_term s))
  itself_term (Term.is x s) = both_hold (is_same_term x x) _ (itself_term x) (itself_term s)
  itself_term (Term.and x s) = both_hold (is_same_term x x) _ (itself_term x) (itself_term s)
  itself_term (Term.or x s) = both_hold (is_same_term x x) _ (itself_term x) (itself_term s)
  itself_term (Term.between x s v) = both_hold (is_same_term x x) _ (itself_term x) (both_hold (is_same_term s s) _ (itself_term s) (itself_term v))
  itself_term (Term.among x xs) = both_hold (is_same_term x x) _ (itself_term x) (itself_terms xs)
  itself_term (Term.coalesce xs) = itself_terms xs
  itself_term (Term.choice xs x) = both_hold (are_same_arms xs xs) _ (itself_arms xs) (itself_term x)
  itself_term (Term.choice_of s xs x) = both_hold (is_same_term s s) _ (itself_term s) (both_hold (are_same_arms xs xs) _ (itself_arms xs) (itself_term x))
  itself_term (Term.null_if x s) = both_hold (is_same_term x x) _ (itself_term x) (itself_term s)
  itself_term (Term.like x s) = both_hold (is_same_term x x) _ (itself_term x) (itself_term s)

  itself_terms : (ts : Terms) → are_same_terms ts ts ≡ true
  itself_terms Terms.none = refl
  itself_terms (Terms.answer k) = itself_nat k
  itself_terms (Terms.more x xs) = both_hold (is_same_term x x) _ (itself_term x) (itself_terms xs)

  itself_arms : (xs : Arms) → are_same_arms xs xs ≡ true
  itself_arms Arms.no_arms = refl
  itself_arms (Arms.arm x s xs) = both_hold (is_same_term x x) _ (itself_term x) (both_hold (is_same_term s s) _ (itself_term s) (itself_arms xs))

-- ---- lists and what may be missing

module _ {A : Type 0} (same : A → A → Bool) where
  are_same-reads : ((x y : A) → same x y ≡ true → x ≡ y) → (xs ys : List A) → are_same same xs ys ≡ true → xs ≡ ys
  are_same-reads reads [] [] e = refl
  are_same-reads reads [] (y ∷ ys) e = absurd cc
  are_same-reads reads (x ∷ xs) [] e = absurd cc
  are_same-reads reads (x ∷ xs) (y ∷ ys) e =
      let (p, q) = both_are (same x y) _ e in ap2 ◌∷◌ x y xs ys (reads x y p) (are_same-reads reads xs ys q)

  are_same-itself : ((x : A) → same x x ≡ true) → (xs : List A) → are_same same xs xs ≡ true
  are_same-itself itself [] = refl
  are_same-itself itself (x ∷ xs) = both_hold (same x x) _ (itself x) (are_same-itself itself xs)

  option-reads : ((x y : A) → same x y ≡ true → x ≡ y) → (o p : Option A) → is_same_option same o p ≡ true → o ≡ p
  option-reads reads None None e = refl
  option-reads reads None (Some y) e = absurd cc
  option-reads reads (Some x) None e = absurd cc
  option-reads reads (Some x) (Some y) e = ap Some (reads x y e)

  option-itself : ((x : A) → same x x ≡ true) → (o : Option A) → is_same_option same o o ≡ true
  option-itself itself None = refl
  option-itself itself (Some x) = itself x

bool-reads : (x y : Bool) → is_same_bool x y ≡ true → x ≡ y
bool-reads true y e = sym e
bool-reads false true e = absurd cc
bool-reads false false e = refl

bool-itself : (x : Bool) → is_same_bool x x ≡ true
bool-itself true = refl
bool-itself false = refl

-- ---- aggregates and windows

aggregate_function-reads : (f h : AggregateFunction) → nat_eq (aggregate_place f) (aggregate_place h) ≡ true → f ≡ h
aggregate_function-reads AggregateFunction.count AggregateFunction.count e = refl
aggregate_function-reads AggregateFunction.sum AggregateFunction.sum e = refl
aggregate_function-reads AggregateFunction.min AggregateFunction.min e = refl
aggregate_function-reads AggregateFunction.max AggregateFunction.max e = refl
aggregate_function-reads f h e = absurd cc

aggregate-reads : (x y : Aggregate) → is_same_aggregate x y ≡ true → x ≡ y
aggregate-reads x y e =
    let (p, q) = both_are (nat_eq (aggregate_place x.function) (aggregate_place y.function)) _ e in
    let make : AggregateFunction → Term → Aggregate = λ function argument. record { function = function; argument = argument } in
    ap2 make x.function y.function x.argument y.argument (aggregate_function-reads x.function y.function p) (same_term x.argument y.argument q)

aggregate-itself : (x : Aggregate) → is_same_aggregate x x ≡ true
aggregate-itself x = both_hold (nat_eq (aggregate_place x.function) (aggregate_place x.function)) _ (itself_nat (aggregate_place x.function)) (itself_term x.argument)

direction-reads : (d h : Direction) → is_same_direction d h ≡ true → d ≡ h
direction-reads d h e =
    let (p, q) = both_are (is_same_bool d.descending h.descending) _ e in
    let make : Bool → Bool → Direction = λ descending first. record { descending = descending; nulls_first = first } in
    ap2 make d.descending h.descending d.nulls_first h.nulls_first (bool-reads d.descending h.descending p) (bool-reads d.nulls_first h.nulls_first q)

direction-itself : (d : Direction) → is_same_direction d d ≡ true
direction-itself d = both_hold (is_same_bool d.descending d.descending) _ (bool-itself d.descending) (bool-itself d.nulls_first)

sort-reads : (s t : SortTerm) → is_same_sort s t ≡ true → s ≡ t
sort-reads s t e =
    let (p, q) = both_are (is_same_term s.term t.term) _ e in
    let make : Term → Direction → SortTerm = λ by direction. record { term = by; direction = direction } in
    ap2 make s.term t.term s.direction t.direction (same_term s.term t.term p) (direction-reads s.direction t.direction q)

sort-itself : (s : SortTerm) → is_same_sort s s ≡ true
sort-itself s = both_hold (is_same_term s.term s.term) _ (itself_term s.term) (direction-itself s.direction)

edge-reads : (d h : Edge) → is_same_edge d h ≡ true → d ≡ h
edge-reads Edge.unbounded_preceding Edge.unbounded_preceding e = refl
edge-reads (Edge.preceding m) (Edge.preceding n) e = ap Edge.preceding (eqb-true m n e)
edge-reads Edge.current_row Edge.current_row e = refl
edge-reads (Edge.following m) (Edge.following n) e = ap Edge.following (eqb-true m n e)
edge-reads Edge.unbounded_following Edge.unbounded_following e = refl
edge-reads d h e = absurd cc

edge-itself : (d : Edge) → is_same_edge d d ≡ true
edge-itself Edge.unbounded_preceding = refl
edge-itself (Edge.preceding m) = itself_nat m
edge-itself Edge.current_row = refl
edge-itself (Edge.following m) = itself_nat m
edge-itself Edge.unbounded_following = refl

unit-reads : (u v : FrameUnit) → nat_eq (unit_place u) (unit_place v) ≡ true → u ≡ v
unit-reads FrameUnit.rows FrameUnit.rows e = refl
unit-reads FrameUnit.range FrameUnit.range e = refl
unit-reads FrameUnit.groups FrameUnit.groups e = refl
unit-reads u v e = absurd cc

exclusion-reads : (u v : Exclusion) → nat_eq (exclusion_place u) (exclusion_place v) ≡ true → u ≡ v
exclusion-reads Exclusion.no_others Exclusion.no_others e = refl
exclusion-reads Exclusion.current Exclusion.current e = refl
exclusion-reads Exclusion.group Exclusion.group e = refl
exclusion-reads Exclusion.ties Exclusion.ties e = refl
exclusion-reads u v e = absurd cc

frame-reads : (f h : Frame) → is_same_frame f h ≡ true → f ≡ h
frame-reads f h e =
    let (p, r) = both_are (nat_eq (unit_place f.unit) (unit_place h.unit)) _ e in
    let (q, s) = both_are (is_same_edge f.start h.start) _ r in
    let (o, d) = both_are (is_same_edge f.end h.end) _ s in
    let make : FrameUnit → Edge → Edge → Exclusion → Frame = λ unit start end exclude. record { unit = unit; start = start; end = end; exclude = exclude } in
    ap3 (λ unit start end. make unit start end f.exclude) f.unit h.unit f.start h.start f.end h.end
    (unit-reads f.unit h.unit p) (edge-reads f.start h.start q) (edge-reads f.end h.end o)
    ∙ ap (make h.unit h.start h.end) (exclusion-reads f.exclude h.exclude d)

frame-itself : (f : Frame) → is_same_frame f f ≡ true
frame-itself f =
    both_hold (nat_eq (unit_place f.unit) (unit_place f.unit)) _ (itself_nat (unit_place f.unit))
    (both_hold (is_same_edge f.start f.start) _ (edge-itself f.start)
    (both_hold (is_same_edge f.end f.end) _ (edge-itself f.end) (itself_nat (exclusion_place f.exclude))))

window-reads : (v u : Window) → is_same_window v u ≡ true → v ≡ u
window-reads v u e =
    let (p, r) = both_are (are_same is_same_term v.partition u.partition) _ e in
    let (q, s) = both_are (are_same is_same_sort v.order u.order) _ r in
    let make : List Term → List SortTerm → Frame → Window = λ by order frame. record { partition = by; order = order; frame = frame } in
    ap3 make v.partition u.partition v.order u.order v.frame u.frame (are_same-reads is_same_term same_term v.partition u.partition p)
    (are_same-reads is_same_sort sort-reads v.order u.order q) (frame-reads v.frame u.frame s)

window-itself : (v : Window) → is_same_window v v ≡ true
window-itself v =
    both_hold (are_same is_same_term v.partition v.partition) _ (are_same-itself is_same_term itself_term v.partition)
    (both_hold (are_same is_same_sort v.order v.order) _ (are_same-itself is_same_sort sort-itself v.order) (frame-itself v.frame))

function-reads : (f h : WindowFunction) → is_same_function f h ≡ true → f ≡ h
function-reads (WindowFunction.aggregate x) (WindowFunction.aggregate y) e = ap WindowFunction.aggregate (aggregate-reads x y e)
function-reads WindowFunction.row_number WindowFunction.row_number e = refl
function-reads WindowFunction.rank WindowFunction.rank e = refl
function-reads WindowFunction.dense_rank WindowFunction.dense_rank e = refl
function-reads (WindowFunction.ntile m) (WindowFunction.ntile n) e = ap WindowFunction.ntile (eqb-true m n e)
function-reads (WindowFunction.lag x m s) (WindowFunction.lag y n t) e =
    let (p, r) = both_are (is_same_term x y) _ e in
    let (q, o) = both_are (nat_eq m n) _ r in
    ap3 WindowFunction.lag x y m n s t (same_term x y p) (eqb-true m n q) (same_term s t o)
function-reads (WindowFunction.lead x m s) (WindowFunction.lead y n t) e =
    let (p, r) = both_are (is_same_term x y) _ e in
    let (q, o) = both_are (nat_eq m n) _ r in
    ap3 WindowFunction.lead x y m n s t (same_term x y p) (eqb-true m n q) (same_term s t o)
function-reads (WindowFunction.first_value x) (WindowFunction.first_value y) e = ap WindowFunction.first_value (same_term x y e)
function-reads (WindowFunction.last_value x) (WindowFunction.last_value y) e = ap WindowFunction.last_value (same_term x y e)
function-reads (WindowFunction.nth_value x m) (WindowFunction.nth_value y n) e =
    let (p, q) = both_are (is_same_term x y) _ e in ap2 WindowFunction.nth_value x y m n (same_term x y p) (eqb-true m n q)
function-reads f h e = absurd cc

function-itself : (f : WindowFunction) → is_same_function f f ≡ true
function-itself (WindowFunction.aggregate x) = aggregate-itself x
function-itself WindowFunction.row_number = refl
function-itself WindowFunction.rank = refl
function-itself WindowFunction.dense_rank = refl
function-itself (WindowFunction.ntile m) = itself_nat m
function-itself (WindowFunction.lag x m s) = both_hold (is_same_term x x) _ (itself_term x) (both_hold (nat_eq m m) _ (itself_nat m) (itself_term s))
function-itself (WindowFunction.lead x m s) = both_hold (is_same_term x x) _ (itself_term x) (both_hold (nat_eq m m) _ (itself_nat m) (itself_term s))
function-itself (WindowFunction.first_value x) = itself_term x
function-itself (WindowFunction.last_value x) = itself_term x
function-itself (WindowFunction.nth_value x m) = both_hold (is_same_term x x) _ (itself_term x) (itself_nat m)

call-reads : (x y : WindowCall) → is_same_call x y ≡ true → x ≡ y
call-reads x y e =
    let (p, q) = both_are (is_same_window x.window y.window) _ e in
    let make : Window → WindowFunction → WindowCall = λ over function. record { window = over; function = function } in
    ap2 make x.window y.window x.function y.function (window-reads x.window y.window p) (function-reads x.function y.function q)

call-itself : (x : WindowCall) → is_same_call x x ≡ true
call-itself x = both_hold (is_same_window x.window x.window) _ (window-itself x.window) (function-itself x.function)

-- ---- queries

grouping-reads : (f h : Grouping) → is_same_grouping f h ≡ true → f ≡ h
grouping-reads f h e =
    let (p, r) = both_are (are_same is_same_term f.by h.by) _ e in
    let (q, s) = both_are (are_same is_same_aggregate f.aggregates h.aggregates) _ r in
    let make : List Term → List Aggregate → Term → Grouping = λ by aggregates having. record { by = by; aggregates = aggregates; having = having } in
    ap3 make f.by h.by f.aggregates h.aggregates f.having h.having (are_same-reads is_same_term same_term f.by h.by p)
    (are_same-reads is_same_aggregate aggregate-reads f.aggregates h.aggregates q) (same_term f.having h.having s)

grouping-itself : (f : Grouping) → is_same_grouping f f ≡ true
grouping-itself f =
    both_hold (are_same is_same_term f.by f.by) _ (are_same-itself is_same_term itself_term f.by)
    (both_hold (are_same is_same_aggregate f.aggregates f.aggregates) _ (are_same-itself is_same_aggregate aggregate-itself f.aggregates) (itself_term f.having))

select-reads : (s t : Select) → is_same_select s t ≡ true → s ≡ t
select-reads s t e =
    let (p, r) = both_are (is_same_term s.condition t.condition) _ e in
    let (q, o) = both_are (is_same_option is_same_grouping s.grouping t.grouping) _ r in
    let (d, h) = both_are (are_same is_same_call s.windows t.windows) _ o in
    let (k, l) = both_are (are_same is_same_term s.columns t.columns) _ h in
    let make : Term → Option Grouping → List WindowCall → List Term → Bool → Select =
    λ condition grouping windows columns distinct. record { condition = condition; grouping = grouping; windows = windows; columns = columns; distinct = distinct } in
    ap3 (λ condition grouping windows. make condition grouping windows s.columns s.distinct) s.condition t.condition s.grouping t.grouping s.windows t.windows
    (same_term s.condition t.condition p) (option-reads is_same_grouping grouping-reads s.grouping t.grouping q) (are_same-reads is_same_call call-reads s.windows t.windows d)
    ∙ ap2 (make t.condition t.grouping t.windows) s.columns t.columns s.distinct t.distinct (are_same-reads is_same_term same_term s.columns t.columns k)
    (bool-reads s.distinct t.distinct l)

select-itself : (s : Select) → is_same_select s s ≡ true
select-itself s =
    both_hold (is_same_term s.condition s.condition) _ (itself_term s.condition)
    (both_hold (is_same_option is_same_grouping s.grouping s.grouping) _ (option-itself is_same_grouping grouping-itself s.grouping)
    (both_hold (are_same is_same_call s.windows s.windows) _ (are_same-itself is_same_call call-itself s.windows)
    (both_hold (are_same is_same_term s.columns s.columns) _ (are_same-itself is_same_term itself_term s.columns) (bool-itself s.distinct))))

join-reads : (j k : JoinKind) → nat_eq (join_place j) (join_place k) ≡ true → j ≡ k
join-reads JoinKind.inner JoinKind.inner e = refl
join-reads JoinKind.left JoinKind.left e = refl
join-reads JoinKind.right JoinKind.right e = refl
join-reads JoinKind.full JoinKind.full e = refl
join-reads j k e = absurd cc

operator-reads : (j k : Operator) → nat_eq (operator_place j) (operator_place k) ≡ true → j ≡ k
operator-reads Operator.union Operator.union e = refl
operator-reads Operator.union_all Operator.union_all e = refl
operator-reads Operator.intersect Operator.intersect e = refl
operator-reads Operator.except Operator.except e = refl
operator-reads j k e = absurd cc

mutual
  source-reads : (s t : Source) → is_same_source s t ≡ true → s ≡ t
  source-reads (Source.table at width) (Source.table place size) e =
      let (p, q) = both_are (nat_eq at place) _ e in ap2 Source.table at place width size (eqb-true at place p) (eqb-true width size q)
  source-reads Source.schema Source.schema e = refl
  source-reads (Source.derived body) (Source.derived other) e = ap Source.derived (body-reads body other e)
  source-reads s t e = absurd cc

  from-reads : (f h : From) → is_same_from f h ≡ true → f ≡ h
  from-reads From.nothing From.nothing e = refl
  from-reads (From.joined from kind source on) (From.joined other join right condition) e =
      let (p, r) = both_are (is_same_from from other) _ e in
      let (q, s) = both_are (nat_eq (join_place kind) (join_place join)) _ r in
      let (o, d) = both_are (is_same_source source right) _ s in
      ap3 (λ f k s. From.joined f k s on) from other kind join source right (from-reads from other p) (join-reads kind join q) (source-reads source right o)
      ∙ ap (From.joined other join right) (same_term on condition d)
  from-reads (From.with_inner from query) (From.with_inner other asked) e =
      let (p, q) = both_are (is_same_from from other) _ e in ap2 From.with_inner from other query asked (from-reads from other p) (inner-reads query asked q)
  from-reads f h e = absurd cc

  inner-reads : (q r : InnerQuery) → is_same_inner q r ≡ true → q ≡ r
  inner-reads (InnerQuery.values_of body) (InnerQuery.values_of other) e = ap InnerQuery.values_of (body-reads body other e)
  inner-reads (InnerQuery.exists body) (InnerQuery.exists other) e = ap InnerQuery.exists (body-reads body other e)
  inner-reads q r e = absurd cc

  body-reads : (b d : Body) → is_same_body b d ≡ true → b ≡ d
  body-reads (Body.select from s) (Body.select other t) e =
      let (p, q) = both_are (is_same_from from other) _ e in ap2 Body.select from other s t (from-reads from other p) (select-reads s t q)
  body-reads (Body.compound body op from s) (Body.compound left operator other t) e =
      let (p, r) = both_are (is_same_body body left) _ e in
      let (q, o) = both_are (nat_eq (operator_place op) (operator_place operator)) _ r in
      let (d, k) = both_are (is_same_from from other) _ o in
      ap3 (λ b o f. Body.compound b o f s) body left op operator from other (body-reads body left p) (operator-reads op operator q) (from-reads from other d)
      ∙ ap (Body.compound left operator other) (select-reads s t k)
  body-reads b d e = absurd cc

mutual
  source-itself : (s : Source) → is_same_source s s ≡ true
  source-itself (Source.table at width) = both_hold (nat_eq at at) _ (itself_nat at) (itself_nat width)
  source-itself Source.schema = refl
  source-itself (Source.derived body) = body-itself body

  from-itself : (f : From) → is_same_from f f ≡ true
  from-itself From.nothing = refl
  from-itself (From.joined from kind source on) =
      both_hold (is_same_from from from) _ (from-itself from)
      (both_hold (nat_eq (join_place kind) (join_place kind)) _ (itself_nat (join_place kind)) (both_hold (is_same_source source source) _ (source-itself source) (itself_term on)))
  from-itself (From.with_inner from query) = both_hold (is_same_from from from) _ (from-itself from) (inner-itself query)

  inner-itself : (q : InnerQuery) → is_same_inner q q ≡ true
  inner-itself (InnerQuery.values_of body) = body-itself body
  inner-itself (InnerQuery.exists body) = body-itself body

  body-itself : (b : Body) → is_same_body b b ≡ true
  body-itself (Body.select from s) = both_hold (is_same_from from from) _ (from-itself from) (select-itself s)
  body-itself (Body.compound body op from s) =
      both_hold (is_same_body body body) _ (body-itself body)
      (both_hold (nat_eq (operator_place op) (operator_place op)) _ (itself_nat (operator_place op)) (both_hold (is_same_from from from) _ (from-itself from) (select-itself s)))

-- ---- the law

decides : {A : Type 0} (same : A → A → Bool) → ((x y : A) → same x y ≡ true → x ≡ y) → ((x : A) → same x x ≡ true) → (x y : A) → (same x y ≡ true) ↔ (x ≡ y)
decides same reads itself x y = (reads x y, λ e. subst (λ z. same x z ≡ true) e (itself x))

pub same_is_equal : SameIsEqual
same_is_equal = record {
  terms = decides is_same_term same_term itself_term;
  aggregates = decides is_same_aggregate aggregate-reads aggregate-itself;
  calls = decides is_same_call call-reads call-itself;
  inner_queries = decides is_same_inner inner-reads inner-itself;
}
