-- Where an expression that is computed over groups is refused because of a bare column, one stands bare in it.
use Rattle.std.proofs.Common.{◌≡◌, ◌⊎◌, inl, inr, Bool, true, false, if◌then◌else◌, ℕ, pos, List, [], ◌∷◌, ◌++◌, length, Option, Some, None, Result, Ok, Err, Contains, append_assoc, ap, refl, subst, ◌∙◌}
use Rattle.std.specs.Str.{str_eq_ignore_ascii_case}
use Rattle.std.proofs.lemmas.List.Elements.{Contains-append_left, Contains-append_right}
use Rattle.values.specs.declared.fault.Fault.{Fault}
use Rattle.values.specs.declared.fault.Fault.TheVariants.{Ambiguous, BadFrame, BareColumn, UnknownColumn, WrongPlace}
use Rattle.values.specs.Datum.{null}
use Rattle.expr.specs.Term.{Term, literal}
use Rattle.semantics.specs.Query.{always, filtered, Aggregate, AggregateFunction, Window, WindowFunction}
use Rattle.sql_reader_syntax.specs.ExprTree.{ArmTrees, BehindTree, ExprTree, ExprTrees, MaybeExpr, OverTree, TermTrees, WindowTree}
use Rattle.sql_reader_syntax.specs.Tree.{Name}
use Rattle.sql_reader_syntax.specs.declared.expr.Function as written
use Rattle.sql_reader_syntax.specs.declared.expr.Function.TheVariants as w
use Rattle.sql_reader_syntax.specs.declared.query.Frame as written_frame
use Rattle.semantics_names.specs.Expression.{Answers, InnerTree, Says, among_answer, among_items, arms_of, between_bounds, binary, called, case, exists, operand_of, otherwise_of, postfix, prefix, term_of, terms_of}
use Rattle.semantics_names.specs.Outcome.{also, both, chosen, followed, found_or}
use Rattle.semantics_names.specs.Parts.{all_parts, arms_parts, behind_parts, inner_tree, maybe_parts, over_parts, parts, terms_parts, window_parts}
use Rattle.semantics_names.specs.Places.{Defined, aggregate, aggregate_call, aggregate_named, aggregate_of, call_of, columns_say, count_rows, defined_as, edge_of, filter_of, frame_between, frame_of, function_or, of_term, over, over_call, ranking, ranking_unless, sorted, window, window_call, window_of}
use Rattle.semantics_names.specs.Scope.{Scope, bare_term, called as columns_called, column_of, only}
use Rattle.semantics_refusals.specs.BareColumns.{after_in, arms_in, directly_in, maybe_in, over_in, window_in}
use Rattle.semantics_refusals.specs.WrongPlaces.{HasOver, expressions, inside_call}
use Rattle.semantics_refusals.specs.Written.{terms_in}
use Rattle.semantics_refusals.proofs.BareLemmas.{cases, head, next}
use Rattle.semantics_refusals.proofs.CoreLemmas.{inside_of}
use Rattle.semantics_refusals.proofs.ErrLemmas.{also-err, both-err, chosen-err, followed-err}
use Rattle.semantics_refusals.proofs.OkLemmas.{IsGiven}
use Rattle.semantics_refusals.proofs.OutcomeLemmas.{Only, OnlySome, Takes, also_only, both_only, found_only, ok, refused}
use Rattle.semantics_refusals.proofs.PartLemmas.{Each, back, first, front, own, weaker}
use Rattle.semantics_refusals.proofs.PlaceLemmas.{aggregate_only, columns_named}
use Rattle.semantics_refusals.proofs.TermLemmas.{IsFineCall, Sound, called_only, frame_in, term_only}

-- another fault
abbrev pub IsOther : Fault → Type 0
IsOther fault = fault ≡ BareColumn → ⊥

unknown : IsOther UnknownColumn
unknown same = absurd cc

ambiguous : IsOther Ambiguous
ambiguous same = absurd cc

misplaced : IsOther WrongPlace
misplaced same = absurd cc

bad_frame : IsOther BadFrame
bad_frame same = absurd cc

pub never : {A G : Type 0} (r : Result A Fault) → Only IsOther r → r ≡ Err BareColumn → G
never (Ok a) o e = absurd cc
never (Err fault) o e = let same : fault ≡ BareColumn = cc in absurd (o.is same)

given_only : {A : Type 0} (r : Result A Fault) → IsGiven r → Only IsOther r
given_only (Ok a) given = ok a
given_only (Err fault) (a, e) = absurd cc

given_never : {A G : Type 0} (r : Result A Fault) → IsGiven r → r ≡ Err BareColumn → G
given_never r given e = never r (given_only r given) e

-- the answer of a query that stands there is given
pub record IsAnswered (answers : Answers) (part : ExprTree) : Type 0 where
  pub is : (tree : InnerTree) → inner_tree part ≡ Some tree → IsGiven (answers tree)

-- ---- over the columns of FROM

frame_other : (frame : Option written_frame.Frame) → Only IsOther (frame_of frame)
frame_other None = ok _
frame_other (Some frame) =
    both_only (frame_between frame) (found_or BadFrame (edge_of frame.start)) (found_or BadFrame (edge_of frame.end))
    (found_only BadFrame (edge_of frame.start) bad_frame) (found_only BadFrame (edge_of frame.end) bad_frame)

call_other : (part : ExprTree) → IsFineCall IsOther [] part
call_other part = record {
  frame = λ v is. frame_other (frame_in v);
  defined = λ name is all. bad_frame;
  function = λ over may. misplaced;
  counted = λ function es after same few. misplaced;
}

pub column_other : (scope : Scope) (table : Option Name) (name : Name) → Only IsOther (column_of scope table name)
column_other scope table name = also_only bare_term (only (columns_called table name 0 scope)) (by (columns_called table name 0 scope))
  where
    by : (found : List (List ℕ)) → Only IsOther (only found)
    by [] = refused UnknownColumn unknown
    by (places ∷ []) = ok places
    by (places ∷ others ∷ rest) = refused Ambiguous ambiguous

pub columns_other : (scope : Scope) (part : ExprTree) → Only IsOther (columns_say scope part)
columns_other scope (ExprTree.Column table name) = also_only Some (column_of scope table name) (column_other scope table name)
columns_other scope _ = ok None

module _ (answers : Answers) (scope : Scope) where
  sounds : (xs : List ExprTree) → Each (IsAnswered answers) xs → Each (Sound IsOther [] answers (columns_say scope)) xs
  sounds xs all =
      weaker (λ part answered. record {
        said = columns_other scope part;
        answered = λ tree is. given_only (answers tree) (answered.is tree is);
        framed = call_other part;
        named = columns_named scope part;
        fits = λ none apart. misplaced;
      }) all

  pub columns_term_other : (e : ExprTree) → Each (IsAnswered answers) (parts e) → Only IsOther (term_of answers (columns_say scope) e)
  columns_term_other e all = term_only IsOther [] answers (columns_say scope) e (sounds (parts e) all)

  pub aggregate_other : Takes IsOther → (part : ExprTree) → Each (IsAnswered answers) (parts part) → OnlySome IsOther (aggregate_of answers (columns_say scope) part)
  aggregate_other takes part all =
      aggregate_only IsOther takes [] answers (columns_say scope) part (λ is. sounds (inside_call part) (inside_of part all))

-- ---- what a place says

defined_never : {G : Type 0} (defined : List Defined) (name : Name) → defined_as defined name ≡ Err BareColumn → G
defined_never [] name e = absurd cc
defined_never {G = G} (d ∷ ds) name e = by (str_eq_ignore_ascii_case d.name name) e (λ more. defined_never ds name more)
  where
    by : (b : Bool) → (if b then Ok d.window else defined_as ds name) ≡ Err BareColumn → (defined_as ds name ≡ Err BareColumn → G) → G
    by true is rest = absurd cc
    by false is rest = rest is

module _ (answers : Answers) (Ready : ExprTree → Type 0) (answered : (part : ExprTree) → Ready part → IsAnswered answers part) (says : Says)
    (Bad : ExprTree → Type 0) where
  -- Where a place refuses a part so, it is bad; so is what it passes over, and what has OVER, where something bad stands directly in it.
  pub record Traces : Type 0 where
    pub said : (e : ExprTree) → Each Ready (parts e) → says e ≡ Err BareColumn → Bad e
    pub down : (e : ExprTree) → Each Ready (parts e) → says e ≡ Ok None → (x : ExprTree) → Contains (directly_in e) x → Bad x → Bad e
    pub over : (e : ExprTree) → Each Ready (parts e) → HasOver e → (x : ExprTree) → Contains (directly_in e) x → Bad x → Bad e

  -- among these is something bad
  abbrev Finds : List ExprTree → Type 0
  Finds xs = (x : ExprTree) × Contains xs x × Bad x

  finds_front : (xs ys : List ExprTree) → Finds xs → Finds (xs ++ ys)
  finds_front xs ys (x, there, bad) = (x, Contains-append_left xs ys x there, bad)

  finds_back : (xs ys : List ExprTree) → Finds ys → Finds (xs ++ ys)
  finds_back xs ys (x, there, bad) = (x, Contains-append_right xs ys x there, bad)

  finds_head : (x : ExprTree) (xs : List ExprTree) → Bad x → Finds (x ∷ xs)
  finds_head x xs bad = (x, head x xs, bad)

  finds_next : (x : ExprTree) (xs : List ExprTree) → Finds xs → Finds (x ∷ xs)
  finds_next x xs (y, there, bad) = (y, next x xs y there, bad)

  module _ (traces : Traces) where
    -- a part that is passed over is made of others
    made : (e : ExprTree) → Each Ready (parts e) → (rest : Result Term Fault) → (rest ≡ Err BareColumn → Finds (directly_in e))
        → chosen (says e) rest ≡ Err BareColumn → Bad e
    made e all rest more is =
        cases (chosen-err (says e) rest BareColumn is) (λ said. traces.said e all said)
        (λ (none, d). let (x, there, bad) = more d in traces.down e all none x there bad)

    mutual
      pub term_traced : (e : ExprTree) → Each Ready (parts e) → term_of answers says e ≡ Err BareColumn → Bad e
      term_traced ExprTree.Null all e = made ExprTree.Null all _ (λ d. absurd cc) e
      term_traced (ExprTree.Number z) all e = made (ExprTree.Number z) all _ (λ d. absurd cc) e
      term_traced (ExprTree.Text content) all e = made (ExprTree.Text content) all _ (λ d. absurd cc) e
      term_traced (ExprTree.Blob bytes) all e = made (ExprTree.Blob bytes) all _ (λ d. absurd cc) e
      term_traced (ExprTree.Column table name) all e = made (ExprTree.Column table name) all _ (λ d. absurd cc) e
      term_traced (ExprTree.Prefix op x) all e =
          made (ExprTree.Prefix op x) all _ (λ d.
          finds_head x [] (term_traced x (front (parts x) _ all) (also-err (prefix op) (term_of answers says x) BareColumn d))) e
      term_traced (ExprTree.Binary op x y) all e =
          let both_parts = front (parts x ++ parts y) _ all in
          made (ExprTree.Binary op x y) all _ (λ d.
          cases (both-err (binary op) (term_of answers says x) (term_of answers says y) BareColumn d)
          (λ left. finds_head x (y ∷ []) (term_traced x (front (parts x) (parts y) both_parts) left))
          (λ (t, is, right). finds_next x (y ∷ []) (finds_head y [] (term_traced y (back (parts x) (parts y) both_parts) right)))) e
      term_traced (ExprTree.Postfix op x) all e =
          made (ExprTree.Postfix op x) all _ (λ d.
          finds_head x [] (term_traced x (front (parts x) _ all) (also-err (postfix op) (term_of answers says x) BareColumn d))) e
      term_traced (ExprTree.Between not x low high) all e =
          let three = front (parts x ++ parts low ++ parts high) _ all in
          let two = front (parts x ++ parts low) (parts high) three in
          made (ExprTree.Between not x low high) all _ (λ d.
          cases (followed-err (term_of answers says x) _ BareColumn d)
          (λ left. finds_head x (low ∷ high ∷ []) (term_traced x (front (parts x) (parts low) two) left))
          (λ (t, is, rest). finds_next x (low ∷ high ∷ [])
          (cases (both-err (between_bounds not t) (term_of answers says low) (term_of answers says high) BareColumn rest)
          (λ lower. finds_head low (high ∷ []) (term_traced low (back (parts x) (parts low) two) lower))
          (λ (u, so, upper). finds_next low (high ∷ [])
          (finds_head high [] (term_traced high (back (parts x ++ parts low) (parts high) three) upper)))))) e
      term_traced (ExprTree.In not x items) all e =
          let both_parts = front (parts x ++ all_parts items) _ all in
          made (ExprTree.In not x items) all _ (λ d.
          cases (both-err (among_items not) (term_of answers says x) (terms_of answers says items) BareColumn d)
          (λ left. finds_head x (expressions items) (term_traced x (front (parts x) (all_parts items) both_parts) left))
          (λ (t, is, right). finds_next x (expressions items) (terms_traced items (back (parts x) (all_parts items) both_parts) right))) e
      term_traced (ExprTree.InQuery not x query) all e =
          made (ExprTree.InQuery not x query) all _ (λ d.
          cases (both-err (among_answer not) (term_of answers says x) (answers (InnerTree.values_in query)) BareColumn d)
          (λ left. finds_head x [] (term_traced x (front (parts x) _ all) left))
          (λ (t, is, right).
          given_never (answers (InnerTree.values_in query))
          ((answered (ExprTree.InQuery not x query) (own (parts x) all)).is (InnerTree.values_in query) refl) right)) e
      term_traced (ExprTree.Exists query) all e =
          made (ExprTree.Exists query) all _ (λ d.
          given_never (answers (InnerTree.exists_in query))
          ((answered (ExprTree.Exists query) (first all)).is (InnerTree.exists_in query) refl)
          (also-err exists (answers (InnerTree.exists_in query)) BareColumn d)) e
      term_traced (ExprTree.CountRows after) all e = made (ExprTree.CountRows after) all _ (λ d. absurd cc) e
      term_traced (ExprTree.Call function items after) all e =
          made (ExprTree.Call function items after) all _ (λ d.
          cases (followed-err (terms_of answers says items) (called after function) BareColumn d)
          (λ left. finds_front (expressions items) (after_in after)
          (terms_traced items (front (all_parts items) (behind_parts after) (front (all_parts items ++ behind_parts after) _ all)) left))
          (λ (ts, is, rest).
          never (called after function ts)
          (called_only IsOther after function ts (length ts) refl (λ apart. misplaced) (λ few. misplaced)) rest)) e
      term_traced (ExprTree.Case operand arms otherwise) all e =
          let three = front (maybe_parts operand ++ arms_parts arms ++ maybe_parts otherwise) _ all in
          let two = front (maybe_parts operand ++ arms_parts arms) (maybe_parts otherwise) three in
          made (ExprTree.Case operand arms otherwise) all _ (λ d.
          cases (followed-err (operand_of answers says operand) _ BareColumn d)
          (λ left. finds_front (maybe_in operand ++ arms_in arms) (maybe_in otherwise)
          (finds_front (maybe_in operand) (arms_in arms) (operand_traced operand (front (maybe_parts operand) (arms_parts arms) two) left)))
          (λ (x, is, rest).
          cases (both-err (case x) (arms_of answers says arms) (otherwise_of answers says otherwise) BareColumn rest)
          (λ middle. finds_front (maybe_in operand ++ arms_in arms) (maybe_in otherwise)
          (finds_back (maybe_in operand) (arms_in arms) (arms_traced arms (back (maybe_parts operand) (arms_parts arms) two) middle)))
          (λ (us, so, last). finds_back (maybe_in operand ++ arms_in arms) (maybe_in otherwise)
          (otherwise_traced otherwise (back (maybe_parts operand ++ arms_parts arms) (maybe_parts otherwise) three) last)))) e

      terms_traced : (es : ExprTrees) → Each Ready (all_parts es) → terms_of answers says es ≡ Err BareColumn → Finds (expressions es)
      terms_traced ExprTrees.No_more all e = absurd cc
      terms_traced (ExprTrees.More x es) all e =
          cases (both-err ◌∷◌ (term_of answers says x) (terms_of answers says es) BareColumn e)
          (λ left. finds_head x (expressions es) (term_traced x (front (parts x) (all_parts es) all) left))
          (λ (t, is, right). finds_next x (expressions es) (terms_traced es (back (parts x) (all_parts es) all) right))

      operand_traced : (operand : MaybeExpr) → Each Ready (maybe_parts operand) → operand_of answers says operand ≡ Err BareColumn → Finds (maybe_in operand)
      operand_traced MaybeExpr.Absent all e = absurd cc
      operand_traced (MaybeExpr.Present x) all e = finds_head x [] (term_traced x all (also-err Some (term_of answers says x) BareColumn e))

      otherwise_traced : (otherwise : MaybeExpr) → Each Ready (maybe_parts otherwise) → otherwise_of answers says otherwise ≡ Err BareColumn
          → Finds (maybe_in otherwise)
      otherwise_traced MaybeExpr.Absent all e = absurd cc
      otherwise_traced (MaybeExpr.Present x) all e = finds_head x [] (term_traced x all e)

      arms_traced : (arms : ArmTrees) → Each Ready (arms_parts arms) → arms_of answers says arms ≡ Err BareColumn → Finds (arms_in arms)
      arms_traced ArmTrees.No_arm all e = absurd cc
      arms_traced (ArmTrees.Arm test value arms) all e =
          let two = front (parts test ++ parts value) (arms_parts arms) all in
          cases (both-err ◌∷◌ (both (λ c e. (c, e)) (term_of answers says test) (term_of answers says value)) (arms_of answers says arms) BareColumn e)
          (λ one. cases (both-err (λ c e. (c, e)) (term_of answers says test) (term_of answers says value) BareColumn one)
          (λ left. finds_head test (value ∷ arms_in arms) (term_traced test (front (parts test) (parts value) two) left))
          (λ (t, is, right). finds_next test (value ∷ arms_in arms)
          (finds_head value (arms_in arms) (term_traced value (back (parts test) (parts value) two) right))))
          (λ (u, is, rest). finds_next test (value ∷ arms_in arms) (finds_next value (arms_in arms)
          (arms_traced arms (back (parts test ++ parts value) (arms_parts arms) all) rest)))

    -- ---- windows

    filter_traced : (filter : MaybeExpr) (argument : Term) → Each Ready (maybe_parts filter) → filter_of answers says filter argument ≡ Err BareColumn
        → Finds (maybe_in filter)
    filter_traced MaybeExpr.Absent argument all e = absurd cc
    filter_traced (MaybeExpr.Present x) argument all e =
        finds_head x [] (term_traced x all (also-err (λ condition. filtered condition argument) (term_of answers says x) BareColumn e))

    count_traced : (filter : MaybeExpr) → Each Ready (maybe_parts filter) → count_rows answers says filter ≡ Err BareColumn → Finds (maybe_in filter)
    count_traced filter all e =
        filter_traced filter always all (also-err (aggregate AggregateFunction.count) (filter_of answers says filter always) BareColumn e)

    aggregate_call_traced : (function : Option AggregateFunction) (items : ExprTrees) (filter : MaybeExpr) → Each Ready (all_parts items)
        → Each Ready (maybe_parts filter) → aggregate_call answers says function items filter ≡ Some (Err BareColumn)
        → Finds (expressions items ++ maybe_in filter)
    aggregate_call_traced (Some function) (ExprTrees.More x ExprTrees.No_more) filter all of e =
        let d : also (aggregate function) (followed (term_of answers says x) (filter_of answers says filter)) ≡ Err BareColumn = cc in
        cases (followed-err (term_of answers says x) (filter_of answers says filter) BareColumn
        (also-err (aggregate function) (followed (term_of answers says x) (filter_of answers says filter)) BareColumn d))
        (λ left. finds_front (x ∷ []) (maybe_in filter) (finds_head x [] (term_traced x (front (parts x) [] all) left)))
        (λ (t, is, right). finds_back (x ∷ []) (maybe_in filter) (filter_traced filter t of right))
    aggregate_call_traced _ _ filter all of e = absurd cc

    sorted_traced : (order : TermTrees) → Each Ready (terms_parts order) → sorted answers says order ≡ Err BareColumn → Finds (terms_in order)
    sorted_traced TermTrees.No_term all e = absurd cc
    sorted_traced (TermTrees.Term x direction order) all e =
        cases (both-err _ (term_of answers says x) (sorted answers says order) BareColumn e)
        (λ left. finds_head x (terms_in order) (term_traced x (front (parts x) (terms_parts order) all) left))
        (λ (t, is, right). finds_next x (terms_in order) (sorted_traced order (back (parts x) (terms_parts order) all) right))

    pub window_traced : (v : WindowTree) → Each Ready (window_parts v) → window_of answers says v ≡ Err BareColumn → Finds (window_in v)
    window_traced (WindowTree.Window partition order frame) all e =
        cases (followed-err (terms_of answers says partition) _ BareColumn e)
        (λ left. finds_front (expressions partition) (terms_in order) (terms_traced partition (front (all_parts partition) (terms_parts order) all) left))
        (λ (ts, is, rest).
        cases (both-err (window ts) (sorted answers says order) (frame_of frame) BareColumn rest)
        (λ middle. finds_back (expressions partition) (terms_in order) (sorted_traced order (back (all_parts partition) (terms_parts order) all) middle))
        (λ (us, so, last). never (frame_of frame) (frame_other frame) last))

    over_traced : (defined : List Defined) (o : OverTree) → Each Ready (over_parts o) → over answers says defined o ≡ Some (Err BareColumn) → Finds (over_in o)
    over_traced defined OverTree.No_over all e = absurd cc
    over_traced defined (OverTree.OverName name) all e =
        let d : defined_as defined name ≡ Err BareColumn = cc in defined_never defined name d
    over_traced defined (OverTree.Over v) all e = let d : window_of answers says v ≡ Err BareColumn = cc in window_traced v all d

    of_traced : (function : Term → WindowFunction) (x : ExprTree) → Each Ready (parts x) → of_term answers says function x ≡ Err BareColumn → Bad x
    of_traced function x all e = term_traced x all (also-err function (term_of answers says x) BareColumn e)

    -- of three arguments the first or the last
    two_traced : (function : Term → Term → WindowFunction) (x : ExprTree) (n : ℕ) (d : ExprTree)
        → Each Ready (all_parts (ExprTrees.More x (ExprTrees.More (ExprTree.Number (pos n)) (ExprTrees.More d ExprTrees.No_more))))
        → both function (term_of answers says x) (term_of answers says d) ≡ Err BareColumn → Finds (x ∷ ExprTree.Number (pos n) ∷ d ∷ [])
    two_traced function x n d all e =
        let number : ExprTree = ExprTree.Number (pos n) in
        cases (both-err function (term_of answers says x) (term_of answers says d) BareColumn e)
        (λ left. finds_head x (number ∷ d ∷ []) (term_traced x (front (parts x) (number ∷ (parts d ++ [])) all) left))
        (λ (t, is, right). finds_next x (number ∷ d ∷ []) (finds_next number (d ∷ [])
        (finds_head d [] (term_traced d (front (parts d) [] (back (number ∷ []) (parts d ++ []) (back (parts x) (number ∷ (parts d ++ [])) all))) right))))

    ranking_traced : (name : written.Function) (items : ExprTrees) → Each Ready (all_parts items) → ranking answers says name items ≡ Err BareColumn
        → Finds (expressions items)
    ranking_traced w.RowNumber ExprTrees.No_more all e = absurd cc
    ranking_traced w.Rank ExprTrees.No_more all e = absurd cc
    ranking_traced w.DenseRank ExprTrees.No_more all e = absurd cc
    ranking_traced w.NTile (ExprTrees.More (ExprTree.Number (pos n)) ExprTrees.No_more) all e = absurd cc
    ranking_traced w.FirstValue (ExprTrees.More x ExprTrees.No_more) all e = finds_head x [] (of_traced WindowFunction.first_value x (front (parts x) [] all) e)
    ranking_traced w.LastValue (ExprTrees.More x ExprTrees.No_more) all e = finds_head x [] (of_traced WindowFunction.last_value x (front (parts x) [] all) e)
    ranking_traced w.NthValue (ExprTrees.More x (ExprTrees.More (ExprTree.Number (pos n)) ExprTrees.No_more)) all e =
        finds_head x (ExprTree.Number (pos n) ∷ []) (of_traced (λ t. WindowFunction.nth_value t n) x (front (parts x) (ExprTree.Number (pos n) ∷ []) all) e)
    ranking_traced w.Lag (ExprTrees.More x ExprTrees.No_more) all e =
        finds_head x [] (of_traced (λ t. WindowFunction.lag t 1 (literal null)) x (front (parts x) [] all) e)
    ranking_traced w.Lag (ExprTrees.More x (ExprTrees.More (ExprTree.Number (pos n)) ExprTrees.No_more)) all e =
        finds_head x (ExprTree.Number (pos n) ∷ []) (of_traced (λ t. WindowFunction.lag t n (literal null)) x (front (parts x) (ExprTree.Number (pos n) ∷ []) all) e)
    ranking_traced w.Lag (ExprTrees.More x (ExprTrees.More (ExprTree.Number (pos n)) (ExprTrees.More d ExprTrees.No_more))) all e =
        two_traced (λ t otherwise. WindowFunction.lag t n otherwise) x n d all e
    ranking_traced w.Lead (ExprTrees.More x ExprTrees.No_more) all e =
        finds_head x [] (of_traced (λ t. WindowFunction.lead t 1 (literal null)) x (front (parts x) [] all) e)
    ranking_traced w.Lead (ExprTrees.More x (ExprTrees.More (ExprTree.Number (pos n)) ExprTrees.No_more)) all e =
        finds_head x (ExprTree.Number (pos n) ∷ []) (of_traced (λ t. WindowFunction.lead t n (literal null)) x (front (parts x) (ExprTree.Number (pos n) ∷ []) all) e)
    ranking_traced w.Lead (ExprTrees.More x (ExprTrees.More (ExprTree.Number (pos n)) (ExprTrees.More d ExprTrees.No_more))) all e =
        two_traced (λ t otherwise. WindowFunction.lead t n otherwise) x n d all e
    ranking_traced _ _ all e = absurd cc

    unless_traced : (filter : MaybeExpr) (name : written.Function) (items : ExprTrees) → Each Ready (all_parts items)
        → ranking_unless answers says filter name items ≡ Err BareColumn → Finds (expressions items)
    unless_traced MaybeExpr.Absent name items all e = ranking_traced name items all e
    unless_traced (MaybeExpr.Present x) name items all e = absurd cc

    function_traced : (filter : MaybeExpr) (name : written.Function) (items : ExprTrees) → Each Ready (all_parts items) → Each Ready (maybe_parts filter)
        → (o : Option (Result Aggregate Fault)) → aggregate_call answers says (aggregate_named name) items filter ≡ o
        → function_or o (ranking_unless answers says filter name items) ≡ Err BareColumn → Finds (expressions items ++ maybe_in filter)
    function_traced filter name items all of None is e = finds_front (expressions items) (maybe_in filter) (unless_traced filter name items all e)
    function_traced filter name items all of (Some r) is e =
        aggregate_call_traced (aggregate_named name) items filter all of
        (is ∙ ap Some (also-err WindowFunction.aggregate r BareColumn e))

    over_call-err : (o : Option (Result Window Fault)) (f : Result WindowFunction Fault) → over_call o f ≡ Some (Err BareColumn)
        → (f ≡ Err BareColumn) ⊎ (o ≡ Some (Err BareColumn))
    over_call-err None f e = absurd cc
    over_call-err (Some r) f e =
        let d : both window_call f r ≡ Err BareColumn = cc in
        cases (both-err window_call f r BareColumn d) (λ left. inl left) (λ (g, is, right). inr (ap Some right))

    -- a call with OVER
    call_found : (defined : List Defined) (e : ExprTree) → Each Ready (parts e) → call_of answers says defined e ≡ Some (Err BareColumn) → Finds (directly_in e)
    call_found defined (ExprTree.CountRows (BehindTree.Behind filter o)) all e =
        let two = front (maybe_parts filter ++ over_parts o) _ all in
        cases (over_call-err (over answers says defined o) (also WindowFunction.aggregate (count_rows answers says filter)) e)
        (λ left. finds_front (maybe_in filter) (over_in o) (count_traced filter (front (maybe_parts filter) (over_parts o) two)
        (also-err WindowFunction.aggregate (count_rows answers says filter) BareColumn left)))
        (λ right. finds_back (maybe_in filter) (over_in o) (over_traced defined o (back (maybe_parts filter) (over_parts o) two) right))
    call_found defined (ExprTree.Call function items (BehindTree.Behind filter o)) all e =
        let three = front (all_parts items ++ (maybe_parts filter ++ over_parts o)) _ all in
        let two = back (all_parts items) (maybe_parts filter ++ over_parts o) three in
        cases (over_call-err (over answers says defined o)
        (function_or (aggregate_call answers says (aggregate_named function) items filter) (ranking_unless answers says filter function items)) e)
        (λ left. apart items filter o (function_traced filter function items (front (all_parts items) (maybe_parts filter ++ over_parts o) three)
        (front (maybe_parts filter) (over_parts o) two) (aggregate_call answers says (aggregate_named function) items filter) refl left))
        (λ right. finds_back (expressions items) (maybe_in filter ++ over_in o)
        (finds_back (maybe_in filter) (over_in o) (over_traced defined o (back (maybe_parts filter) (over_parts o) two) right)))
      where
        apart : (items : ExprTrees) (filter : MaybeExpr) (o : OverTree) → Finds (expressions items ++ maybe_in filter)
            → Finds (expressions items ++ (maybe_in filter ++ over_in o))
        apart items filter o found =
            subst Finds (append_assoc (expressions items) (maybe_in filter) (over_in o))
            (finds_front (expressions items ++ maybe_in filter) (over_in o) found)
    call_found defined _ all e = absurd cc

    pub call_traced : (defined : List Defined) (e : ExprTree) → Each Ready (parts e) → HasOver e → call_of answers says defined e ≡ Some (Err BareColumn)
        → Bad e
    call_traced defined e all has is = let (x, there, bad) = call_found defined e all is in traces.over e all has x there bad
