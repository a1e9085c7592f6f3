-- In a statement that is a query each window that OVER names is defined, and no distance of a frame is below zero.
use Rattle.std.proofs.Common.{◌≡◌, Bool, true, false, if◌then◌else◌, List, [], ◌∷◌, ◌++◌, length, map, Option, Some, None, Result, Ok, Err, All, ap, refl, sym, subst, ◌∙◌}
use Rattle.std.specs.List.{cons_option, filter_map}
use Rattle.std.specs.Str.{str_eq_ignore_ascii_case}
use Rattle.std.proofs.lemmas.List.Elements.{All-head, All-tail}
use Rattle.values.specs.declared.fault.Fault.{Fault}
use Rattle.values.specs.declared.fault.Fault.TheVariants.{BadFrame, DuplicateName}
use Rattle.expr.specs.Term.{Term}
use Rattle.semantics.specs.Query.{Window, WindowCall, WindowFunction}
use Rattle.sql_reader_syntax.specs.ExprTree.{BehindTree, CoreTree, DefinitionTrees, ExprTree, ExprTrees, FromTree, MaybeExpr, OnTree, OverTree, QueryTree, TermTrees, WindowTree}
use Rattle.sql_reader_syntax.specs.StatementTree.{ItemTree}
use Rattle.sql_reader_syntax.specs.Tree.{Name}
use Rattle.sql_reader_syntax.specs.declared.query.Edge as written_edge
use Rattle.semantics_names.specs.Expression.{Answers, Says, term_of, terms_of}
use Rattle.semantics_names.specs.Laws.{ColumnsAreScalar, IsSameInAnyCase, IsScalar, TypedIsTaken}
use Rattle.semantics_names.specs.Outcome.{both, found_or}
use Rattle.semantics_names.specs.Parts.{all_parts, core_parts, definitions_parts, from_parts, maybe_parts, on_parts, parts, parts_behind_groups, results_parts, terms_parts}
use Rattle.semantics_names.specs.Places.{Defined, aggregate_of, call_of, columns_say, defined_as, edge_of, frame_between, frame_of, sorted, window, window_call, window_of}
use Rattle.semantics_names.specs.Same.{is_same_aggregate, is_same_call}
use Rattle.semantics_names.specs.Scope.{Scope}
use Rattle.semantics_names.specs.Sources.{Known, Sources, joined, joined_on, kind_of, shown_from}
use Rattle.semantics_names.specs.Statement.{CoreData, Named, Queried, are_distinct, behind_groups, by_of, condition_of, core_of, defined_of, firsts, from_of, from_tree, group_term, input_of, named, source_of, window_names}
use Rattle.semantics_names.specs.Typed.{column_types, known_tables, with_types}
use Rattle.semantics_names.proofs.OutcomeLemmas.{also-ok, both-ok, checked-ok, followed-ok}
use Rattle.semantics_refusals.specs.BadFrames.{BadFrameIsRefused, HasBadFrame, HasEdgeBelowZero, HasNoWindow, HasWindow, IsBelowZero, IsOver, defined_in}
use Rattle.semantics_refusals.specs.WrongPlaces.{plain_parts}
use Rattle.semantics_refusals.specs.Written.{HasSelect, windows_in}
use Rattle.semantics_refusals.proofs.CoreLemmas.{defined_names}
use Rattle.semantics_refusals.proofs.CoreToldLemmas.{group_told}
use Rattle.semantics_refusals.proofs.FrameRefusedLemmas.{frames_refuted}
use Rattle.semantics_refusals.proofs.OkLemmas.{IsGiven}
use Rattle.semantics_refusals.proofs.PartLemmas.{Each, among, back, front, join, more, none, weaker}
use Rattle.semantics_refusals.proofs.SameColumnLemmas.{joined_is}
use Rattle.semantics_refusals.proofs.SelectLemmas.{TakenSelect, part_taken, select_taken}
use Rattle.semantics_refusals.proofs.TakenLemmas.{answers_with, inside}
use Rattle.semantics_refusals.proofs.TermLemmas.{frame_in}

-- ---- frames

below_none : {e : written_edge.Edge} → IsBelowZero e → IsGiven (found_or BadFrame (edge_of e)) → ⊥
below_none IsBelowZero.preceding (edge, e) = absurd cc
below_none IsBelowZero.following (edge, e) = absurd cc

frame_refuted : {w : WindowTree} → HasEdgeBelowZero w → IsGiven (frame_of (frame_in w)) → ⊥
frame_refuted (HasEdgeBelowZero.start {frame = frame} below) (f, e) =
    let (start, end, first, last, same) =
    both-ok (frame_between frame) (found_or BadFrame (edge_of frame.start)) (found_or BadFrame (edge_of frame.end)) f e in
    below_none below (start, first)
frame_refuted (HasEdgeBelowZero.end {frame = frame} below) (f, e) =
    let (start, end, first, last, same) =
    both-ok (frame_between frame) (found_or BadFrame (edge_of frame.start)) (found_or BadFrame (edge_of frame.end)) f e in
    below_none below (end, last)

window_framed : (answers : Answers) (says : Says) (w : WindowTree) (v : Window) → window_of answers says w ≡ Ok v → IsGiven (frame_of (frame_in w))
window_framed answers says (WindowTree.Window partition order frame) v e =
    let (ts, is, more) = followed-ok (terms_of answers says partition) _ v e in
    let (us, f, sort, last, same) = both-ok (window ts) (sorted answers says order) (frame_of frame) v more in
    (f, last)

defined_framed : (answers : Answers) (says : Says) (windows : DefinitionTrees) (ds : List Defined) → defined_of answers says windows ≡ Ok ds
    → Each (λ w. IsGiven (frame_of (frame_in w))) (defined_in windows)
defined_framed answers says DefinitionTrees.No_definition ds e = none
defined_framed answers says (DefinitionTrees.Definition name w others) ds e =
    let (v, rest, is, last, same) = both-ok _ (window_of answers says w) (defined_of answers says others) ds e in
    more w (defined_in others) (window_framed answers says w v is) (defined_framed answers says others rest last)

-- ---- names of windows

unnamed_refuted : (defined : List Defined) (name : Name) (v : Window) → All (λ other. ¬ IsSameInAnyCase other name) (map (λ (d : Defined). d.name) defined)
    → defined_as defined name ≡ Ok v → ⊥
unnamed_refuted [] name v all e = absurd cc
unnamed_refuted (d ∷ ds) name v all e =
    by (str_eq_ignore_ascii_case d.name name) (All-head (λ other. ¬ IsSameInAnyCase other name) d.name (map (λ (d : Defined). d.name) ds) all)
    (unnamed_refuted ds name v (All-tail (λ other. ¬ IsSameInAnyCase other name) d.name (map (λ (d : Defined). d.name) ds) all)) e
  where
    by : (b : Bool) → ¬ (b ≡ true) → (defined_as ds name ≡ Ok v → ⊥) → (if b then Ok d.window else defined_as ds name) ≡ Ok v → ⊥
    by true apart rest is = apart refl
    by false apart rest is = rest is

-- ---- calls

-- a call whose window is, in a SELECT that defines windows of these names
pub record IsWindowed (windows : List Name) (part : ExprTree) : Type 0 where
  pub frame : (w : WindowTree) → IsOver part (OverTree.Over w) → IsGiven (frame_of (frame_in w))
  pub defined : (name : Name) → IsOver part (OverTree.OverName name) → All (λ other. ¬ IsSameInAnyCase other name) windows → ⊥

pub firsts_given : {A B : Type 0} (same : A → A → Bool) (found ys : List A) (f : B → Option (Result A Fault)) (xs : List B)
    → firsts same found (filter_map f xs) ≡ Ok ys → Each (λ x. (r : Result A Fault) → f x ≡ Some r → IsGiven r) xs
firsts_given same found ys f [] e = none
firsts_given {A = A} {B = B} same found ys f (x ∷ xs) e = by (f x) refl e (λ next d. firsts_given same next ys f xs d)
  where
    by : (o : Option (Result A Fault)) → f x ≡ o → firsts same found (cons_option o (filter_map f xs)) ≡ Ok ys
        → ((next : List A) → firsts same next (filter_map f xs) ≡ Ok ys → Each (λ x. (r : Result A Fault) → f x ≡ Some r → IsGiven r) xs)
        → Each (λ x. (r : Result A Fault) → f x ≡ Some r → IsGiven r) (x ∷ xs)
    by None is e others = more x xs (λ r there. absurd (nothing r (sym is ∙ there))) (others found e)
      where
        nothing : (r : Result A Fault) → None ≡ Some r → ⊥
        nothing r e = absurd cc
    by (Some (Ok a)) is e others = more x xs (λ r there. (a, same_one r (sym is ∙ there))) (others _ e)
      where
        same_one : (r : Result A Fault) → Some (Ok a) ≡ Some r → r ≡ Ok a
        same_one r e = cc
    by (Some (Err fault)) is e others = absurd cc

module _ (answers : Answers) (says : Says) (defined : List Defined) where
  over_given : (o : Result Window Fault) (function : Result WindowFunction Fault) → IsGiven (both window_call function o) → IsGiven o
  over_given o function (c, e) = let (f, v, first, last, same) = both-ok window_call function o c e in (v, last)

  call_windowed : (part : ExprTree) → ((r : Result WindowCall Fault) → call_of answers says defined part ≡ Some r → IsGiven r)
      → IsWindowed (map (λ (d : Defined). d.name) defined) part
  call_windowed part given = record { frame = λ w is. of_window w is given; defined = λ name is all. of_name name is given all }
    where
      of_window : {part : ExprTree} (w : WindowTree) → IsOver part (OverTree.Over w)
          → ((r : Result WindowCall Fault) → call_of answers says defined part ≡ Some r → IsGiven r) → IsGiven (frame_of (frame_in w))
      of_window w IsOver.rows given =
          let (v, is) = over_given (window_of answers says w) _ (given _ refl) in window_framed answers says w v is
      of_window w IsOver.call given =
          let (v, is) = over_given (window_of answers says w) _ (given _ refl) in window_framed answers says w v is

      of_name : {part : ExprTree} (name : Name) → IsOver part (OverTree.OverName name)
          → ((r : Result WindowCall Fault) → call_of answers says defined part ≡ Some r → IsGiven r)
          → All (λ other. ¬ IsSameInAnyCase other name) (map (λ (d : Defined). d.name) defined) → ⊥
      of_name name IsOver.rows given all =
          let (v, is) = over_given (defined_as defined name) _ (given _ refl) in unnamed_refuted defined name v all is
      of_name name IsOver.call given all =
          let (v, is) = over_given (defined_as defined name) _ (given _ refl) in unnamed_refuted defined name v all is

-- what has no OVER
scalar_windowed : (windows : List Name) (part : ExprTree) → IsScalar part → IsWindowed windows part
scalar_windowed windows part scalar = record {
  frame = λ w is. absurd (no_over is scalar (over_is w));
  defined = λ name is all. no_over is scalar (name_is name);
}
  where
    over_is : (w : WindowTree) → OverTree.Over w ≡ OverTree.No_over → ⊥
    over_is w e = absurd cc

    name_is : (name : Name) → OverTree.OverName name ≡ OverTree.No_over → ⊥
    name_is name e = absurd cc

    over_of : BehindTree → OverTree
    over_of (BehindTree.Behind filter o) = o

    no_over : {part : ExprTree} {o : OverTree} → IsOver part o → IsScalar part → ¬ (o ≡ OverTree.No_over) → ⊥
    no_over IsOver.rows scalar some = absurd scalar
    no_over IsOver.call scalar some = some (ap over_of scalar.0)

-- ---- one SELECT

pub whole : {P : ExprTree → Type 0} (core : CoreTree) (order : TermTrees) → Each P (parts_behind_groups core order) → Each P (from_parts (from_tree core))
    → Each P (plain_parts core) → Each P (core_parts core order)
whole (CoreTree.Select distinct results from condition by having windows) order behind in_from plainly =
    let r = results_parts results in
    let f = from_parts from in
    let c = maybe_parts condition in
    let b = all_parts by in
    let h = maybe_parts having in
    let d = definitions_parts windows in
    let o = terms_parts order in
    let to_windows = front (r ++ h ++ d) o behind in
    let to_having = front (r ++ h) d to_windows in
    join (r ++ f ++ c ++ b ++ h ++ d) o
    (join (r ++ f ++ c ++ b ++ h) d
    (join (r ++ f ++ c ++ b) h (join (r ++ f ++ c) b (join (r ++ f) c (join r f (front r h to_having) in_from) (front c b plainly)) (back c b plainly))
    (back r h to_having))
    (back (r ++ h) d to_windows)) (back (r ++ h ++ d) o behind)

module _ (scalars : ColumnsAreScalar) where
  pub term_scalar : (answers : Answers) (scope : Scope) (e : ExprTree) (t : Term) → term_of answers (columns_say scope) e ≡ Ok t → Each IsScalar (parts e)
  term_scalar answers scope e t is = record { is = scalars answers scope e t is }

  condition_scalar : (answers : Answers) (scope : Scope) (condition : MaybeExpr) (t : Term) → condition_of answers (columns_say scope) condition ≡ Ok t
      → Each IsScalar (maybe_parts condition)
  condition_scalar answers scope MaybeExpr.Absent t e = none
  condition_scalar answers scope (MaybeExpr.Present x) t e = term_scalar answers scope x t e

  by_scalar : (answers : Answers) (scope : Scope) (by : ExprTrees) (ts : List Term) → by_of answers scope by ≡ Ok ts → Each IsScalar (all_parts by)
  by_scalar answers scope ExprTrees.No_more ts e = none
  by_scalar answers scope (ExprTrees.More x others) ts e =
      let (u, us, is, rest, same) = both-ok ◌∷◌ (group_term answers scope x) (by_of answers scope others) ts e in
      join (parts x) (all_parts others) (term_scalar answers scope x u (group_told answers scope x u is)) (by_scalar answers scope others us rest)

  pub from_scalar : (known : List Known) (queries : QueryTree → Result Queried Fault) (answers : Answers) (from : FromTree) (f : Sources)
      → from_of known queries answers from ≡ Ok f → Each IsScalar (from_parts from)
  from_scalar known queries answers FromTree.No_source f e = none
  from_scalar known queries answers (FromTree.First source) f e = none
  from_scalar known queries answers (FromTree.Joined from kind source on) f e =
      let (left, begun, rest) = followed-ok (from_of known queries answers from) _ f e in
      let (g, is, last) = followed-ok (source_of known queries source) (joined answers left (kind_of kind) on) f rest in
      let (c, of, same) = joined_is answers left (kind_of kind) on g f last in
      join (from_parts from) (on_parts on) (from_scalar known queries answers from left begun)
      (on_scalar on left.scope (shown_from g.name (length left.scope) g.columns) c of)
    where
      on_scalar : (on : OnTree) (left right : Scope) (c : _) → joined_on answers on left right ≡ Ok c → Each IsScalar (on_parts on)
      on_scalar OnTree.Always left right c is = none
      on_scalar (OnTree.On x) left right c is =
          let (t, of, same) = also-ok _ (term_of answers (columns_say (left ++ right)) x) c is in term_scalar answers (left ++ right) x t of
      on_scalar (OnTree.Using names) left right c is = none

  -- the windows of a SELECT that is taken
  pub record TakenWindows (core : CoreTree) (order : TermTrees) : Type 0 where
    pub calls : Each (IsWindowed (window_names (windows_in core))) (parts_behind_groups core order)
    pub frames : Each (λ w. IsGiven (frame_of (frame_in w))) (defined_in (windows_in core))
    pub scalar : Each IsScalar (plain_parts core)

  pub core_windows : (answers : Answers) (scope : Scope) (core : CoreTree) (order : TermTrees) (c : CoreData) → core_of answers scope core order ≡ Ok c
      → TakenWindows core order
  core_windows answers scope (CoreTree.Select distinct results from condition by having windows) order c e =
      let behind = parts_behind_groups (CoreTree.Select distinct results from condition by having windows) order in
      let (test, is, others) = followed-ok (condition_of answers (columns_say scope) condition) _ c e in
      let (keys, are, rest) = followed-ok (by_of answers scope by) _ c others in
      let (aggregates, found, last) =
      followed-ok (firsts is_same_aggregate [] (filter_map (aggregate_of answers (columns_say scope)) behind)) _ c rest in
      let (input, given, all) =
      followed-ok (input_of answers scope keys aggregates having) (behind_groups answers scope distinct results order behind windows test) c last in
      let (apart, on) = checked-ok (are_distinct (window_names windows)) DuplicateName _ c all in
      let (defined, are_defined, next) = followed-ok (defined_of answers input.says windows) _ c on in
      let (calls, called, end) = followed-ok (firsts is_same_call [] (filter_map (call_of answers input.says defined) behind)) _ c next in
      record {
        calls = weaker (λ part so.
            subst (λ names. IsWindowed names part) (defined_names answers input.says windows defined are_defined)
            (call_windowed answers input.says defined part so))
            (firsts_given is_same_call [] calls (call_of answers input.says defined) behind called);
        frames = defined_framed answers input.says windows defined are_defined;
        scalar = join (maybe_parts condition) (all_parts by) (condition_scalar answers scope condition test is) (by_scalar answers scope by keys are);
      }

  window_refuted : (known : List Known) (items : List ItemTree) (core : CoreTree) (by : TermTrees) → TakenSelect known core by → HasNoWindow items core by → ⊥
  window_refuted known items core by taken has = by_case has
    where
      queries : QueryTree → Result Queried Fault
      queries = inside taken.deep known

      windows : TakenWindows core by
      windows = core_windows (answers_with known (inside taken.deep known) taken.inners) taken.sources.scope core by taken.made taken.is

      all : Each (IsWindowed (window_names (windows_in core))) (core_parts core by)
      all =
          whole core by windows.calls
          (weaker (scalar_windowed (window_names (windows_in core)))
          (from_scalar known (inside taken.deep known) (answers_with known (inside taken.deep known) taken.inners) (from_tree core) taken.sources taken.from))
          (weaker (scalar_windowed (window_names (windows_in core))) windows.scalar)

      framed : (w : WindowTree) → HasWindow core by w → IsGiven (frame_of (frame_in w))
      framed w (HasWindow.over part there is) = (among all there).frame w is
      framed w (HasWindow.defined there) = among windows.frames there

      by_case : HasNoWindow items core by → ⊥
      by_case (HasNoWindow.unnamed part name there is apart) = (among all there).defined name is apart
      by_case (HasNoWindow.distance w there below) = frame_refuted below (framed w there)

pub bad_frame_is_refused : ColumnsAreScalar → TypedIsTaken → BadFrameIsRefused
bad_frame_is_refused scalars typed tables tree n has e =
    let (found, names, so) = followed-ok (named (known_tables tables) tree) (with_types (column_types tables)) n e in
    by found names has
  where
    by : (found : Named) → named (known_tables tables) tree ≡ Ok found → HasBadFrame tables tree → ⊥
    by found names (HasBadFrame.written has) =
        let (w, items, taken) = part_taken tables tree found (HasSelect HasNoWindow) has names in
        let here = has.is in
        window_refuted scalars w.known has.items here.core here.by (select_taken w.known has.query has.order here.core here.by taken here.select) here.is
    by found names (HasBadFrame.made m are has) = frames_refuted typed tables tree n m are has e
