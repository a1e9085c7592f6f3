-- A query that names make names columns, answers and tables that there are.
use Rattle.std.proofs.Common.{◌≡◌, Bool, true, false, if◌then◌else◌, ℕ, zero, suc, ◌+◌, ◌<◌, ◌≤◌, List, [], ◌∷◌, ◌++◌, length, map, flat_map, Option, Some, None, Result, Ok, Err, All, nat_eq, ap, refl, sym, subst, ◌∙◌, arith}
use Rattle.std.specs.List.{list_any}
use Rattle.values.specs.declared.fault.Fault.{Fault}
use Rattle.values.specs.declared.fault.Fault.TheVariants.{ColumnCount, DuplicateName, Limit, WrongPlace}
use Rattle.values.specs.declared.value.Ty.{Ty}
use Rattle.semantics.specs.Query.{Body, From, InnerQuery, JoinKind, Key, KeyTerm, Select, Source, body_width, from_width, source_width}
use Rattle.sql_reader_syntax.specs.ExprTree.{CoreTree, FromTree, OnTree, QueryTree, SourceTree, TermTrees}
use Rattle.sql_reader_syntax.specs.declared.query.CompoundOperator.{CompoundOperator}
use Rattle.semantics_names.specs.Expression.{Answers, InnerTree}
use Rattle.semantics_names.specs.Outcome.{also, each}
use Rattle.semantics_names.specs.Parts.{inner_trees}
use Rattle.semantics_names.specs.Places.{Defined, place_of}
use Rattle.semantics_names.specs.Same.{is_same_inner}
use Rattle.semantics_names.specs.Sources.{Condition, Given, Known, Sources, is_same_source, joined, joined_on, kind_of, known_as, no_sources, shown_from}
use Rattle.semantics_names.specs.Statement.{CoreData, Inner, Queried, Single, alias_or, answer_at, answers_of, compounded, core_of, exists_inner, from_of, from_tree, given_known, given_query, inner_of, keys_of, no_row, operator_of, over_defined, queried, query_of, simple, single, single_of, source_of, values_inner, with_answers, with_inners, with_windows}
use Rattle.semantics_refusals.proofs.ClashLemmas.{AreWithin, IsWithin}
use Rattle.semantics_refusals.proofs.HandsLemmas.{Hands, IsBelow, also_hands, checked_hands, each_hands, followed_hands, hands_of, no_hands, place_below}
use Rattle.semantics_refusals.proofs.PartLemmas.{Each, first, flattened, join, mapped, more, none, one, rest, weaker}
use Rattle.semantics_refusals.proofs.TakenLemmas.{inside}
use Rattle.semantics_refusals.proofs.WithinCoreLemmas.{IsWithinCore, KeyIsThere, core_within, keys_within}
use Rattle.semantics_refusals.proofs.WithinLemmas.{BodyIsWithin, FromIsWithin, InnerIsWithin, IsWithinCall, IsWithinKey, IsWithinSelect, IsWithinWindow, SourceIsWithin, inner_count, input_width}
use Rattle.semantics_refusals.proofs.WithinPlaceLemmas.{anything}
use Rattle.semantics_refusals.proofs.WithinScopeLemmas.{AreAnswers, IsWithinCondition, IsWithinScope, length-shown, on_within, source_shown, wider_scope}
use Rattle.semantics_refusals.proofs.WithLemmas.{found_all}

-- ---- inner queries beside the sources

answers_width : (from : From) (queries : List InnerQuery) → from_width (with_answers from queries) ≡ from_width from
answers_width from [] = refl
answers_width from (q ∷ qs) = answers_width (From.with_inner from q) qs

answers_count : (from : From) (queries : List InnerQuery) → inner_count (with_answers from queries) ≡ inner_count from + length queries
answers_count from [] = omega arith
answers_count from (q ∷ qs) = let more_of = answers_count (From.with_inner from q) qs in omega (arith, more_of)

answer_within : (count width : ℕ) (at : Option ℕ) → IsBelow count at → AreWithin count width (answer_at at)
answer_within count width None h = tt
answer_within count width (Some at) h = h.is

-- the windows that a SELECT defines
defined_calls : (count width : ℕ) (defined : List Defined) → Each (λ (d : Defined). IsWithinWindow count width d.window) defined
    → Each (IsWithinCall count width) (map over_defined defined)
defined_calls count width [] all = none
defined_calls count width (d ∷ ds) all =
    more (over_defined d) (map over_defined ds) (record { window = first all; function = tt }) (defined_calls count width ds (rest all))

windows_select : (count width : ℕ) (c : CoreData) → IsWithinCore count width c → IsWithinSelect count width (with_windows c.select c.defined)
windows_select count width c h = record {
  condition = h.select.condition;
  grouping = h.select.grouping;
  windows = defined_calls count (input_width width c.select.grouping) c.defined h.defined;
  columns = none;
}

key_is : (from : From) (s : Select) (names : ℕ) → names ≡ length s.columns → (k : KeyTerm)
    → KeyIsThere (inner_count from) (from_width from) s names k → IsWithinKey (Body.select from s) k
key_is from s names e (KeyTerm.result at) less = record { is = omega (arith, less, e) }
key_is from s names e (KeyTerm.term t) h = record { is = h }

module _ (types : List (List Ty)) where
  pub record IsWithinQuery (q : Queried) : Type 0 where
    pub body : BodyIsWithin types q.body
    pub names : length q.names ≡ body_width q.body
    pub order : Each (λ (k : Key). IsWithinKey q.body k.by) q.order
    pub beside : Each (BodyIsWithin types) q.beside

  -- a source, and how many columns it has
  pub record IsWithinSource (columns : ℕ) (source : Source) : Type 0 where
    pub is : SourceIsWithin types source
    pub width : columns ≡ source_width source

  pub record IsWithinKnown (k : Known) : Type 0 where
    pub is : (source : Source) → k.source ≡ Ok source → IsWithinSource (length k.columns) source

  record IsWithinGiven (g : Given) : Type 0 where
    source : IsWithinSource (length g.columns) g.source
    beside : Each (BodyIsWithin types) g.beside

  record IsWithinSources (count : ℕ) (f : Sources) : Type 0 where
    from : FromIsWithin types count f.from
    size : from_width f.from ≡ length f.scope
    scope : IsWithinScope (length f.scope) f.scope
    none_inner : inner_count f.from ≡ 0
    beside : Each (BodyIsWithin types) f.beside

  record IsWithinInner (i : Inner) : Type 0 where
    query : InnerIsWithin types i.query
    beside : Each (BodyIsWithin types) i.beside

  record IsWithinSingle (s : Single) : Type 0 where
    from : FromIsWithin types (inner_count s.from) s.from
    core : IsWithinCore (inner_count s.from) (from_width s.from) s.core
    beside : Each (BodyIsWithin types) s.beside

  answers_within : (count : ℕ) (from : From) (queries : List InnerQuery) → FromIsWithin types count from → Each (InnerIsWithin types) queries
      → FromIsWithin types count (with_answers from queries)
  answers_within count from [] h all = h
  answers_within count from (q ∷ qs) h all = answers_within count (From.with_inner from q) qs (h, first all) (rest all)

  -- ---- joins

  module _ (count : ℕ) (answers : Answers) (answered : AreAnswers count answers) where
    joined_within : (left : Sources) (kind : JoinKind) (on : OnTree) (given : Given) → IsWithinSources count left → IsWithinGiven given
        → Hands (IsWithinSources count) (joined answers left kind on given)
    joined_within left kind on given h g = by (list_any (is_same_source given.name) left.names)
      where
        width : ℕ
        width = length left.scope + length given.columns

        even : width ≡ from_width left.from + source_width given.source
        even = let size = h.size in let wide = g.source.width in omega (arith, size, wide)

        made : (c : Condition) → IsWithinCondition count width c → IsWithinSources count (record {
          from = From.joined left.from kind given.source c.term;
          names = left.names ++ given.name ∷ [];
          scope = c.scope;
          beside = left.beside ++ given.beside;
        })
        made c of = record {
          from = (h.from, g.source.is, subst (λ w. IsWithin count w c.term) even of.term);
          size = sym even ∙ sym of.size;
          scope = subst (λ w. IsWithinScope w c.scope) (sym of.size) of.scope;
          none_inner = h.none_inner;
          beside = join left.beside given.beside h.beside g.beside;
        }

        few : length left.scope ≤ width
        few = omega arith

        on_is : Hands (IsWithinCondition count width) (joined_on answers on left.scope (shown_from given.name (length left.scope) given.columns))
        on_is =
            on_within count width answers answered on left.scope (shown_from given.name (length left.scope) given.columns)
            (ap (λ n. length left.scope + n) (length-shown given.name (length left.scope) given.columns))
            (wider_scope (length left.scope) width left.scope few h.scope) (source_shown given.name (length left.scope) given.columns width refl)

        by : (b : Bool) → Hands (IsWithinSources count) (if b then Err DuplicateName else also (λ (c : Condition). record {
          from = From.joined left.from kind given.source c.term;
          names = left.names ++ given.name ∷ [];
          scope = c.scope;
          beside = left.beside ++ given.beside;
        }) (joined_on answers on left.scope (shown_from given.name (length left.scope) given.columns)))
        by true = no_hands DuplicateName
        by false = also_hands _ (joined_on answers on left.scope (shown_from given.name (length left.scope) given.columns)) on_is made

  none_within : (count : ℕ) → IsWithinSources count no_sources
  none_within count = record { from = tt; size = refl; scope = record { is = none }; none_inner = refl; beside = none }

  module _ (known : List Known) (all : All IsWithinKnown known) (queries : QueryTree → Result Queried Fault)
      (inner_within : (tree : QueryTree) → Hands IsWithinQuery (queries tree)) where
    answer_of : (tree : InnerTree) → Hands IsWithinInner (inner_of known queries tree)
    answer_of (InnerTree.values_in query) =
        followed_hands (queries query) values_inner (inner_within query) (λ q h.
        checked_hands (nat_eq (length q.names) 1) ColumnCount _ (λ e. record { is = record { query = h.body; beside = h.beside } }))
    answer_of (InnerTree.exists_in query) =
        also_hands exists_inner (queries query) (inner_within query) (λ q h. record { query = h.body; beside = h.beside })

    answers_there : (inners : List InnerQuery) → AreAnswers (length inners) (answers_of known queries inners)
    answers_there inners = record {
      so = λ width tree.
          also_hands _ (inner_of known queries tree) (anything (inner_of known queries tree))
          (λ i any. answer_within (length inners) width (place_of is_same_inner i.query inners) (place_below is_same_inner i.query inners));
    }

    source_within : (source : SourceTree) → Hands IsWithinGiven (source_of known queries source)
    source_within (SourceTree.Named name alias) =
        followed_hands (known_as known name) (given_known (alias_or name alias))
        (hands_of (known_as known name) (λ k is. found_all IsWithinKnown known name k all is))
        (λ k h. also_hands _ k.source (hands_of k.source h.is) (λ source of. record { source = of; beside = none }))
    source_within (SourceTree.Derived query alias) =
        also_hands (given_query alias) (queries query) (inner_within query)
        (λ q h. record { source = record { is = h.body; width = h.names }; beside = h.beside })

    from_within : (count : ℕ) (answers : Answers) → AreAnswers count answers → (from : FromTree)
        → Hands (IsWithinSources count) (from_of known queries answers from)
    from_within count answers answered FromTree.No_source = record { is = none_within count }
    from_within count answers answered (FromTree.First source) =
        followed_hands (source_of known queries source) (joined answers no_sources JoinKind.inner OnTree.Always) (source_within source)
        (λ g h. joined_within count answers answered no_sources JoinKind.inner OnTree.Always g (none_within count) h)
    from_within count answers answered (FromTree.Joined from join_kind source on) =
        followed_hands (from_of known queries answers from) _ (from_within count answers answered from) (λ left h.
        followed_hands (source_of known queries source) (joined answers left (kind_of join_kind) on) (source_within source)
        (λ g of. joined_within count answers answered left (kind_of join_kind) on g h of))

    single_made : (inners : List Inner) → Each IsWithinInner inners → (f : Sources)
        → IsWithinSources (length (map (λ (i : Inner). i.query) inners)) f
        → (c : CoreData) → IsWithinCore (length (map (λ (i : Inner). i.query) inners)) (length f.scope) c → IsWithinSingle (single inners f c)
    single_made inners in_inners f h c of =
        let asked : List InnerQuery = map (λ (i : Inner). i.query) inners in
        let from : From = with_answers f.from asked in
        let number : length asked ≡ inner_count from = counted asked f.from h.none_inner (answers_count f.from asked) in
        let wide : length f.scope ≡ from_width from = sym h.size ∙ sym (answers_width f.from asked) in
        let whole : FromIsWithin types (inner_count from) from =
        subst (λ n. FromIsWithin types n from) number (answers_within (length asked) f.from asked h.from (mapped (λ (i : Inner). i.query) (λ i h. h.query) in_inners)) in
        let core : IsWithinCore (inner_count from) (from_width from) c =
        subst (λ n. IsWithinCore n (from_width from) c) number (subst (λ w. IsWithinCore (length asked) w c) wide of) in
        record {
          from = whole;
          core = core;
          beside = join (flat_map (λ (i : Inner). i.beside) inners ++ f.beside) _
              (join (flat_map (λ (i : Inner). i.beside) inners) f.beside (flattened (λ (i : Inner). i.beside) (λ i h. h.beside) in_inners) h.beside)
              (one (whole, windows_select (inner_count from) (from_width from) c core));
        }
      where
        counted : (asked : List InnerQuery) (from : From) → inner_count from ≡ 0
            → inner_count (with_answers from asked) ≡ inner_count from + length asked → length asked ≡ inner_count (with_answers from asked)
        counted asked from z e = omega (arith, z, e)

    single_within : (core : CoreTree) (order : TermTrees) → Hands IsWithinSingle (single_of known queries core order)
    single_within core order =
        followed_hands (each (inner_of known queries) (inner_trees core order)) (with_inners known queries core order)
        (each_hands (inner_of known queries) (inner_trees core order) answer_of)
        (λ inners in_inners.
        let asked : List InnerQuery = map (λ (i : Inner). i.query) inners in
        let answers : Answers = answers_of known queries asked in
        followed_hands (from_of known queries answers (from_tree core)) _
        (from_within (length asked) answers (answers_there asked) (from_tree core)) (λ f h.
        also_hands (single inners f) (core_of answers f.scope core order)
        (core_within (length asked) answers (answers_there asked) (length f.scope) f.scope refl h.scope core order)
        (λ c of. single_made inners in_inners f h c of)))

    keys_are : (from : From) (c : CoreData) → IsWithinCore (inner_count from) (from_width from) c
        → Each (λ (k : Key). IsWithinKey (Body.select from c.select) k.by) c.order
    keys_are from c h = weaker (λ (k : Key) is. key_is from c.select (length c.names) h.names k.by is) h.order

    simple_within : (s : Single) → IsWithinSingle s → IsWithinQuery (simple s)
    simple_within s h = record { body = (h.from, h.core.select); names = h.core.names; order = keys_are s.from s.core h.core; beside = h.beside }

    compounded_within : (order : TermTrees) (left : Queried) (operator : CompoundOperator) (s : Single) → IsWithinQuery left → IsWithinSingle s
        → Hands IsWithinQuery (compounded order left operator s)
    compounded_within order left operator s l h =
        let body : Body = Body.compound left.body (operator_of operator) s.from s.core.select in
        checked_hands (nat_eq (length left.names) (length s.core.names)) ColumnCount _ (λ e.
        also_hands _ (keys_of left.names no_row order)
        (keys_within (IsWithinKey body) left.names (λ at less. record { is = subst (λ n. at < n) l.names less }) no_row
        (λ e. no_hands WrongPlace) order)
        (λ keys in_keys. record {
          body = (l.body, h.from, h.core.select);
          names = l.names;
          order = in_keys;
          beside = join left.beside s.beside l.beside h.beside;
        }))

    query_within : (query : QueryTree) (order : TermTrees) → Hands IsWithinQuery (query_of known queries query order)
    query_within (QueryTree.Core core) order =
        also_hands simple (single_of known queries core order) (single_within core order) simple_within
    query_within (QueryTree.Compound left operator core) order =
        followed_hands (query_of known queries left TermTrees.No_term) _ (query_within left TermTrees.No_term) (λ l h.
        followed_hands (single_of known queries core TermTrees.No_term) (compounded order l operator) (single_within core TermTrees.No_term)
        (λ s of. compounded_within order l operator s h of))

  pub queried_within : (deep : ℕ) (known : List Known) → All IsWithinKnown known → (query : QueryTree) (order : TermTrees)
      → Hands IsWithinQuery (queried deep known query order)
  queried_within zero known all query order = no_hands Limit
  queried_within (suc deep) known all query order =
      query_within known all (inside deep known) (λ tree. queried_within deep known all tree TermTrees.No_term) query order
