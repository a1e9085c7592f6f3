-- A query that names make has as many columns as it is counted on to have.
use Rattle.std.proofs.Common.{◌≡◌, Bool, true, false, if◌then◌else◌, ℕ, zero, suc, List, [], ◌∷◌, ◌++◌, length, map, flat_map, Some, Result, Ok, Err, All, nat_eq, nat_le, slice_get, ap, sym, subst, ◌∙◌}
use Rattle.std.specs.List.{filter_map, list_any}
use Rattle.std.proofs.lemmas.Bool.{eqb-true}
use Rattle.std.proofs.lemmas.List.{length-map}
use Rattle.std.proofs.lemmas.List.Elements.{All-cons}
use Rattle.values.specs.declared.fault.Fault.{Fault}
use Rattle.values.specs.declared.fault.Fault.TheVariants.{ColumnCount, DuplicateName, Limit}
use Rattle.values.specs.declared.value.Ty.{Ty}
use Rattle.expr.specs.Term.{Term}
use Rattle.semantics.specs.Query.{Body, From, InnerQuery, JoinKind, Source, body_width}
use Rattle.sql_reader_syntax.specs.ExprTree.{CoreTree, FromTree, OnTree, QueryTree, SourceTree, TermTrees}
use Rattle.sql_reader_syntax.specs.StatementTree.{ItemTree, StatementTree}
use Rattle.sql_reader_syntax.specs.Tree.{Name}
use Rattle.semantics_names.specs.Expression.{Answers, InnerTree}
use Rattle.semantics_names.specs.Outcome.{also, each}
use Rattle.semantics_names.specs.Parts.{inner_trees, parts_behind_groups}
use Rattle.semantics_names.specs.Places.{aggregate_of, call_of, columns_say, windows_say}
use Rattle.semantics_names.specs.Same.{is_same_aggregate, is_same_call}
use Rattle.semantics_names.specs.Scope.{Scope}
use Rattle.semantics_names.specs.Sources.{Condition, Given, Known, Sources, is_same_source, joined, joined_on, kind_of, known_as, no_sources, shown_from}
use Rattle.semantics_names.specs.Statement.{CoreData, Inner, Named, Queried, ResultColumn, Single, With, alias_or, all_results, answers_of, are_distinct, behind_groups, by_of, compounded, condition_of, core_of, defined_of, ended, exists_inner, finished, firsts, from_of, from_tree, given_known, given_query, inner, inner_of, input_of, item_of, keys_of, max_columns, max_levels, max_sources, named, no_row, offset_or, on_row, operator_of, queried, query_of, shown, simple, single, single_of, source_of, sources_of_body, values_inner, window_names, with_answers, with_inners, with_item, with_items, within}
use Rattle.semantics_names.specs.Typed.{Table, column_types, known_schema, known_tables}
use Rattle.semantics_names.proofs.OutcomeLemmas.{also-ok, both-ok, checked-ok, followed-ok}
use Rattle.semantics_refusals.proofs.KnownLemmas.{known_table, tables_all}
use Rattle.semantics_refusals.proofs.NameLemmas.{names_in}
use Rattle.semantics_refusals.proofs.OkLemmas.{ok-is}
use Rattle.semantics_refusals.proofs.PartLemmas.{Each, first, flattened, join, mapped, more, none, one, rest}
use Rattle.semantics_refusals.proofs.TakenLemmas.{inside}
use Rattle.semantics_refusals.proofs.WithLemmas.{found_all, item_taken, no_items}

-- a table has so many columns, a query of IN one, and SELECTs that are joined as many
module _ (tables : List (List Ty)) where
  abbrev mutual
    pub IsEvenSource : Source → Type 0
    IsEvenSource (Source.table at width) = (types : List Ty) → slice_get tables at ≡ Some types → width ≡ length types
    IsEvenSource Source.schema = Unit {0}
    IsEvenSource (Source.derived body) = IsEvenBody body

    pub IsEvenFrom : From → Type 0
    IsEvenFrom From.nothing = Unit {0}
    IsEvenFrom (From.joined from kind source on) = IsEvenFrom from × IsEvenSource source
    IsEvenFrom (From.with_inner from query) = IsEvenFrom from × IsEvenInner query

    pub IsEvenInner : InnerQuery → Type 0
    IsEvenInner (InnerQuery.values_of body) = IsEvenBody body × (body_width body ≡ 1)
    IsEvenInner (InnerQuery.exists body) = IsEvenBody body

    pub IsEvenBody : Body → Type 0
    IsEvenBody (Body.select from s) = IsEvenFrom from
    IsEvenBody (Body.compound left operator from s) = IsEvenBody left × IsEvenFrom from × (body_width left ≡ length s.columns)

-- what each gives
each_gives : {A B : Type 0} (P : B → Type 0) (f : A → Result B Fault) → ((x : A) (y : B) → f x ≡ Ok y → P y) → (xs : List A) (ys : List B) → each f xs ≡ Ok ys
    → Each P ys
each_gives P f so [] ys e = let same : [] ≡ ys = cc in subst (Each P) same none
each_gives P f so (x ∷ xs) ys e =
    let (y, others, is, last, same) = both-ok ◌∷◌ (f x) (each f xs) ys e in
    subst (Each P) same (more y others (so x y is) (each_gives P f so xs others last))

-- ---- the columns of a SELECT

named_columns : (columns : List ResultColumn) → length (names_in columns) ≡ length (map (λ (r : ResultColumn). r.term) columns)
named_columns columns = length-map columns (λ (r : ResultColumn). r.name) ∙ sym (length-map columns (λ (r : ResultColumn). r.term))

core_even : (answers : Answers) (scope : Scope) (core : CoreTree) (order : TermTrees) (c : CoreData) → core_of answers scope core order ≡ Ok c
    → length c.names ≡ length c.select.columns
core_even answers scope (CoreTree.Select distinct results from condition by having windows) order c e =
    let behind = parts_behind_groups (CoreTree.Select distinct results from condition by having windows) order in
    let (test, is, others) = followed-ok (condition_of answers (columns_say scope) condition) _ c e in
    let (keys, are, more) = followed-ok (by_of answers scope by) _ c others in
    let (aggregates, found, last) =
    followed-ok (firsts is_same_aggregate [] (filter_map (aggregate_of answers (columns_say scope)) behind)) _ c more in
    let (input, given, all) =
    followed-ok (input_of answers scope keys aggregates having) (behind_groups answers scope distinct results order behind windows test) c last in
    let (apart, rest) = checked-ok (are_distinct (window_names windows)) DuplicateName _ c all in
    let (defined, are_defined, next) = followed-ok (defined_of answers input.says windows) _ c rest in
    let (calls, called, end) = followed-ok (firsts is_same_call [] (filter_map (call_of answers input.says defined) behind)) _ c next in
    let says = windows_say answers input.says defined input.width calls in
    let (columns, shown, on) = followed-ok (all_results answers scope input says results) _ c end in
    let (few, sorting) = checked-ok (nat_le (length columns) max_columns) Limit _ c on in
    let (sort, sorted, same) =
    also-ok (finished distinct test input.grouping defined calls columns) (keys_of (names_in columns) (on_row answers distinct says) order) c sorting in
    subst (λ (c : CoreData). length c.names ≡ length c.select.columns) same (named_columns columns)

-- a join that is taken
pub joined_made : (answers : Answers) (left : Sources) (kind : JoinKind) (on : OnTree) (given : Given) (f : Sources) → joined answers left kind on given ≡ Ok f
    → (t : Term) × (f.from ≡ From.joined left.from kind given.source t) × (f.beside ≡ left.beside ++ given.beside)
joined_made answers left kind on given f e = by (list_any (is_same_source given.name) left.names) e
  where
    by : (b : Bool) → (if b then Err DuplicateName else also (λ (c : Condition). record {
      from = From.joined left.from kind given.source c.term;
      names = left.names ++ given.name ∷ [];
      scope = c.scope;
      beside = left.beside ++ given.beside;
    }) (joined_on answers on left.scope (shown_from given.name (length left.scope) given.columns))) ≡ Ok f
        → (t : Term) × (f.from ≡ From.joined left.from kind given.source t) × (f.beside ≡ left.beside ++ given.beside)
    by true is = absurd cc
    by false is =
        let (c, of, same) = also-ok _ (joined_on answers on left.scope (shown_from given.name (length left.scope) given.columns)) f is in
        (c.term, ap (λ (f : Sources). f.from) (sym same), ap (λ (f : Sources). f.beside) (sym same))

module _ (types : List (List Ty)) where
  pub record IsEvenQuery (q : Queried) : Type 0 where
    pub body : IsEvenBody types q.body
    pub names : length q.names ≡ body_width q.body
    pub beside : Each (IsEvenBody types) q.beside

  pub record IsEvenKnown (k : Known) : Type 0 where
    pub is : (source : Source) → k.source ≡ Ok source → IsEvenSource types source

  record IsEvenGiven (g : Given) : Type 0 where
    source : IsEvenSource types g.source
    beside : Each (IsEvenBody types) g.beside

  record IsEvenSources (f : Sources) : Type 0 where
    from : IsEvenFrom types f.from
    beside : Each (IsEvenBody types) f.beside

  record IsEvenAnswer (i : Inner) : Type 0 where
    query : IsEvenInner types i.query
    beside : Each (IsEvenBody types) i.beside

  record IsEvenSingle (s : Single) : Type 0 where
    from : IsEvenFrom types s.from
    names : length s.core.names ≡ length s.core.select.columns
    beside : Each (IsEvenBody types) s.beside

  answers_even : (from : From) (queries : List InnerQuery) → IsEvenFrom types from → Each (IsEvenInner types) queries
      → IsEvenFrom types (with_answers from queries)
  answers_even from [] even all = even
  answers_even from (q ∷ qs) even all = answers_even (From.with_inner from q) qs (even, first all) (rest all)

  module _ (known : List Known) (all : All IsEvenKnown known) (queries : QueryTree → Result Queried Fault)
      (inner_even : (tree : QueryTree) (q : Queried) → queries tree ≡ Ok q → IsEvenQuery q) where
    answer_even : (tree : InnerTree) (i : Inner) → inner_of known queries tree ≡ Ok i → IsEvenAnswer i
    answer_even (InnerTree.values_in query) i e =
        let (q, is, checked) = followed-ok (queries query) values_inner i e in
        let (single_name, last) = checked-ok (nat_eq (length q.names) 1) ColumnCount _ i checked in
        let even = inner_even query q is in
        let same : inner (InnerQuery.values_of q.body) q ≡ i = cc in
        subst IsEvenAnswer same (record { query = (even.body, sym even.names ∙ eqb-true (length q.names) 1 single_name); beside = even.beside })
    answer_even (InnerTree.exists_in query) i e =
        let (q, is, same) = also-ok exists_inner (queries query) i e in
        let even = inner_even query q is in
        subst IsEvenAnswer same (record { query = even.body; beside = even.beside })

    source_even : (source : SourceTree) (g : Given) → source_of known queries source ≡ Ok g → IsEvenGiven g
    source_even (SourceTree.Named name alias) g e =
        let (k, is, more) = followed-ok (known_as known name) (given_known (alias_or name alias)) g e in
        let (source, of, same) = also-ok _ k.source g more in
        subst IsEvenGiven same (record { source = (found_all IsEvenKnown known name k all is).is source of; beside = none })
    source_even (SourceTree.Derived query alias) g e =
        let (q, is, same) = also-ok (given_query alias) (queries query) g e in
        let even = inner_even query q is in
        subst IsEvenGiven same (record { source = even.body; beside = even.beside })

    from_even : (answers : Answers) (from : FromTree) (f : Sources) → from_of known queries answers from ≡ Ok f → IsEvenSources f
    from_even answers FromTree.No_source f e =
        let same : no_sources ≡ f = cc in subst IsEvenSources same (record { from = tt; beside = none })
    from_even answers (FromTree.First source) f e =
        let (g, is, more) = followed-ok (source_of known queries source) (joined answers no_sources JoinKind.inner OnTree.Always) f e in
        let (t, made, beside) = joined_made answers no_sources JoinKind.inner OnTree.Always g f more in
        let even = source_even source g is in
        record {
          from = subst (IsEvenFrom types) (sym made) (tt, even.source);
          beside = subst (Each (IsEvenBody types)) (sym beside) even.beside;
        }
    from_even answers (FromTree.Joined from join_kind source on) f e =
        let (left, begun, more) = followed-ok (from_of known queries answers from) _ f e in
        let (g, is, last) = followed-ok (source_of known queries source) (joined answers left (kind_of join_kind) on) f more in
        let (t, made, beside) = joined_made answers left (kind_of join_kind) on g f last in
        let before = from_even answers from left begun in
        let even = source_even source g is in
        record {
          from = subst (IsEvenFrom types) (sym made) (before.from, even.source);
          beside = subst (Each (IsEvenBody types)) (sym beside) (join left.beside g.beside before.beside even.beside);
        }

    single_even : (core : CoreTree) (order : TermTrees) (s : Single) → single_of known queries core order ≡ Ok s → IsEvenSingle s
    single_even core order s e =
        let (inners, are, more) = followed-ok (each (inner_of known queries) (inner_trees core order)) (with_inners known queries core order) s e in
        let answers : Answers = answers_of known queries (map (λ (i : Inner). i.query) inners) in
        let (f, from, last) = followed-ok (from_of known queries answers (from_tree core)) _ s more in
        let (c, of, same) = also-ok (single inners f) (core_of answers f.scope core order) s last in
        let given = each_gives IsEvenAnswer (inner_of known queries) answer_even (inner_trees core order) inners are in
        let sources = from_even answers (from_tree core) f from in
        let whole = answers_even f.from (map (λ (i : Inner). i.query) inners) sources.from (mapped (λ (i : Inner). i.query) (λ i h. h.query) given) in
        subst IsEvenSingle same (record {
          from = whole;
          names = core_even answers f.scope core order c of;
          beside = join (flat_map (λ (i : Inner). i.beside) inners ++ f.beside) _
              (join (flat_map (λ (i : Inner). i.beside) inners) f.beside (flattened (λ (i : Inner). i.beside) (λ i h. h.beside) given) sources.beside) (one whole);
        })

    query_even : (query : QueryTree) (order : TermTrees) (q : Queried) → query_of known queries query order ≡ Ok q → IsEvenQuery q
    query_even (QueryTree.Core core) order q e =
        let (s, is, same) = also-ok simple (single_of known queries core order) q e in
        let even = single_even core order s is in
        subst IsEvenQuery same (record { body = even.from; names = even.names; beside = even.beside })
    query_even (QueryTree.Compound left operator core) order q e =
        let (l, is, more) = followed-ok (query_of known queries left TermTrees.No_term) _ q e in
        let (s, single, last) = followed-ok (single_of known queries core TermTrees.No_term) (compounded order l operator) q more in
        let (wide, rest) = checked-ok (nat_eq (length l.names) (length s.core.names)) ColumnCount _ q last in
        let (keys, sorted, same) =
        also-ok (λ keys. record {
          body = Body.compound l.body (operator_of operator) s.from s.core.select;
          names = l.names;
          order = keys;
          beside = l.beside ++ s.beside;
        }) (keys_of l.names no_row order) q rest in
        let before = query_even left TermTrees.No_term l is in
        let even = single_even core TermTrees.No_term s single in
        subst IsEvenQuery same (record {
          body = (before.body, even.from, sym before.names ∙ eqb-true (length l.names) (length s.core.names) wide ∙ even.names);
          names = before.names;
          beside = join l.beside s.beside before.beside even.beside;
        })

  queried_even : (deep : ℕ) (known : List Known) → All IsEvenKnown known → (query : QueryTree) (order : TermTrees) (q : Queried)
      → queried deep known query order ≡ Ok q → IsEvenQuery q
  queried_even zero known all query order q e = absurd cc
  queried_even (suc deep) known all query order q e =
      query_even known all (inside deep known) (λ tree p is. queried_even deep known all tree TermTrees.No_term p is) query order q e

  -- ---- the statement

  record IsEvenWith (w : With) : Type 0 where
    known : All IsEvenKnown w.known
    beside : Each (IsEvenBody types) w.beside

  items_even : (items : List ItemTree) (w v : With) → IsEvenWith w → with_items w items ≡ Ok v → IsEvenWith v
  items_even [] w v even e = let same : w ≡ v = cc in subst IsEvenWith same even
  items_even (i ∷ items) w v even e =
      let (m, is, others) = followed-ok (item_of w i) (λ more. with_items more items) v e in
      let (q, columns, taken, called, same) = item_taken w m i is in
      let query = queried_even max_levels w.known even.known i.query TermTrees.No_term q taken in
      let next : IsEvenWith (with_item w i q columns) = record {
        known = All-cons IsEvenKnown _ w.known (record { is = known_item q query }) even.known;
        beside = join w.beside (q.body ∷ q.beside) even.beside (more q.body q.beside query.body query.beside);
      } in
      items_even items m v (subst IsEvenWith same next) others
    where
      known_item : (q : Queried) → IsEvenQuery q → (source : Source) → within q.body ≡ Ok source → IsEvenSource types source
      known_item q query source e =
          let (few, is) = checked-ok (nat_le (sources_of_body q.body) max_sources) Limit (Ok (Source.derived q.body)) source e in
          let same : Source.derived q.body ≡ source = cc in
          subst (IsEvenSource types) same query.body

  ended_even : (tree : StatementTree) (beside : List Body) (q : Queried) (n : Named) → Each (IsEvenBody types) beside → IsEvenQuery q
      → ended tree beside q ≡ Ok n
      → IsEvenBody types n.query.body × Each (IsEvenBody types) n.beside
  ended_even tree beside q n all query e =
      let whole : Named = record {
        query = record { body = q.body; order = q.order; limit = tree.limit; offset = offset_or tree.offset };
        names = q.names;
        beside = beside ++ q.beside;
      } in
      let (few, made) = checked-ok (nat_le (sources_of_body q.body) max_sources) Limit (Ok whole) n e in
      let same : whole ≡ n = ok-is whole n made in
      subst (λ (n : Named). IsEvenBody types n.query.body × Each (IsEvenBody types) n.beside) same
      (query.body, join beside q.beside all query.beside)

  pub named_even : (tables : List Known) (tree : StatementTree) (n : Named) → All IsEvenKnown tables → named tables tree ≡ Ok n
      → IsEvenBody types n.query.body × Each (IsEvenBody types) n.beside
  named_even tables tree n all e =
      let (apart, rest_of) = checked-ok (are_distinct (map (λ (i : ItemTree). i.name) tree.items)) DuplicateName _ n e in
      let (w, items, others) = followed-ok (with_items (no_items tables) tree.items) _ n rest_of in
      let (q, is, last) = followed-ok (queried max_levels w.known tree.query tree.order) (ended tree w.beside) n others in
      let even = items_even tree.items (no_items tables) w (record { known = all; beside = none }) items in
      let query = queried_even max_levels w.known even.known tree.query tree.order q is in
      ended_even tree w.beside q n even.beside query last

pub tables_even : (tables : List Table) → All (IsEvenKnown (column_types tables)) (known_tables tables)
tables_even tables = tables_all (IsEvenKnown types) tables table_even schema_even
  where
    types : List (List Ty)
    types = column_types tables

    table_even : (at : ℕ) (t : Table) → slice_get types at ≡ Some (map (λ c. c.ty) t.columns) → IsEvenKnown types (known_table at t)
    table_even at t there = record {
      is = λ source e. subst (IsEvenSource types) (ok-is (Source.table at (length t.columns)) source e) (λ found is.
          let both : Some (map (λ c. c.ty) t.columns) ≡ Some found = sym there ∙ is in
          let lists : map (λ c. c.ty) t.columns ≡ found = cc in
          sym (length-map t.columns (λ c. c.ty)) ∙ ap length lists);
    }

    schema_even : (name : Name) → IsEvenKnown types (known_schema name)
    schema_even name = record { is = λ source e. subst (IsEvenSource types) (ok-is Source.schema source e) tt }
