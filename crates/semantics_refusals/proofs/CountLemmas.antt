-- A query has as many sources as are counted.
use Rattle.std.proofs.Common.{◌≡◌, Bool, true, false, if◌then◌else◌, ℕ, zero, suc, ◌+◌, ◌<◌, ◌≤◌, List, [], ◌∷◌, ◌++◌, codes, length, map, None, Result, Ok, Err, nat_eq, nat_le, append_assoc, append-nil, arith, ap, ap₂, refl, sym, subst, ◌∙◌}
use Rattle.std.specs.List.{AllZip, cons_option, filter_map}
use Rattle.std.specs.Str.{str_eq_ignore_ascii_case}
use Rattle.std.proofs.lemmas.Bool.{leb-false, leb-true}
use Rattle.values.specs.declared.fault.Fault.{Fault}
use Rattle.values.specs.declared.fault.Fault.TheVariants.{ColumnCount, Limit}
use Rattle.semantics.specs.Query.{Body, From, InnerQuery, JoinKind, Source}
use Rattle.sql_reader_syntax.specs.ExprTree.{CoreTree, ExprTree, FromTree, OnTree, QueryTree, SourceTree, TermTrees}
use Rattle.sql_reader_syntax.specs.StatementTree.{ItemTree}
use Rattle.sql_reader_syntax.specs.Tree.{Name}
use Rattle.semantics_names.specs.Expression.{Answers, InnerTree}
use Rattle.semantics_names.specs.Laws.{IsSameInAnyCase}
use Rattle.semantics_names.specs.Outcome.{checked, each}
use Rattle.semantics_names.specs.Parts.{core_parts, inner_tree, inner_trees}
use Rattle.semantics_names.specs.Sources.{Given, Known, Sources, joined, kind_of, known_as, no_sources}
use Rattle.semantics_names.specs.Statement.{Inner, Queried, Single, With, alias_or, answers_of, compounded, core_of, exists_inner, from_of, from_tree, given_known, given_query, inner_of, item_of, keys_of, max_levels, max_sources, no_row, operator_of, queried, query_of, simple, single, single_of, source_of, sources_of, sources_of_body, sources_of_from, sources_of_inner, values_inner, with_answers, with_inners, with_item, with_items, within}
use Rattle.semantics_names.specs.Typed.{Table, known_from, known_schema, known_tables}
use Rattle.semantics_names.proofs.OneLemmas.{one_ok}
use Rattle.semantics_names.proofs.OutcomeLemmas.{also-ok, both-ok, checked-ok, followed-ok}
use Rattle.semantics_refusals.specs.Limits.{AreCounted, Counted, FromCounts, IsCounted, PartsCount, QueryCounts, SourceCounts, tables_counted}
use Rattle.semantics_refusals.specs.Written.{IsOperand}
use Rattle.semantics_refusals.proofs.EvenLemmas.{joined_made}
use Rattle.semantics_refusals.proofs.StatementLemmas.{with_more}
use Rattle.semantics_refusals.proofs.TakenLemmas.{inside}
use Rattle.semantics_refusals.proofs.WithLemmas.{item_taken, no_items, split_items}

-- a name that FROM may mention counts so
pub record IsCountOf (k : Known) (c : Counted) : Type 0 where
  pub name : k.name ≡ c.name
  pub few : (source : Source) → k.source ≡ Ok source → (sources_of source ≡ c.count) × (c.count ≤ suc max_sources)
  pub many : (fault : Fault) → k.source ≡ Err fault → (fault ≡ Limit) × (suc max_sources < c.count)

abbrev pub Counts : List Known → List Counted → Type 0
Counts known counted = AllZip IsCountOf known counted

-- the number of what is named
pub name_counted : (known : List Known) (counted : List Counted) → Counts known counted → (name : Name) (k : Known) → known_as known name ≡ Ok k
    → (c : Counted) × IsCounted name counted c.count × IsCountOf k c
name_counted [] counted counts name k e = absurd cc
name_counted (other ∷ known) [] counts name k e = absurd counts
name_counted (other ∷ known) (c ∷ counted) counts name k e =
    by (str_eq_ignore_ascii_case other.name name) refl e (name_counted known counted counts.1 name k)
  where
    by : (b : Bool) → str_eq_ignore_ascii_case other.name name ≡ b → (if b then Ok other else known_as known name) ≡ Ok k
        → (known_as known name ≡ Ok k → (c : Counted) × IsCounted name counted c.count × IsCountOf k c)
        → (found : Counted) × IsCounted name (c ∷ counted) found.count × IsCountOf k found
    by true same is more =
        let found : other ≡ k = cc in
        (c, IsCounted.here (subst (λ n. IsSameInAnyCase n name) counts.0.name same), subst (λ k. IsCountOf k c) found counts.0)
    by false apart is more =
        let (found, there, of) = more is in
        (found, IsCounted.later (λ same. refused (subst (λ n. IsSameInAnyCase n name) (sym counts.0.name) same)) there, of)
      where
        refused : IsSameInAnyCase other.name name → ⊥
        refused same = absurd cc

-- and there is no other
pub name_one : (known : List Known) (counted : List Counted) → Counts known counted → (name : Name) (k : Known) → known_as known name ≡ Ok k
    → {n : ℕ} → IsCounted name counted n → (c : Counted) × (c.count ≡ n) × IsCountOf k c
name_one [] counted counts name k e is = absurd cc
name_one (other ∷ known) [] counts name k e is = absurd counts
name_one (other ∷ known) (c ∷ counted) counts name k e (IsCounted.here same) =
    by (str_eq_ignore_ascii_case other.name name) (subst (λ n. IsSameInAnyCase n name) (sym counts.0.name) same) e
  where
    by : (b : Bool) → b ≡ true → (if b then Ok other else known_as known name) ≡ Ok k → (found : Counted) × (found.count ≡ c.count) × IsCountOf k found
    by true same is = let found : other ≡ k = cc in (c, refl, subst (λ k. IsCountOf k c) found counts.0)
    by false same is = absurd cc
name_one (other ∷ known) (c ∷ counted) counts name k e (IsCounted.later {n = n} apart is) =
    by (str_eq_ignore_ascii_case other.name name) (λ same. apart (subst (λ n. IsSameInAnyCase n name) counts.0.name same)) e
    (λ more. name_one known counted counts.1 name k more is)
  where
    by : (b : Bool) → ¬ (b ≡ true) → (if b then Ok other else known_as known name) ≡ Ok k
        → (known_as known name ≡ Ok k → (found : Counted) × (found.count ≡ n) × IsCountOf k found)
        → (found : Counted) × (found.count ≡ n) × IsCountOf k found
    by true apart is more = absurd (apart refl)
    by false apart is more = more is

-- ---- one query

-- the sources of inner queries
total : List InnerQuery → ℕ
total [] = 0
total (q ∷ qs) = sources_of_inner q + total qs

answers_total : (from : From) (queries : List InnerQuery) → sources_of_from (with_answers from queries) ≡ sources_of_from from + total queries
unfolding total
answers_total from [] = omega arith
answers_total from (q ∷ qs) =
    let rest : sources_of_from (with_answers (From.with_inner from q) qs) ≡ (sources_of_from from + sources_of_inner q) + total qs =
    answers_total (From.with_inner from q) qs in
    omega (arith, rest)

abbrev asked_of : List Inner → List InnerQuery
asked_of inners = map (λ (i : Inner). i.query) inners

no_operand : (part : ExprTree) → ((query : QueryTree) → ¬ IsOperand part query) → inner_tree part ≡ None
no_operand (ExprTree.InQuery not x query) apart = absurd (apart query IsOperand.members)
no_operand (ExprTree.Exists query) apart = absurd (apart query IsOperand.tested)
no_operand _ apart = refl

-- the source that a FROM is given is counted with it
from_joined : (answers : Answers) (left : Sources) (kind : JoinKind) (on : OnTree) (g : Given) (f : Sources) → joined answers left kind on g ≡ Ok f
    → sources_of_from f.from ≡ sources_of_from left.from + sources_of g.source
from_joined answers left kind on g f e =
    let (t, made, beside) = joined_made answers left kind on g f e in ap sources_of_from made

module _ (known : List Known) (counted : List Counted) (counts : Counts known counted) (queries : QueryTree → Result Queried Fault) where
  module _ (have : (tree : QueryTree) (q : Queried) → queries tree ≡ Ok q → QueryCounts counted tree TermTrees.No_term (sources_of_body q.body)) where
    source_counts : (source : SourceTree) (g : Given) → source_of known queries source ≡ Ok g → SourceCounts counted source (sources_of g.source)
    source_counts (SourceTree.Named name alias) g e =
        let (k, is, more) = followed-ok (known_as known name) (given_known (alias_or name alias)) g e in
        let (source, of, same) = also-ok _ k.source g more in
        let (c, there, count) = name_counted known counted counts name k is in
        let number : c.count ≡ sources_of g.source = sym (count.few source of).0 ∙ ap (λ (g : Given). sources_of g.source) same in
        SourceCounts.named (subst (IsCounted name counted) number there)
    source_counts (SourceTree.Derived query alias) g e =
        let (q, is, same) = also-ok (given_query alias) (queries query) g e in
        let number : suc (sources_of_body q.body) ≡ sources_of g.source = plus_one (sources_of_body q.body) ∙ ap (λ (g : Given). sources_of g.source) same in
        subst (SourceCounts counted (SourceTree.Derived query alias)) number (SourceCounts.derived (have query q is))
      where
        plus_one : (n : ℕ) → suc n ≡ 1 + n
        plus_one n = omega arith

    from_counts : (answers : Answers) (from : FromTree) (f : Sources) → from_of known queries answers from ≡ Ok f
        → FromCounts counted from (sources_of_from f.from)
    from_counts answers FromTree.No_source f e =
        let same : no_sources ≡ f = cc in subst (λ (f : Sources). FromCounts counted FromTree.No_source (sources_of_from f.from)) same FromCounts.nothing
    from_counts answers (FromTree.First source) f e =
        let (g, is, more) = followed-ok (source_of known queries source) (joined answers no_sources JoinKind.inner OnTree.Always) f e in
        let number : sources_of g.source ≡ sources_of_from f.from =
        from_nothing (sources_of g.source) ∙ sym (from_joined answers no_sources JoinKind.inner OnTree.Always g f more) in
        subst (FromCounts counted (FromTree.First source)) number (FromCounts.first (source_counts source g is))
      where
        from_nothing : (n : ℕ) → n ≡ 0 + n
        from_nothing n = omega arith
    from_counts answers (FromTree.Joined from join source on) f e =
        let (left, first, more) = followed-ok (from_of known queries answers from) _ f e in
        let (g, is, last) = followed-ok (source_of known queries source) (joined answers left (kind_of join) on) f more in
        subst (FromCounts counted (FromTree.Joined from join source on)) (sym (from_joined answers left (kind_of join) on g f last))
        (FromCounts.joined (from_counts answers from left first) (source_counts source g is))

    parts_count : (xs : List ExprTree) (inners : List Inner) → each (inner_of known queries) (filter_map inner_tree xs) ≡ Ok inners
        → PartsCount counted xs (total (asked_of inners))
    unfolding total
    parts_count [] inners e =
        let none : Ok [] ≡ Ok inners = e in
        let same : [] ≡ inners = one_ok [] inners (Ok []) refl e in
        subst (λ inners. PartsCount counted [] (total (asked_of inners))) same PartsCount.none
    parts_count (x ∷ xs) inners e = by x e (λ others rest. parts_count xs others rest)
      where
        asked : (tree : InnerTree) → each (inner_of known queries) (tree ∷ filter_map inner_tree xs) ≡ Ok inners
            → (i : Inner) × (others : List Inner) × (inner_of known queries tree ≡ Ok i)
            × (each (inner_of known queries) (filter_map inner_tree xs) ≡ Ok others)
            × (i ∷ others ≡ inners)
        asked tree e = both-ok ◌∷◌ (inner_of known queries tree) (each (inner_of known queries) (filter_map inner_tree xs)) inners e

        by : (x : ExprTree) → each (inner_of known queries) (cons_option (inner_tree x) (filter_map inner_tree xs)) ≡ Ok inners
            → ((others : List Inner) → each (inner_of known queries) (filter_map inner_tree xs) ≡ Ok others
            → PartsCount counted xs (total (asked_of others)))
            → PartsCount counted (x ∷ xs) (total (asked_of inners))
        by (ExprTree.InQuery not x query) e next =
            let (i, others, first, rest, same) = asked (InnerTree.values_in query) e in
            let (q, is, checks) = followed-ok (queries query) values_inner i first in
            let (one, made) = checked-ok (nat_eq (length q.names) 1) ColumnCount _ i checks in
            let of : InnerQuery.values_of q.body ≡ i.query = ap (λ (r : Result Inner Fault). query_or (InnerQuery.values_of q.body) r) made in
            subst (λ inners. PartsCount counted (ExprTree.InQuery not x query ∷ xs) (total (asked_of inners))) same
            (subst (λ (q : InnerQuery). PartsCount counted (ExprTree.InQuery not x query ∷ xs) (sources_of_inner q + total (asked_of others))) of
            (PartsCount.operand IsOperand.members (have query q is) (next others rest)))
          where
            query_or : InnerQuery → Result Inner Fault → InnerQuery
            query_or otherwise (Ok i) = i.query
            query_or otherwise (Err fault) = otherwise
        by (ExprTree.Exists query) e next =
            let (i, others, first, rest, same) = asked (InnerTree.exists_in query) e in
            let (q, is, made) = also-ok exists_inner (queries query) i first in
            let of : InnerQuery.exists q.body ≡ i.query = ap (λ (i : Inner). i.query) made in
            subst (λ inners. PartsCount counted (ExprTree.Exists query ∷ xs) (total (asked_of inners))) same
            (subst (λ (q : InnerQuery). PartsCount counted (ExprTree.Exists query ∷ xs) (sources_of_inner q + total (asked_of others))) of
            (PartsCount.operand IsOperand.tested (have query q is) (next others rest)))
        by _ e next = PartsCount.plain (λ query is. elim is [ ]) (next inners e)

    abbrev SingleCounts : CoreTree → TermTrees → Single → Type 0
    SingleCounts core order s =
        (m n : ℕ) × FromCounts counted (from_tree core) m × PartsCount counted (core_parts core order) n × (m + n ≡ sources_of_from s.from)

    single_counts : (core : CoreTree) (order : TermTrees) (s : Single) → single_of known queries core order ≡ Ok s → SingleCounts core order s
    single_counts core order s e =
        let (inners, are, more) = followed-ok (each (inner_of known queries) (inner_trees core order)) (with_inners known queries core order) s e in
        let answers : Answers = answers_of known queries (asked_of inners) in
        let (f, from, last) = followed-ok (from_of known queries answers (from_tree core)) _ s more in
        let (c, of, same) = also-ok (single inners f) (core_of answers f.scope core order) s last in (
          sources_of_from f.from,
          total (asked_of inners),
          from_counts answers (from_tree core) f from,
          parts_count (core_parts core order) inners are,
          sym (answers_total f.from (asked_of inners)) ∙ ap (λ (s : Single). sources_of_from s.from) same,
        )

    query_counts : (query : QueryTree) (order : TermTrees) (q : Queried) → query_of known queries query order ≡ Ok q
        → QueryCounts counted query order (sources_of_body q.body)
    query_counts (QueryTree.Core core) order q e =
        let (s, is, same) = also-ok simple (single_of known queries core order) q e in
        let (m, n, from, parts, number) = single_counts core order s is in
        subst (QueryCounts counted (QueryTree.Core core) order) (number ∙ ap (λ (q : Queried). sources_of_body q.body) same) (QueryCounts.alone from parts)
    query_counts (QueryTree.Compound left operator core) order q e =
        let (l, is, more) = followed-ok (query_of known queries left TermTrees.No_term) _ q e in
        let (s, single, last) = followed-ok (single_of known queries core TermTrees.No_term) (compounded order l operator) q more in
        let (even, rest) = checked-ok (nat_eq (length l.names) (length s.core.names)) ColumnCount _ q last in
        let (keys, sorted, same) =
        also-ok (λ keys. record {
          body = Body.compound l.body (operator_of operator) s.from s.core.select;
          names = l.names;
          order = keys;
          beside = l.beside ++ s.beside;
        }) (keys_of l.names no_row order) q rest in
        let (m, n, from, parts, number) = single_counts core TermTrees.No_term s single in
        subst (QueryCounts counted (QueryTree.Compound left operator core) order)
        (ap (λ k. sources_of_body l.body + k) number ∙ ap (λ (q : Queried). sources_of_body q.body) same)
        (QueryCounts.compound (query_counts left TermTrees.No_term l is) from parts)

  -- ---- and no other number

  module _ (one : (tree : QueryTree) (q : Queried) → queries tree ≡ Ok q → (n : ℕ) → QueryCounts counted tree TermTrees.No_term n
      → n ≡ sources_of_body q.body) where
    source_one : {source : SourceTree} {n : ℕ} → SourceCounts counted source n → (g : Given) → source_of known queries source ≡ Ok g → n ≡ sources_of g.source
    source_one (SourceCounts.named {name = name} {alias = alias} is) g e =
        let (k, found, more) = followed-ok (known_as known name) (given_known (alias_or name alias)) g e in
        let (source, of, same) = also-ok _ k.source g more in
        let (c, number, count) = name_one known counted counts name k found is in
        sym number ∙ sym (count.few source of).0 ∙ ap (λ (g : Given). sources_of g.source) same
    source_one (SourceCounts.derived {query = query} {alias = alias} {n = n} is) g e =
        let (q, of, same) = also-ok (given_query alias) (queries query) g e in
        ap suc (one query q of n is) ∙ plus_one (sources_of_body q.body) ∙ ap (λ (g : Given). sources_of g.source) same
      where
        plus_one : (n : ℕ) → suc n ≡ 1 + n
        plus_one n = omega arith

    from_one : (answers : Answers) {from : FromTree} {n : ℕ} → FromCounts counted from n → (f : Sources) → from_of known queries answers from ≡ Ok f
        → n ≡ sources_of_from f.from
    from_one answers FromCounts.nothing f e = let same : no_sources ≡ f = cc in ap (λ (f : Sources). sources_of_from f.from) same
    from_one answers (FromCounts.first {source = source} is) f e =
        let (g, of, more) = followed-ok (source_of known queries source) (joined answers no_sources JoinKind.inner OnTree.Always) f e in
        source_one is g of ∙ from_nothing (sources_of g.source) ∙ sym (from_joined answers no_sources JoinKind.inner OnTree.Always g f more)
      where
        from_nothing : (n : ℕ) → n ≡ 0 + n
        from_nothing n = omega arith
    from_one answers (FromCounts.joined {from = from} {join = join} {source = source} {on = on} begins is) f e =
        let (left, first, more) = followed-ok (from_of known queries answers from) _ f e in
        let (g, of, last) = followed-ok (source_of known queries source) (joined answers left (kind_of join) on) f more in
        ap₂ ◌+◌ (from_one answers begins left first) (source_one is g of) ∙ sym (from_joined answers left (kind_of join) on g f last)

    parts_one : {xs : List ExprTree} {n : ℕ} → PartsCount counted xs n → (inners : List Inner)
        → each (inner_of known queries) (filter_map inner_tree xs) ≡ Ok inners → n ≡ total (asked_of inners)
    unfolding total
    parts_one PartsCount.none inners e =
        let same : [] ≡ inners = one_ok [] inners (Ok []) refl e in ap (λ inners. total (asked_of inners)) same
    parts_one (PartsCount.plain {part = part} {parts = xs} apart is) inners e =
        parts_one is inners (subst (λ o. each (inner_of known queries) (cons_option o (filter_map inner_tree xs)) ≡ Ok inners) (no_operand part apart) e)
    parts_one (PartsCount.operand {parts = xs} {m = m} {n = n} (IsOperand.members {not = not} {x = x} {query = query}) asks is) inners e =
        let (i, others, first, rest, same) =
        both-ok ◌∷◌ (inner_of known queries (InnerTree.values_in query)) (each (inner_of known queries) (filter_map inner_tree xs)) inners e in
        let (q, of, checks) = followed-ok (queries query) values_inner i first in
        let (single_name, made) = checked-ok (nat_eq (length q.names) 1) ColumnCount _ i checks in
        let asked : InnerQuery.values_of q.body ≡ i.query = ap (λ (r : Result Inner Fault). query_or (InnerQuery.values_of q.body) r) made in
        ap₂ ◌+◌ (one query q of m asks ∙ ap sources_of_inner asked) (parts_one is others rest) ∙ ap (λ inners. total (asked_of inners)) same
      where
        query_or : InnerQuery → Result Inner Fault → InnerQuery
        query_or otherwise (Ok i) = i.query
        query_or otherwise (Err fault) = otherwise
    parts_one (PartsCount.operand {parts = xs} {m = m} {n = n} (IsOperand.tested {query = query}) asks is) inners e =
        let (i, others, first, rest, same) =
        both-ok ◌∷◌ (inner_of known queries (InnerTree.exists_in query)) (each (inner_of known queries) (filter_map inner_tree xs)) inners e in
        let (q, of, made) = also-ok exists_inner (queries query) i first in
        ap₂ ◌+◌ (one query q of m asks ∙ ap (λ (i : Inner). sources_of_inner i.query) made) (parts_one is others rest)
        ∙ ap (λ inners. total (asked_of inners)) same

    single_one : (core : CoreTree) (order : TermTrees) {m n : ℕ} → FromCounts counted (from_tree core) m → PartsCount counted (core_parts core order) n
        → (s : Single) → single_of known queries core order ≡ Ok s → m + n ≡ sources_of_from s.from
    single_one core order from_is parts_are s e =
        let (inners, are, more) = followed-ok (each (inner_of known queries) (inner_trees core order)) (with_inners known queries core order) s e in
        let answers : Answers = answers_of known queries (asked_of inners) in
        let (f, from, last) = followed-ok (from_of known queries answers (from_tree core)) _ s more in
        let (c, of, same) = also-ok (single inners f) (core_of answers f.scope core order) s last in
        ap₂ ◌+◌ (from_one answers from_is f from) (parts_one parts_are inners are) ∙ sym (answers_total f.from (asked_of inners))
        ∙ ap (λ (s : Single). sources_of_from s.from) same

    query_one : {query : QueryTree} {order : TermTrees} {n : ℕ} → QueryCounts counted query order n → (q : Queried)
        → query_of known queries query order ≡ Ok q → n ≡ sources_of_body q.body
    query_one (QueryCounts.alone {core = core} {order = order} from parts) q e =
        let (s, is, same) = also-ok simple (single_of known queries core order) q e in
        single_one core order from parts s is ∙ ap (λ (q : Queried). sources_of_body q.body) same
    query_one (QueryCounts.compound {left = left} {operator = operator} {core = core} {order = order} before from parts) q e =
        let (l, is, more) = followed-ok (query_of known queries left TermTrees.No_term) _ q e in
        let (s, single, last) = followed-ok (single_of known queries core TermTrees.No_term) (compounded order l operator) q more in
        let (even, rest) = checked-ok (nat_eq (length l.names) (length s.core.names)) ColumnCount _ q last in
        let (keys, sorted, same) =
        also-ok (λ keys. record {
          body = Body.compound l.body (operator_of operator) s.from s.core.select;
          names = l.names;
          order = keys;
          beside = l.beside ++ s.beside;
        }) (keys_of l.names no_row order) q rest in
        ap₂ ◌+◌ (query_one before l is) (single_one core TermTrees.No_term from parts s single) ∙ ap (λ (q : Queried). sources_of_body q.body) same

-- ---- queries in queries

pub queried_counts : (deep : ℕ) (known : List Known) (counted : List Counted) → Counts known counted → (query : QueryTree) (order : TermTrees) (q : Queried)
    → queried deep known query order ≡ Ok q → QueryCounts counted query order (sources_of_body q.body)
queried_counts zero known counted counts query order q e = absurd cc
queried_counts (suc deep) known counted counts query order q e =
    query_counts known counted counts (inside deep known) (λ tree p is. queried_counts deep known counted counts tree TermTrees.No_term p is) query order q e

pub queried_one : (deep : ℕ) (known : List Known) (counted : List Counted) → Counts known counted → (query : QueryTree) (order : TermTrees) (q : Queried)
    → queried deep known query order ≡ Ok q → (n : ℕ) → QueryCounts counted query order n → n ≡ sources_of_body q.body
queried_one zero known counted counts query order q e n is = absurd cc
queried_one (suc deep) known counted counts query order q e n is =
    query_one known counted counts (inside deep known)
    (λ tree p of n is. queried_one deep known counted counts tree TermTrees.No_term p of n is) is q e

-- ---- what may be mentioned

table_counts : (k : Known) (name : Name) (source : Source) → k.source ≡ Ok source → sources_of source ≡ 1 → k.name ≡ name
    → IsCountOf k (record { name = name; count = 1 })
table_counts k name source is count same = record {
  name = same;
  few = λ other e. (ap sources_of (one_ok other source k.source e is) ∙ count, omega arith);
  many = λ fault e. absurd (no_fault fault e);
}
  where
    no_fault : (fault : Fault) → k.source ≡ Err fault → ⊥
    no_fault fault e = let both : Ok source ≡ Err fault = sym is ∙ e in absurd cc

tables_count : (at : ℕ) (tables : List Table) (known : List Known) (names : List Name)
    → Counts known (map (λ name. record { name = name; count = 1 }) names)
    → Counts (known_from at tables ++ known) (map (λ name. record { name = name; count = 1 }) (map (λ t. t.name) tables ++ names))
tables_count at [] known names counts = counts
tables_count at (t ∷ ts) known names counts =
    (table_counts _ t.name (Source.table at (length t.columns)) refl refl refl, tables_count (suc at) ts known names counts)

all_count : (tables : List Table) → Counts (known_tables tables) (tables_counted tables)
all_count tables =
    tables_count 0 tables (known_schema (codes "sqlite_schema") ∷ known_schema (codes "sqlite_master") ∷ []) (codes "sqlite_schema" ∷ codes "sqlite_master" ∷ []) (
      table_counts (known_schema (codes "sqlite_schema")) (codes "sqlite_schema") Source.schema refl refl refl,
      (table_counts (known_schema (codes "sqlite_master")) (codes "sqlite_master") Source.schema refl refl refl, tt),
    )

item_counts : (i : ItemTree) (q : Queried) (columns : List Name) (w : With)
    → IsCountOf (record { name = i.name; source = within q.body; columns = columns }) (record { name = i.name; count = suc (sources_of_body q.body) })
item_counts i q columns w = by (nat_le (sources_of_body q.body) max_sources) refl
  where
    by : (b : Bool) → nat_le (sources_of_body q.body) max_sources ≡ b
        → IsCountOf (record { name = i.name; source = checked b Limit (Ok (Source.derived q.body)); columns = columns })
        (record { name = i.name; count = suc (sources_of_body q.body) })
    by true e = record {
      name = refl;
      few = λ source is.
          let less : sources_of_body q.body ≤ max_sources = leb-true (sources_of_body q.body) max_sources e in
          (ap sources_of (one_ok source (Source.derived q.body) (Ok (Source.derived q.body)) is refl) ∙ one_plus (sources_of_body q.body), omega (arith, less));
      many = λ fault is. absurd cc;
    }
      where
        one_plus : (n : ℕ) → 1 + n ≡ suc n
        one_plus n = omega arith
    by false e = record {
      name = refl;
      few = λ source is. absurd cc;
      many = λ fault is.
          let more : max_sources < sources_of_body q.body = leb-false (sources_of_body q.body) max_sources e in (cc, omega (arith, more));
    }

pub record HasCounts (tables : List Table) (items : List ItemTree) (known : List Known) : Type 0 where
  pub counted : List Counted
  pub are : AreCounted tables items counted
  pub counts : Counts known counted

items_counted : (tables : List Table) (before items : List ItemTree) (w v : With) → HasCounts tables before w.known → with_items w items ≡ Ok v
    → HasCounts tables (before ++ items) v.known
items_counted tables before [] w v h e =
    let same : w ≡ v = cc in
    subst (λ items. HasCounts tables items v.known) (sym (append-nil before)) (subst (λ (w : With). HasCounts tables before w.known) same h)
items_counted tables before (i ∷ items) w v h e =
    let (m, is, more) = followed-ok (item_of w i) (λ more. with_items more items) v e in
    let (q, columns, taken, named, same) = item_taken w m i is in
    let next : HasCounts tables (before ++ i ∷ []) ((with_item w i q columns).known) = record {
      counted = record { name = i.name; count = suc (sources_of_body q.body) } ∷ h.counted;
      are = AreCounted.item i (sources_of_body q.body) h.are
          (queried_counts max_levels w.known h.counted h.counts i.query TermTrees.No_term q taken);
      counts = (item_counts i q columns w, h.counts);
    } in
    subst (λ all. HasCounts tables all v.known) (append_assoc before (i ∷ []) items)
    (items_counted tables (before ++ i ∷ []) items m v (subst (λ (w : With). HasCounts tables (before ++ i ∷ []) w.known) same next) more)

pub known_counted : (tables : List Table) (items : List ItemTree) (w : With) → with_items (no_items (known_tables tables)) items ≡ Ok w
    → HasCounts tables items w.known
known_counted tables items w e =
    items_counted tables [] items (no_items (known_tables tables)) w
    (record { counted = tables_counted tables; are = AreCounted.no_item; counts = all_count tables }) e

-- whatever is counted of the items is so of what they are known as
pub counted_same : (tables : List Table) {items : List ItemTree} {counted : List Counted} → AreCounted tables items counted → (w : With)
    → with_items (no_items (known_tables tables)) items ≡ Ok w → Counts w.known counted
counted_same tables AreCounted.no_item w e =
    let same : no_items (known_tables tables) ≡ w = cc in subst (λ (w : With). Counts w.known (tables_counted tables)) same (all_count tables)
counted_same tables (AreCounted.item {before = before} {counted = counted} i n are is) w e =
    let (u, q, columns, begun, taken, called) = split_items before i [] (no_items (known_tables tables)) w e in
    let last : with_items u (i ∷ []) ≡ Ok w = sym (with_more (no_items (known_tables tables)) u before (i ∷ []) begun) ∙ e in
    let (m, of_item, ended) = followed-ok (item_of u i) (λ more. with_items more []) w last in
    let (p, written, of, named, made) = item_taken u m i of_item in
    let same : m ≡ w = cc in
    let counts : Counts u.known counted = counted_same tables are u begun in
    let number : n ≡ sources_of_body p.body = queried_one max_levels u.known counted counts i.query TermTrees.No_term p of n is in
    let next : Counts ((with_item u i p written).known) (record { name = i.name; count = suc n } ∷ counted) =
    subst (λ n. Counts ((with_item u i p written).known) (record { name = i.name; count = suc n } ∷ counted)) (sym number)
    (item_counts i p written u, counts) in
    subst (λ (w : With). Counts w.known (record { name = i.name; count = suc n } ∷ counted)) (made ∙ same) next
