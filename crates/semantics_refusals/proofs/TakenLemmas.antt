-- Where a query is taken, so is each SELECT of it, however deep it stands.
use Rattle.std.proofs.Common.{◌≡◌, ℕ, zero, suc, ℤ, List, [], ◌∷◌, length, map, Option, Some, None, Result, Ok, All, Contains, nat_eq, refl}
use Rattle.std.proofs.lemmas.List.Elements.{All-append, All-cons, All-contains, All-nil, All-push, Contains-append_right}
use Rattle.values.specs.declared.fault.Fault.{Fault}
use Rattle.values.specs.declared.fault.Fault.TheVariants.{ColumnCount}
use Rattle.sql_reader_syntax.specs.ExprTree.{CoreTree, ExprTree, FromTree, OnTree, QueryTree, SourceTree, TermTrees}
use Rattle.semantics.specs.Query.{JoinKind, KeyTerm}
use Rattle.semantics_names.specs.Expression.{Answers, InnerTree}
use Rattle.semantics_names.specs.Outcome.{each}
use Rattle.semantics_names.specs.Parts.{core_parts, inner_tree, inner_trees, parts, terms_parts}
use Rattle.semantics_names.specs.Places.{direction_of}
use Rattle.semantics_names.specs.Sources.{Given, Known, Sources, joined, kind_of, no_sources}
use Rattle.sql_reader_syntax.specs.declared.expr.PrefixOperator.TheVariants as prefixes
use Rattle.semantics_names.specs.Statement.{CoreData, Inner, Queried, Single, answers_of, compounded, core_of, exists_inner, from_of, from_tree, given_query, inner_of, key, key_term, keys_of, named_or, no_row, number_alone, numbered_or, queried, query_of, simple, single, single_of, source_of, values_inner, with_inners}
use Rattle.semantics_names.proofs.OutcomeLemmas.{also-ok, both-ok, checked-ok, followed-ok}
use Rattle.semantics_refusals.specs.Written.{HasQuery, IsDerived, IsOperand, IsSelect, StandsIn, sources_in}
use Rattle.semantics_refusals.proofs.OkLemmas.{IsGiven, each-ok, filtered}

-- ---- ORDER BY of a compound has no query in it

abbrev NoOperand : ExprTree → Type 0
NoOperand part = (query : QueryTree) → IsOperand part query → ⊥

number_none : (z : _) → NoOperand (ExprTree.Number z)
number_none z query is = elim is [ ]

column_none : (table : _) (name : _) → NoOperand (ExprTree.Column table name)
column_none table name query is = elim is [ ]

prefix_none : (op : _) (x : _) → NoOperand (ExprTree.Prefix op x)
prefix_none op x query is = elim is [ ]

number_parts : (e : ExprTree) (z : _) → number_alone e ≡ Some z → All NoOperand (parts e)
number_parts (ExprTree.Number z) n is = All-cons NoOperand (ExprTree.Number z) [] (number_none z) (All-nil NoOperand)
number_parts (ExprTree.Prefix prefixes.Plus x) n is =
    All-append NoOperand (parts x) (ExprTree.Prefix prefixes.Plus x ∷ []) (number_parts x n is)
    (All-cons NoOperand (ExprTree.Prefix prefixes.Plus x) [] (prefix_none prefixes.Plus x) (All-nil NoOperand))
number_parts _ n is = absurd cc

named_parts : (names : List _) (e : ExprTree) (k : KeyTerm) → named_or names no_row e ≡ Ok k → All NoOperand (parts e)
named_parts names (ExprTree.Column None name) k e = All-cons NoOperand (ExprTree.Column None name) [] (column_none None name) (All-nil NoOperand)
named_parts names _ k e = absurd cc

key_none : (names : List _) (e : ExprTree) (k : KeyTerm) → key_term names no_row e ≡ Ok k → All NoOperand (parts e)
key_none names e k made = by (number_alone e) refl made
  where
    by : (number : Option ℤ) → number_alone e ≡ number → numbered_or (length names) number (named_or names no_row e) ≡ Ok k
        → All NoOperand (parts e)
    by (Some z) is same = number_parts e z is
    by None is same = named_parts names e k same

keys_none : (names : List _) (order : TermTrees) (ks : List _) → keys_of names no_row order ≡ Ok ks → All NoOperand (terms_parts order)
keys_none names TermTrees.No_term ks e = All-nil NoOperand
keys_none names (TermTrees.Term t direction rest) ks e =
    let (k, others, first, more, same) =
    both-ok (λ k ks. key (direction_of direction) k ∷ ks) (key_term names no_row t) (keys_of names no_row rest) ks e in
    All-append NoOperand (parts t) (terms_parts rest) (key_none names t k first) (keys_none names rest others more)

-- ---- what stands in a query

module _ (known : List Known) (queries : QueryTree → Result Queried Fault) where
  compounded_none : (order : TermTrees) (left : Queried) (operator : _) (s : Single) (q : Queried) → compounded order left operator s ≡ Ok q
      → All NoOperand (terms_parts order)
  compounded_none order left operator s q e =
      let (even, rest) = checked-ok (nat_eq (length left.names) (length s.core.names)) ColumnCount _ q e in
      let (keys, sorted, same) = also-ok _ (keys_of left.names no_row order) q rest in
      keys_none left.names order keys sorted

  pub single_in : {query : QueryTree} {order : TermTrees} {core : CoreTree} {by : TermTrees} → IsSelect query order core by → (q : Queried)
      → query_of known queries query order ≡ Ok q → IsGiven (single_of known queries core by)
  single_in (IsSelect.alone {core = core} {order = order}) q e =
      let (s, is, same) = also-ok simple (single_of known queries core order) q e in (s, is)
  single_in (IsSelect.last {left = left} {operator = operator} {core = core} {order = order}) q e =
      let (l, first, more) = followed-ok (query_of known queries left TermTrees.No_term) _ q e in
      let (s, is, rest) = followed-ok (single_of known queries core TermTrees.No_term) (compounded order l operator) q more in
      (s, is)
  single_in (IsSelect.before {left = left} select) q e =
      let (l, first, more) = followed-ok (query_of known queries left TermTrees.No_term) _ q e in
      single_in select l first

  IsTakenSource : SourceTree → Type 0
  IsTakenSource source = IsGiven (source_of known queries source)

  pub sources_taken : (answers : Answers) (from : FromTree) (f : Sources) → from_of known queries answers from ≡ Ok f
      → All (λ source. IsGiven (source_of known queries source)) (sources_in from)
  sources_taken answers FromTree.No_source f e = All-nil (λ source. IsGiven (source_of known queries source))
  sources_taken answers (FromTree.First source) f e =
      let (g, is, more) = followed-ok (source_of known queries source) (joined answers no_sources JoinKind.inner OnTree.Always) f e in
      All-cons (λ source. IsGiven (source_of known queries source)) source [] (g, is) (All-nil (λ source. IsGiven (source_of known queries source)))
  sources_taken answers (FromTree.Joined from join source on) f e =
      let (left, first, more) = followed-ok (from_of known queries answers from) _ f e in
      let (g, is, rest) = followed-ok (source_of known queries source) (joined answers left (kind_of join) on) f more in
      All-push (λ source. IsGiven (source_of known queries source)) (sources_in from) source (sources_taken answers from left first) (g, is)

  abbrev pub answers_with : List Inner → Answers
  answers_with inners = answers_of known queries (map (λ i. i.query) inners)

  -- a SELECT that is taken has a FROM that is
  pub from_taken : (core : CoreTree) (by : TermTrees) (s : Single) → single_of known queries core by ≡ Ok s
      → (inners : List Inner) × (f : Sources) × (from_of known queries (answers_with inners) (from_tree core) ≡ Ok f)
      × ((c : CoreData) × (core_of (answers_with inners) f.scope core by ≡ Ok c) × (single inners f c ≡ s))
  from_taken core by s e =
      let (inners, are, more) = followed-ok (each (inner_of known queries) (inner_trees core by)) (with_inners known queries core by) s e in
      let (f, sources, last) = followed-ok (from_of known queries (answers_with inners) (from_tree core)) _ s more in
      let (c, is, same) = also-ok (single inners f) (core_of (answers_with inners) f.scope core by) s last in
      (inners, f, sources, (c, is, same))

  derived_taken : {source : SourceTree} {inner : QueryTree} → IsDerived source inner → (g : Given) → source_of known queries source ≡ Ok g
      → IsGiven (queries inner)
  derived_taken (IsDerived.query {query = query} {alias = alias}) g e =
      let (q, is, same) = also-ok (given_query alias) (queries query) g e in (q, is)

  operand_taken : {part : ExprTree} {inner : QueryTree} → IsOperand part inner
      → ((tree : InnerTree) → inner_tree part ≡ Some tree → IsGiven (inner_of known queries tree)) → IsGiven (queries inner)
  operand_taken (IsOperand.members {query = query}) given =
      let (i, e) = given (InnerTree.values_in query) refl in
      let (q, is, more) = followed-ok (queries query) values_inner i e in (q, is)
  operand_taken (IsOperand.tested {query = query}) given =
      let (i, e) = given (InnerTree.exists_in query) refl in
      let (q, is, same) = also-ok exists_inner (queries query) i e in (q, is)

  part_taken : (core : CoreTree) (by : TermTrees) (s : Single) (part : ExprTree) (inner : QueryTree) → single_of known queries core by ≡ Ok s
      → Contains (core_parts core by) part → IsOperand part inner → IsGiven (queries inner)
  part_taken core by s part inner e among is =
      let (inners, are, more) = followed-ok (each (inner_of known queries) (inner_trees core by)) (with_inners known queries core by) s e in
      let all = filtered (λ tree. IsGiven (inner_of known queries tree)) inner_tree (core_parts core by)
      (each-ok (inner_of known queries) (inner_trees core by) inners are) in
      operand_taken is (All-contains (λ x. (y : InnerTree) → inner_tree x ≡ Some y → IsGiven (inner_of known queries y)) (core_parts core by) part all among)

  sorted_taken : (query : QueryTree) (order : TermTrees) (q : Queried) (inner : QueryTree) (part : ExprTree) → query_of known queries query order ≡ Ok q
      → Contains (terms_parts order) part → IsOperand part inner → IsGiven (queries inner)
  sorted_taken (QueryTree.Core (CoreTree.Select distinct results from condition by having windows)) order q inner part e among is =
      let core : CoreTree = CoreTree.Select distinct results from condition by having windows in
      let (s, single, same) = also-ok simple (single_of known queries core order) q e in
      part_taken core order s part inner single (Contains-append_right _ (terms_parts order) part among) is
  sorted_taken (QueryTree.Compound left operator core) order q inner part e among is =
      let (l, first, more) = followed-ok (query_of known queries left TermTrees.No_term) _ q e in
      let (s, single, rest) = followed-ok (single_of known queries core TermTrees.No_term) (compounded order l operator) q more in
      absurd (All-contains NoOperand (terms_parts order) part (compounded_none order l operator s q rest) among inner is)

  pub inner_taken : {query : QueryTree} {order : TermTrees} {inner : QueryTree} → StandsIn query order inner → (q : Queried)
      → query_of known queries query order ≡ Ok q → IsGiven (queries inner)
  inner_taken (StandsIn.derived core by inner source select among is) q e =
      let (s, single) = single_in select q e in
      let (inners, f, from, rest) = from_taken core by s single in
      let (g, given) = All-contains (λ source. IsGiven (source_of known queries source)) (sources_in (from_tree core)) source
      (sources_taken (answers_with inners) (from_tree core) f from) among in
      derived_taken is g given
  inner_taken (StandsIn.operand core by inner part select among is) q e =
      let (s, single) = single_in select q e in part_taken core by s part inner single among is
  inner_taken (StandsIn.sorted {query = query} {order = order} inner part among is) q e = sorted_taken query order q inner part e among is

-- a query is taken, where those in it may be so deep
abbrev pub inside : ℕ → List Known → QueryTree → Result Queried Fault
inside deep known query = queried deep known query TermTrees.No_term

abbrev pub IsTakenQuery : List Known → QueryTree → TermTrees → Type 0
IsTakenQuery known query order = (deep : ℕ) × IsGiven (query_of known (inside deep known) query order)

pub all_taken : (known : List Known) (deep : ℕ) {query : QueryTree} {order : TermTrees} {inner : QueryTree} {by : TermTrees} → HasQuery query order inner by
    → (q : Queried) → queried deep known query order ≡ Ok q → IsTakenQuery known inner by
all_taken known zero has q e = absurd cc
all_taken known (suc deep) HasQuery.own q e = (deep, (q, e))
all_taken known (suc deep) (HasQuery.inside inner stands has) q e =
    let (p, is) = inner_taken known (inside deep known) stands q e in
    all_taken known deep has p is
