-- The query that a statement is by its names. (SELECT; WITH; Window Functions)
use Rattle.std.specs.Prelude.{Bool, true, false, ℕ, ◌+◌, zero, suc, ℤ, pos, List, [], ◌∷◌, ◌++◌, length, map, Option, Some, None, Result, Ok, Err, if◌then◌else◌, nat_eq, nat_le, nat_lt}
use Rattle.std.specs.List.{filter_map, flat_map, list_any}
use Rattle.std.specs.Str.{str_eq_ignore_ascii_case}
use Rattle.values.specs.declared.fault.Fault.{Fault}
use Rattle.values.specs.declared.fault.Fault.TheVariants.{Ambiguous, BareColumn, ColumnCount, DuplicateName, Limit, UnknownColumn, WrongPlace}
use Rattle.expr.specs.Term.{Term, Terms, column, answer, none}
use Rattle.sql_reader_syntax.specs.ExprTree.{CoreTree, DefinitionTrees, ExprTree, ExprTrees, FromTree, MaybeExpr, NameTree, OnTree, QueryTree, ResultTree, ResultTrees, SourceTree, TermTrees}
use Rattle.sql_reader_syntax.specs.StatementTree.{ItemTree, StatementTree}
use Rattle.sql_reader_syntax.specs.Tree.{Name}
use Rattle.sql_reader_syntax.specs.declared.expr.PrefixOperator.TheVariants as prefixes
use Rattle.sql_reader_syntax.specs.declared.query.CompoundOperator.{CompoundOperator}
use Rattle.sql_reader_syntax.specs.declared.query.CompoundOperator.TheVariants as operators
use Rattle.semantics.specs.Query.{always, Aggregate, Body, Direction, From, Grouping, InnerQuery, JoinKind, Key, KeyTerm, Operator, QueryData, Select, Source, WindowCall, WindowFunction}
use Rattle.semantics_names.specs.Expression.{Answers, InnerTree, Says, term_of}
use Rattle.semantics_names.specs.Outcome.{also, both, checked, each, followed}
use Rattle.semantics_names.specs.Parts.{inner_trees, parts_behind_groups}
use Rattle.semantics_names.specs.Places.{Defined, aggregate_of, call_of, columns_say, direction_of, groups_say, key_column, place_of, window_of, windows_say}
use Rattle.semantics_names.specs.Same.{is_same_aggregate, is_same_call, is_same_inner}
use Rattle.semantics_names.specs.Scope.{Scope, bare_term, is_bare, is_called, is_source}
use Rattle.semantics_names.specs.Sources.{Known, known_as, Given, Sources, joined, kind_of, no_sources}

-- ---- names

abbrev pub is_among : Name → List Name → Bool
is_among name names = list_any (λ other. str_eq_ignore_ascii_case other name) names

-- no two are the same
abbrev pub are_distinct : List Name → Bool
are_distinct [] = true
are_distinct (n ∷ ns) = if is_among n ns then false else are_distinct ns

-- the name of the first column that is called so
abbrev pub declared_name : Scope → Option Name → Name → Name
declared_name [] table name = name
declared_name (s ∷ ss) table name = if is_called table name s then s.name else declared_name ss table name

-- an alias; of a column alone its name, as its source declares it; else the source text
abbrev pub result_name : Scope → ExprTree → NameTree → Name
result_name scope e (NameTree.Alias alias) = alias
result_name scope (ExprTree.Column table name) (NameTree.SourceText text) = declared_name scope table name
result_name scope e (NameTree.SourceText text) = text

-- each once, where it is first, or the first fault
abbrev pub once_more : {A : Type 0} → Option ℕ → List A → A → List A
once_more None found x = found ++ x ∷ []
once_more (Some at) found x = found

abbrev pub firsts : {A : Type 0} → (A → A → Bool) → List A → List (Result A Fault) → Result (List A) Fault
firsts same found [] = Ok found
firsts same found (Ok x ∷ rest) = firsts same (once_more (place_of same x found) found x) rest
firsts same found (Err fault ∷ rest) = Err fault

-- ---- result columns

pub record ResultColumn : Type 0 where
  pub term : Term
  pub name : Name

abbrev pub result : Name → Term → ResultColumn
result name t = record { term = t; name = name }

-- the columns of `*`, and of `t.*`, by their terms over FROM's row
abbrev pub starred : Scope → List ResultColumn
starred [] = []
starred (s ∷ ss) = if is_bare s.places then result s.name (bare_term s.places) ∷ starred ss else starred ss

abbrev pub starred_of : Name → ℕ → Scope → List ResultColumn
starred_of table at [] = []
starred_of table at (s ∷ ss) =
    if is_source table s.source then result s.name (column at) ∷ starred_of table (suc at) ss else starred_of table (suc at) ss

abbrev pub some_of : Fault → List ResultColumn → Result (List ResultColumn) Fault
some_of fault [] = Err fault
some_of fault columns = Ok columns

-- ---- ORDER BY

-- the places of the result columns of this name
abbrev pub named_at : Name → ℕ → List Name → List ℕ
named_at name at [] = []
named_at name at (n ∷ ns) = if str_eq_ignore_ascii_case n name then at ∷ named_at name (suc at) ns else named_at name (suc at) ns

-- the one result column of a name, or else what the name is as an expression
abbrev pub one_or : List ℕ → Result KeyTerm Fault → Result KeyTerm Fault
one_or [] otherwise = otherwise
one_or (at ∷ []) otherwise = Ok (KeyTerm.result at)
one_or (at ∷ other ∷ rest) otherwise = Err Ambiguous

-- the number that an expression is alone; a sign + is no operation
abbrev pub number_alone : ExprTree → Option ℤ
number_alone (ExprTree.Number z) = Some z
number_alone (ExprTree.Prefix prefixes.Plus e) = number_alone e
number_alone e = None

-- the result column of this number, from 1, of a list of this length
abbrev pub numbered : ℕ → ℤ → Result KeyTerm Fault
numbered width (pos (suc at)) = checked (nat_lt at width) WrongPlace (Ok (KeyTerm.result at))
numbered width z = Err WrongPlace

abbrev pub numbered_or : ℕ → Option ℤ → Result KeyTerm Fault → Result KeyTerm Fault
numbered_or width (Some z) otherwise = numbered width z
numbered_or width None otherwise = otherwise

-- a name alone is the result column of this name
abbrev pub named_or : List Name → (ExprTree → Result KeyTerm Fault) → ExprTree → Result KeyTerm Fault
named_or names otherwise (ExprTree.Column None name) = one_or (named_at name 0 names) (otherwise (ExprTree.Column None name))
named_or names otherwise e = otherwise e

-- a number alone is the result column of this number; a name alone the one of this name
abbrev pub key_term : List Name → (ExprTree → Result KeyTerm Fault) → ExprTree → Result KeyTerm Fault
key_term names otherwise e = numbered_or (length names) (number_alone e) (named_or names otherwise e)

abbrev pub key : Direction → KeyTerm → Key
key direction k = record { by = k; direction = direction }

abbrev pub keys_of : List Name → (ExprTree → Result KeyTerm Fault) → TermTrees → Result (List Key) Fault
keys_of names otherwise TermTrees.No_term = Ok []
keys_of names otherwise (TermTrees.Term e direction rest) =
    both (λ k ks. key (direction_of direction) k ∷ ks) (key_term names otherwise e) (keys_of names otherwise rest)

-- behind DISTINCT, and behind a compound, there is no row to compute it on
abbrev pub no_row : ExprTree → Result KeyTerm Fault
no_row e = Err WrongPlace

-- ---- one SELECT

-- the terms that it speaks in behind its groups, or over FROM where it has none
pub record Input : Type 0 where
  pub says : Says
  pub over_input : Term → Result Term Fault
  pub width : ℕ
  pub grouping : Option Grouping

-- a SELECT, its result columns' names, the terms of ORDER BY, and the windows that it defines
pub record CoreData : Type 0 where
  pub select : Select
  pub names : List Name
  pub order : List Key
  pub defined : List Defined

abbrev pub or_bare : Option Term → Result Term Fault
or_bare (Some t) = Ok t
or_bare None = Err BareColumn

abbrev pub no_number : Option ℤ → Result Term Fault → Result Term Fault
no_number (Some z) t = Err WrongPlace
no_number None t = t

abbrev pub max_columns : ℕ
max_columns = 100

abbrev pub finished : Bool → Term → Option Grouping → List Defined → List WindowCall → List ResultColumn → List Key → CoreData
finished distinct condition grouping defined calls results order = record {
  select = record { condition = condition; grouping = grouping; windows = calls; columns = map (λ r. r.term) results; distinct = distinct };
  names = map (λ r. r.name) results;
  order = order;
  defined = defined;
}

abbrev pub ungrouped : Scope → Input
ungrouped scope = record { says = columns_say scope; over_input = Ok; width = length scope; grouping = None }

abbrev pub grouping_of : List Term → List Aggregate → Term → Grouping
grouping_of by aggregates having = record { by = by; aggregates = aggregates; having = having }

-- the names that a SELECT defines windows by
abbrev pub window_names : DefinitionTrees → List Name
window_names DefinitionTrees.No_definition = []
window_names (DefinitionTrees.Definition name w rest) = name ∷ window_names rest

module _ (answers : Answers) where
  -- a condition, where one is written
  abbrev pub condition_of : Says → MaybeExpr → Result Term Fault
  condition_of says MaybeExpr.Absent = Ok always
  condition_of says (MaybeExpr.Present e) = term_of answers says e

  -- a column of FROM's row as one of the input row
  abbrev pub as_input : Input → ResultColumn → Result ResultColumn Fault
  as_input input r = also (result r.name) (input.over_input r.term)

  abbrev pub results_of : Scope → Input → Says → ResultTree → Result (List ResultColumn) Fault
  results_of scope input says ResultTree.All = followed (some_of WrongPlace (starred scope)) (each (as_input input))
  results_of scope input says (ResultTree.AllOf table) = followed (some_of UnknownColumn (starred_of table 0 scope)) (each (as_input input))
  results_of scope input says (ResultTree.Value e name) = also (λ t. result (result_name scope e name) t ∷ []) (term_of answers says e)

  abbrev pub all_results : Scope → Input → Says → ResultTrees → Result (List ResultColumn) Fault
  all_results scope input says ResultTrees.No_result = Ok []
  all_results scope input says (ResultTrees.Result r rs) = both ◌++◌ (results_of scope input says r) (all_results scope input says rs)

  -- an expression of ORDER BY, over the rows of a SELECT without DISTINCT
  abbrev pub on_row : Bool → Says → ExprTree → Result KeyTerm Fault
  on_row distinct says e = if distinct then Err WrongPlace else also KeyTerm.term (term_of answers says e)

  abbrev pub grouped : Scope → List Term → List Aggregate → MaybeExpr → Result Input Fault
  grouped scope by aggregates having =
      also (λ h. record {
        says = groups_say answers scope by aggregates;
        over_input = λ t. or_bare (key_column by (Ok t));
        width = length by + length aggregates;
        grouping = Some (grouping_of by aggregates h);
      }) (condition_of (groups_say answers scope by aggregates) having)

  -- a SELECT with GROUP BY or an aggregate has groups
  abbrev pub input_of : Scope → List Term → List Aggregate → MaybeExpr → Result Input Fault
  input_of scope [] [] having = Ok (ungrouped scope)
  input_of scope by aggregates having = grouped scope by aggregates having

  -- an expression of GROUP BY: a number alone is at a wrong place
  abbrev pub group_term : Scope → ExprTree → Result Term Fault
  group_term scope e = no_number (number_alone e) (term_of answers (columns_say scope) e)

  abbrev pub by_of : Scope → ExprTrees → Result (List Term) Fault
  by_of scope ExprTrees.No_more = Ok []
  by_of scope (ExprTrees.More e rest) = both ◌∷◌ (group_term scope e) (by_of scope rest)

  abbrev pub defined_of : Says → DefinitionTrees → Result (List Defined) Fault
  defined_of says DefinitionTrees.No_definition = Ok []
  defined_of says (DefinitionTrees.Definition name w rest) =
      both (λ window ds. record { name = name; window = window } ∷ ds) (window_of answers says w) (defined_of says rest)

  -- `behind` are the expressions that are computed over groups, where there are groups
  module _ (scope : Scope) (distinct : Bool) (results : ResultTrees) (order : TermTrees) (behind : List ExprTree) where
    -- the result columns, and ORDER BY
    abbrev pub shown : Term → Input → List Defined → List WindowCall → Says → Result CoreData Fault
    shown condition input defined calls says =
        followed (all_results scope input says results) (λ columns.
        checked (nat_le (length columns) max_columns) Limit
        (also (finished distinct condition input.grouping defined calls columns)
        (keys_of (map (λ r. r.name) columns) (on_row distinct says) order)))

    abbrev pub behind_groups : DefinitionTrees → Term → Input → Result CoreData Fault
    behind_groups windows condition input =
        checked (are_distinct (window_names windows)) DuplicateName
        (followed (defined_of input.says windows) (λ defined.
        followed (firsts is_same_call [] (filter_map (call_of answers input.says defined) behind)) (λ calls.
        shown condition input defined calls (windows_say answers input.says defined input.width calls))))

    abbrev pub select_of : MaybeExpr → ExprTrees → MaybeExpr → DefinitionTrees → Result CoreData Fault
    select_of condition by having windows =
        followed (condition_of (columns_say scope) condition) (λ test.
        followed (by_of scope by) (λ keys.
        followed (firsts is_same_aggregate [] (filter_map (aggregate_of answers (columns_say scope)) behind)) (λ aggregates.
        followed (input_of scope keys aggregates having) (behind_groups windows test))))

  abbrev pub core_of : Scope → CoreTree → TermTrees → Result CoreData Fault
  core_of scope (CoreTree.Select distinct results from condition by having windows) order =
      let behind = parts_behind_groups (CoreTree.Select distinct results from condition by having windows) order in
      select_of scope distinct results order behind condition by having windows

-- ---- queries

-- A query: what it computes, its result columns' names, and the terms of ORDER BY. Beside it stands what else it says that
-- has to be typed: the windows of each SELECT, used or not.
pub record Queried : Type 0 where
  pub body : Body
  pub names : List Name
  pub order : List Key
  pub beside : List Body

abbrev pub operator_of : CompoundOperator → Operator
operator_of operators.Union = Operator.union
operator_of operators.UnionAll = Operator.union_all
operator_of operators.Intersect = Operator.intersect
operator_of operators.Except = Operator.except

-- what an alias, or else the name that is written, calls a source
abbrev pub alias_or : Name → Option Name → Option Name
alias_or name None = Some name
alias_or name (Some alias) = Some alias

abbrev pub given_known : Option Name → Known → Result Given Fault
given_known name k = also (λ source. record { source = source; name = name; columns = k.columns; beside = [] }) k.source

abbrev pub given_query : Option Name → Queried → Given
given_query alias q = record { source = Source.derived q.body; name = alias; columns = q.names; beside = q.beside }

-- the inner queries stand beside the sources
abbrev pub with_answers : From → List InnerQuery → From
with_answers from [] = from
with_answers from (q ∷ qs) = with_answers (From.with_inner from q) qs

-- an inner query, and what stands beside it
pub record Inner : Type 0 where
  pub query : InnerQuery
  pub beside : List Body

abbrev pub inner : InnerQuery → Queried → Inner
inner query q = record { query = query; beside = q.beside }

-- IN takes the values of one column
abbrev pub values_inner : Queried → Result Inner Fault
values_inner q = checked (nat_eq (length q.names) 1) ColumnCount (Ok (inner (InnerQuery.values_of q.body) q))

abbrev pub exists_inner : Queried → Inner
exists_inner q = inner (InnerQuery.exists q.body) q

abbrev pub answer_at : Option ℕ → Terms
answer_at None = none
answer_at (Some at) = answer at

-- a call over each window that a SELECT defines, where it computes nothing else behind its groups
abbrev pub over_defined : Defined → WindowCall
over_defined d = record { window = d.window; function = WindowFunction.row_number }

abbrev pub with_windows : Select → List Defined → Select
with_windows s defined = record s { windows = map over_defined defined; columns = [] }

-- one SELECT with its FROM
pub record Single : Type 0 where
  pub from : From
  pub core : CoreData
  pub beside : List Body

abbrev pub single : List Inner → Sources → CoreData → Single
single inners f c =
    let from = with_answers f.from (map (λ i. i.query) inners) in
    record {
      from = from;
      core = c;
      beside = flat_map (λ i. i.beside) inners ++ f.beside ++ Body.select from (with_windows c.select c.defined) ∷ [];
    }

abbrev pub simple : Single → Queried
simple s = record { body = Body.select s.from s.core.select; names = s.core.names; order = s.core.order; beside = s.beside }

-- the SELECTs of a compound have as many columns, which are called as those of the first
abbrev pub compounded : TermTrees → Queried → CompoundOperator → Single → Result Queried Fault
compounded order left operator s =
    checked (nat_eq (length left.names) (length s.core.names)) ColumnCount
    (also (λ keys. record {
      body = Body.compound left.body (operator_of operator) s.from s.core.select;
      names = left.names;
      order = keys;
      beside = left.beside ++ s.beside;
    }) (keys_of left.names no_row order))

abbrev pub from_tree : CoreTree → FromTree
from_tree (CoreTree.Select distinct results from condition by having windows) = from

-- a query, where FROM may mention these names, and those that stand in it are these
module _ (known : List Known) (queries : QueryTree → Result Queried Fault) where
  abbrev pub inner_of : InnerTree → Result Inner Fault
  inner_of (InnerTree.values_in query) = followed (queries query) values_inner
  inner_of (InnerTree.exists_in query) = also exists_inner (queries query)

  -- an inner query is told by the place of the first of the SELECT's that is the same
  abbrev pub answers_of : List InnerQuery → Answers
  answers_of inners tree = also (λ i. answer_at (place_of is_same_inner i.query inners)) (inner_of tree)

  abbrev pub source_of : SourceTree → Result Given Fault
  source_of (SourceTree.Named name alias) = followed (known_as known name) (given_known (alias_or name alias))
  source_of (SourceTree.Derived query alias) = also (given_query alias) (queries query)

  abbrev pub from_of : Answers → FromTree → Result Sources Fault
  from_of answers FromTree.No_source = Ok no_sources
  from_of answers (FromTree.First source) =
      followed (source_of source) (joined answers no_sources JoinKind.inner OnTree.Always)
  from_of answers (FromTree.Joined from join source on) =
      followed (from_of answers from) (λ left. followed (source_of source) (joined answers left (kind_of join) on))

  abbrev pub with_inners : CoreTree → TermTrees → List Inner → Result Single Fault
  with_inners core order inners =
      let answers = answers_of (map (λ i. i.query) inners) in
      followed (from_of answers (from_tree core)) (λ f. also (single inners f) (core_of answers f.scope core order))

  abbrev pub single_of : CoreTree → TermTrees → Result Single Fault
  single_of core order = followed (each inner_of (inner_trees core order)) (with_inners core order)

  abbrev pub query_of : QueryTree → TermTrees → Result Queried Fault
  query_of (QueryTree.Core core) order = also simple (single_of core order)
  query_of (QueryTree.Compound left operator core) order =
      followed (query_of left TermTrees.No_term) (λ l. followed (single_of core TermTrees.No_term) (compounded order l operator))

-- Queries stand in queries, in FROM and in expressions, so many deep.
abbrev pub queried : ℕ → List Known → QueryTree → TermTrees → Result Queried Fault
queried zero known tree order = Err Limit
queried (suc deep) known tree order = query_of known (λ inside. queried deep known inside TermTrees.No_term) tree order

-- the most levels that stand around a token, of which each SELECT is one
abbrev pub max_levels : ℕ
max_levels = 100

-- ---- the statement

abbrev mutual
  pub sources_of : Source → ℕ
  sources_of (Source.table at width) = 1
  sources_of Source.schema = 1
  sources_of (Source.derived body) = 1 + sources_of_body body

  pub sources_of_from : From → ℕ
  sources_of_from From.nothing = 0
  sources_of_from (From.joined from kind source on) = sources_of_from from + sources_of source
  sources_of_from (From.with_inner from query) = sources_of_from from + sources_of_inner query

  pub sources_of_inner : InnerQuery → ℕ
  sources_of_inner (InnerQuery.values_of body) = sources_of_body body
  sources_of_inner (InnerQuery.exists body) = sources_of_body body

  pub sources_of_body : Body → ℕ
  sources_of_body (Body.select from s) = sources_of_from from
  sources_of_body (Body.compound left operator from s) = sources_of_body left + sources_of_from from

abbrev pub max_sources : ℕ
max_sources = 64

abbrev pub within : Body → Result Source Fault
within body = checked (nat_le (sources_of_body body) max_sources) Limit (Ok (Source.derived body))

-- the names that are written behind an item's, or else those of its query
abbrev pub item_columns : List Name → List Name → Result (List Name) Fault
item_columns [] names = Ok names
item_columns (n ∷ ns) names =
    checked (nat_eq (length (n ∷ ns)) (length names)) ColumnCount (checked (are_distinct (n ∷ ns)) DuplicateName (Ok (n ∷ ns)))

-- what FROM may mention, and what has to be typed beside the query, mentioned or not
pub record With : Type 0 where
  pub known : List Known
  pub beside : List Body

abbrev pub with_item : With → ItemTree → Queried → List Name → With
with_item w item q columns = record {
  known = record { name = item.name; source = within q.body; columns = columns } ∷ w.known;
  beside = w.beside ++ q.body ∷ q.beside;
}

abbrev pub item_of : With → ItemTree → Result With Fault
item_of w item =
    followed (queried max_levels w.known item.query TermTrees.No_term) (λ q. also (with_item w item q) (item_columns item.columns q.names))

-- each item sees those before it
abbrev pub with_items : With → List ItemTree → Result With Fault
with_items w [] = Ok w
with_items w (item ∷ items) = followed (item_of w item) (λ more. with_items more items)

-- a query, the names of its result columns, and what has to be typed beside it
pub record Named : Type 0 where
  pub query : QueryData
  pub names : List Name
  pub beside : List Body

abbrev pub offset_or : Option ℤ → ℤ
offset_or None = pos 0
offset_or (Some z) = z

abbrev pub ended : StatementTree → List Body → Queried → Result Named Fault
ended tree beside q =
    checked (nat_le (sources_of_body q.body) max_sources) Limit
    (Ok (record {
      query = record { body = q.body; order = q.order; limit = tree.limit; offset = offset_or tree.offset };
      names = q.names;
      beside = beside ++ q.beside;
    }))

-- the query of a statement over these tables, or the first fault of its names
abbrev pub named : List Known → StatementTree → Result Named Fault
named tables tree =
    checked (are_distinct (map (λ i. i.name) tree.items)) DuplicateName
    (followed (with_items (record { known = tables; beside = [] }) tree.items) (λ w.
    followed (queried max_levels w.known tree.query tree.order) (ended tree w.beside)))
