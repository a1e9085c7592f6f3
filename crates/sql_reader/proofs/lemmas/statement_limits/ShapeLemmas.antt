-- Lists that are joined from the left.
use Rattle.std.proofs.Common.{◌≡◌, ℕ, suc, ◌+◌, List, [], ◌∷◌, length, map, Option, Some, None, refl, sym, ap, ◌∙◌, arith}
use Rattle.sql_reader_grammar.specs.Reading.{results_of}
use Rattle.sql_reader.specs.statement_limits.Limits.{count_from, count_results}
use Rattle.sql_reader.specs.statement_limits.Spending.{◌>>=◌, after_arranged, after_core, after_from, after_joined, after_on, after_query, after_source}
use Rattle.sql_reader_grammar.specs.statement_trees.TreeView.{
  JoinedTree,
  arm_node,
  arranged_node,
  arranged_of,
  behind_node,
  compounds_of,
  core_node,
  core_of,
  definition_node,
  expr_node,
  joined_all,
  joined_node,
  joined_of,
  on_node,
  over_node,
  query_node,
  query_of,
  result_node,
  result_of,
  source_node,
  source_of,
  sources_node,
  sources_of,
  term_node,
  window_node,
}
use Rattle.sql_reader_grammar.specs.declared.statement_trees.expressions.Expr.TheFolds as folds
use Rattle.sql_reader_grammar.specs.declared.statement_trees.queries.Joined.{Joined}
use Rattle.sql_reader_grammar.specs.declared.statement_trees.queries.Query.{Query, out-Query}
use Rattle.sql_reader_grammar.specs.declared.statement_trees.queries.ResultColumn.{ResultColumn}
use Rattle.sql_reader_grammar.specs.declared.statement_trees.queries.Sources.{Sources, out-Sources}
use Rattle.sql_reader_syntax.specs.ExprTree.{BehindTree, CoreTree, ExprTree, FromTree, OnTree, OverTree, QueryTree, ResultTree, SourceTree, WindowTree}
use Rattle.sql_reader_syntax.specs.Tree.{Name}
use Rattle.sql_reader_syntax.specs.declared.query.CompoundOperator.{CompoundOperator}
use Rattle.sql_reader_syntax.specs.declared.query.Direction.{Direction}

pub bind_some : (o : Option ℕ) → (o >>= λ left. Some left) ≡ o
bind_some None = refl
bind_some (Some left) = refl

pub bind_assoc : (o : Option ℕ) (f g : ℕ → Option ℕ) → ((o >>= f) >>= g) ≡ (o >>= λ left. f left >>= g)
bind_assoc None f g = refl
bind_assoc (Some left) f g = refl

pub bind_same : (o : Option ℕ) (f g : ℕ → Option ℕ) → ((left : ℕ) → f left ≡ g left) → (o >>= f) ≡ (o >>= g)
bind_same None f g h = refl
bind_same (Some left) f g h = h left

joined_after : (from : FromTree) (js : List JoinedTree) (left : ℕ)
    → after_from (joined_all from js) left ≡ (after_from from left >>= after_joined js)
joined_after from [] left = sym (bind_some (after_from from left))
joined_after from (j ∷ js) left =
    joined_after (FromTree.Joined from j.0 j.1.0 j.1.1) js left
    ∙ (bind_assoc (after_from from left) (λ l. after_source j.1.0 l >>= after_on j.1.1) (after_joined js)
    ∙ bind_same (after_from from left) (λ l. (after_source j.1.0 l >>= after_on j.1.1) >>= after_joined js)
    (after_joined (j ∷ js))
    (λ l. bind_assoc (after_source j.1.0 l) (after_on j.1.1) (after_joined js)))

pub sources_after : (source : SourceTree) (js : List JoinedTree) (left : ℕ)
    → after_from (joined_all (FromTree.First source) js) left ≡ (after_source source left >>= after_joined js)
sources_after source js left = joined_after (FromTree.First source) js left

compounds_after : (query : QueryTree) (cs : List (CompoundOperator × CoreTree)) (left : ℕ)
    → after_query (compounds_of query cs) left ≡ (after_query query left >>= after_arranged cs)
compounds_after query [] left = sym (bind_some (after_query query left))
compounds_after query (c ∷ cs) left =
    compounds_after (QueryTree.Compound query c.0 c.1) cs left
    ∙ bind_assoc (after_query query left) (after_core c.1) (after_arranged cs)

pub query_after : (core : CoreTree) (cs : List (CompoundOperator × CoreTree)) (left : ℕ)
    → after_query (compounds_of (QueryTree.Core core) cs) left ≡ (after_core core left >>= after_arranged cs)
query_after core cs left = compounds_after (QueryTree.Core core) cs left

from_count : (from : FromTree) (js : List JoinedTree) → count_from (joined_all from js) ≡ count_from from + length js
from_count from [] = omega arith
from_count from (j ∷ js) = omega (arith, from_count (FromTree.Joined from j.0 j.1.0 j.1.1) js)

map_count : (js : List Joined) → length (map joined_of js) ≡ length js
map_count [] = refl
map_count (j ∷ js) = ap suc (map_count js)

pub sources_count : (source : SourceTree) (js : List Joined)
    → count_from (joined_all (FromTree.First source) (map joined_of js)) ≡ suc (length js)
sources_count source js = omega (arith, from_count (FromTree.First source) (map joined_of js), map_count js)

pub columns_count : (columns : List ResultColumn) → count_results (results_of (map result_of columns)) ≡ length columns
columns_count [] = refl
columns_count (c ∷ cs) = ap suc (columns_count cs)

-- The same of the program's trees

sources_out : (s : Sources)
    → sources_of s ≡ joined_all (FromTree.First (source_of (out-Sources s).first)) (map joined_of (out-Sources s).others.items)
sources_out =
    folds.fold_out-Sources ExprTree OverTree OnTree ResultTree SourceTree (ExprTree × ExprTree) BehindTree
    (ExprTree × Direction) WindowTree (CompoundOperator × CoreTree) JoinedTree (Name × WindowTree) QueryTree CoreTree
    FromTree expr_node over_node on_node result_node source_node arm_node behind_node term_node window_node
    arranged_node joined_node definition_node query_node core_node sources_node

query_out : (q : Query)
    → query_of q ≡ compounds_of (QueryTree.Core (core_of (out-Query q).first)) (map arranged_of (out-Query q).others.items)
query_out =
    folds.fold_out-Query ExprTree OverTree OnTree ResultTree SourceTree (ExprTree × ExprTree) BehindTree
    (ExprTree × Direction) WindowTree (CompoundOperator × CoreTree) JoinedTree (Name × WindowTree) QueryTree CoreTree
    FromTree expr_node over_node on_node result_node source_node arm_node behind_node term_node window_node
    arranged_node joined_node definition_node query_node core_node sources_node

pub sources_seen : (s : Sources) (left : ℕ)
    → after_from (sources_of s) left
    ≡ (after_source (source_of (out-Sources s).first) left >>= after_joined (map joined_of (out-Sources s).others.items))
sources_seen s left =
    ap (λ from. after_from from left) (sources_out s)
    ∙ sources_after (source_of (out-Sources s).first) (map joined_of (out-Sources s).others.items) left

pub query_seen : (q : Query) (left : ℕ)
    → after_query (query_of q) left
    ≡ (after_core (core_of (out-Query q).first) left >>= after_arranged (map arranged_of (out-Query q).others.items))
query_seen q left =
    ap (λ query. after_query query left) (query_out q)
    ∙ query_after (core_of (out-Query q).first) (map arranged_of (out-Query q).others.items) left

pub count_seen : (s : Sources) → count_from (sources_of s) ≡ suc (length (out-Sources s).others.items)
count_seen s = ap count_from (sources_out s) ∙ sources_count (source_of (out-Sources s).first) (out-Sources s).others.items
