-- One SELECT with its FROM, behind the queries in its expressions. (SELECT, "Simple Select Processing")
use Rattle.std.specs.Prelude.{List, [], ◌∷◌, ◌++◌, Result}
use Rattle.values.specs.declared.fault.Fault.{Fault}
use Rattle.resolver_sources.specs.from_names.Resolved.{QueryNames}
use Rattle.resolver_sources.specs.inner_names.InnerNames.{answers_by}
use Rattle.semantics.specs.Query.{Body, InnerQuery}
use Rattle.semantics_names.specs.Outcome.{also, followed}
use Rattle.semantics_names.specs.Sources.{Known, Sources}
use Rattle.semantics_names.specs.Statement.{CoreData, Single, core_of, from_of, from_tree, with_answers, with_windows}
use Rattle.sql_reader_syntax.specs.ExprTree.{CoreTree, TermTrees}

-- with these inner queries, and what stands beside them
abbrev pub single_over : List InnerQuery → List Body → Sources → CoreData → Single
single_over queries written f c =
    let from = with_answers f.from queries in
    record { from = from; core = c; beside = written ++ f.beside ++ Body.select from (with_windows c.select c.defined) ∷ [] }

-- a SELECT, where these are the queries in its expressions
abbrev pub behind_inner : List Known → QueryNames → CoreTree → TermTrees → List InnerQuery → List Body → Result Single Fault
behind_inner known queries core order inner written =
    followed (from_of known queries (answers_by queries inner) (from_tree core)) (λ f.
    also (single_over inner written f) (core_of (answers_by queries inner) f.scope core order))
