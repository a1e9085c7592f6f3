-- SELECTs that are joined from the left. (SELECT, "Compound Select Statements"; "The ORDER BY clause")
use Rattle.std.specs.Prelude.{List, [], ◌++◌, Result}
use Rattle.values.specs.declared.fault.Fault.{Fault}
use Rattle.resolver_sources.specs.from_names.Resolved.{QueryNames}
use Rattle.semantics.specs.Query.{Body, Key}
use Rattle.semantics_names.specs.Outcome.{also, followed}
use Rattle.semantics_names.specs.Sources.{Known}
use Rattle.semantics_names.specs.Statement.{Queried, Single, compounded, keys_of, no_row, operator_of, single_of}
use Rattle.sql_reader_syntax.specs.ExprTree.{CoreTree, TermTrees}
use Rattle.sql_reader_syntax.specs.declared.query.CompoundOperator.{CompoundOperator}

-- one SELECT more
abbrev pub joined_to : List Known → QueryNames → Queried → CompoundOperator × CoreTree → Result Queried Fault
joined_to known queries left c = followed (single_of known queries c.1 TermTrees.No_term) (compounded TermTrees.No_term left c.0)

-- a SELECT behind those before it, which has as many columns
abbrev pub both_joined : Queried → CompoundOperator → Single → Queried
both_joined left operator s = record {
  body = Body.compound left.body (operator_of operator) s.from s.core.select;
  names = left.names;
  order = [];
  beside = left.beside ++ s.beside;
}

abbrev pub with_order : Queried → List Key → Queried
with_order q keys = record { body = q.body; names = q.names; order = keys; beside = q.beside }

-- in this order, which names result columns alone
abbrev pub ordered_by : TermTrees → Queried → Result Queried Fault
ordered_by order q = also (with_order q) (keys_of q.names no_row order)
