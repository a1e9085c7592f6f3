-- The result columns of the program.
use Rattle.std.specs.Prelude.{string_bytes}
use Rattle.semantics_names.specs.Statement as spec
use Rattle.expr.specs.View.{term}
use Rattle.resolver_exprs.specs.declared.scopes.stars.ResultColumn.{ResultColumn}

abbrev pub result_of : ResultColumn → spec.ResultColumn
result_of r = record { term = term r.term; name = string_bytes r.name }
