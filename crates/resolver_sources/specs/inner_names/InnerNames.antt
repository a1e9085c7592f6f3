-- Queries inside expressions, by their names. (SQL Language Expressions, "The IN and NOT IN Operators", "The EXISTS Operator")
use Rattle.std.specs.Prelude.{◌≡◌, List, [], Ok, Result, map}
use Rattle.values.specs.declared.fault.Fault.{Fault}
use Rattle.resolver_sources.specs.from_names.Resolved.{QueryNames}
use Rattle.semantics.specs.Query.{InnerQuery}
use Rattle.semantics_names.specs.Expression.{Answers, InnerTree}
use Rattle.semantics_names.specs.Outcome.{also, each}
use Rattle.semantics_names.specs.Statement.{Inner, answers_of, inner_of}

-- what FROM may mention is known to what resolves them
abbrev pub inner_by : QueryNames → InnerTree → Result Inner Fault
inner_by = inner_of []

abbrev pub answers_by : QueryNames → List InnerQuery → Answers
answers_by = answers_of []

-- these are, one by one, what queries are by their names
abbrev pub AreNamed : QueryNames → List InnerTree → List InnerQuery → Type 0
AreNamed queries trees inner = also (map (λ i. i.query)) (each (inner_by queries) trees) ≡ Ok inner
