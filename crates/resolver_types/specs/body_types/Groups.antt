-- The rows of groups, and the values of calls with OVER behind rows.
use Rattle.std.specs.Prelude.{List, ◌++◌, Result}
use Rattle.values.specs.declared.fault.Fault.{Fault}
use Rattle.values.specs.declared.value.Ty.{Ty}
use Rattle.semantics.specs.Query.{Grouping, WindowCall}
use Rattle.semantics_names.specs.Outcome.{also, each, followed}
use Rattle.semantics_names.specs.Types.{aggregate_type, call_type, term_type}

abbrev pub group_types : List Ty → List Ty → Grouping → Result (List Ty) Fault
group_types answers row g =
    followed (each (term_type answers row) g.by) (λ by. also (λ aggregates. by ++ aggregates) (each (aggregate_type answers row) g.aggregates))

abbrev pub with_calls : List Ty → List Ty → List WindowCall → Result (List Ty) Fault
with_calls answers input windows = also (λ calls. input ++ calls) (each (call_type answers input) windows)
