-- A query in an order.
use Rattle.std.specs.Prelude.{List, None, Result}
use Rattle.values.specs.declared.fault.Fault.{Fault}
use Rattle.values.specs.declared.value.Ty.{Ty}
use Rattle.resolver_types.specs.body_types.Rows.{column_types, computed_row}
use Rattle.semantics.specs.Query.{Body, From, Key, Select}
use Rattle.semantics_names.specs.Outcome.{also, each, followed}
use Rattle.semantics_names.specs.Types.{body_types, key_type}
use Rattle.resolver.specs.query_types.Keys.{key_over, rows_behind}

module _ (tables : List (List Ty)) where
  abbrev pub ordered_types : Body → List Key → Result (List Ty) Fault
  ordered_types body order = followed (body_types tables body) (λ types. also (λ _. types) (each (λ k. key_type tables body types k.by) order))

  -- one SELECT
  abbrev pub ordered_single : From → Select → List Key → Result (List Ty) Fault
  ordered_single from s order =
      followed (computed_row tables from s) (λ r. followed (column_types s r) (λ types.
      also (λ _. types) (each (λ k. key_over (rows_behind s.distinct r) types k.by) order)))

  -- SELECTs that are joined
  abbrev pub ordered_compound : Body → List Key → Result (List Ty) Fault
  ordered_compound body order =
      followed (body_types tables body) (λ types. also (λ _. types) (each (λ k. key_over None types k.by) order))
