-- Queries that can be run, with those in them. (SELECT)
use Rattle.std.specs.Prelude.{⊤, All, List}
use Rattle.values.specs.declared.value.Ty.{Ty}
use Rattle.semantics.specs.Query.{Body, From, InnerQuery, Source, compound, derived, exists, joined, nothing, schema, select, table, values_of, with_inner}
use Rattle.semantics.specs.Typed.{BodyHasTypes, SourceHasTypes}
use Rattle.semantics_rewrites.specs.materialized_queries.FlatWith.{body_in}

-- The schema's table stands among the others, at any depth.
abbrev mutual
  pub IsRunnableSource : Source → Type 0
  IsRunnableSource (table at width) = ⊤
  IsRunnableSource schema = ⊥
  IsRunnableSource (derived body) = IsRunnableBody body

  pub IsRunnableFrom : From → Type 0
  IsRunnableFrom nothing = ⊤
  IsRunnableFrom (joined from kind source on) = IsRunnableFrom from × IsRunnableSource source
  IsRunnableFrom (with_inner from query) = IsRunnableFrom from × IsRunnableInner query

  pub IsRunnableInner : InnerQuery → Type 0
  IsRunnableInner (values_of body) = IsRunnableBody body
  IsRunnableInner (exists body) = IsRunnableBody body

  pub IsRunnableBody : Body → Type 0
  IsRunnableBody (select from s) = IsRunnableFrom from
  IsRunnableBody (compound body operator from s) = IsRunnableBody body × IsRunnableFrom from

-- and they are typed over a catalog
module _ (catalog : List (List Ty)) where
  abbrev pub IsComputable : Source → Type 0
  IsComputable source = IsRunnableSource source × ((types : List Ty) × SourceHasTypes catalog source types)

  abbrev pub IsComputableBody : Body → Type 0
  IsComputableBody body = IsRunnableBody body × ((types : List Ty) × BodyHasTypes catalog body types)

  abbrev pub AreComputable : List Source → List InnerQuery → Type 0
  AreComputable sources queries = All IsComputable sources × All (λ query. IsComputableBody (body_in query)) queries
