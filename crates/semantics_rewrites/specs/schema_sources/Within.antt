-- Queries that name some of so many tables. (SELECT, "Determination of input data")
use Rattle.std.specs.Prelude.{◌<◌, ℕ, ⊤}
use Rattle.semantics.specs.Query.{Body, From, InnerQuery, Source, compound, derived, exists, joined, nothing, schema, select, table, values_of, with_inner}

-- each table that is named is one of the first `count`
module _ (count : ℕ) where
  abbrev mutual
    pub IsSourceWithin : Source → Type 0
    IsSourceWithin (table at width) = at < count
    IsSourceWithin schema = ⊤
    IsSourceWithin (derived body) = IsBodyWithin body

    pub IsFromWithin : From → Type 0
    IsFromWithin nothing = ⊤
    IsFromWithin (joined from kind source on) = IsFromWithin from × IsSourceWithin source
    IsFromWithin (with_inner from query) = IsFromWithin from × IsInnerWithin query

    pub IsInnerWithin : InnerQuery → Type 0
    IsInnerWithin (values_of body) = IsBodyWithin body
    IsInnerWithin (exists body) = IsBodyWithin body

    pub IsBodyWithin : Body → Type 0
    IsBodyWithin (select from s) = IsFromWithin from
    IsBodyWithin (compound body operator from s) = IsBodyWithin body × IsFromWithin from
