-- What the terms of groups are.
use Rattle.std.specs.Prelude.{List, map}
use Rattle.expr.specs.Term.{Term}
use Rattle.expr.specs.View.{term}
use Rattle.semantics.specs.Query.{Aggregate}
use Rattle.windows_groups.specs.declared.row_groups.terms.GroupTerms.{GroupTerms}
use Rattle.resolver_terms.specs.SelectView.{aggregate_of}

-- the terms of GROUP BY and the aggregates
pub record GroupTermsData : Type 0 where
  pub by : List Term
  pub aggregates : List Aggregate

abbrev pub group_terms_data : GroupTerms → GroupTermsData
group_terms_data terms = record { by = map term terms.by.items; aggregates = map aggregate_of terms.aggregates.items }
