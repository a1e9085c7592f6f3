-- The examples, computed.
use Rattle.std.proofs.Common.{refl}
use Rattle.expr.specs.operations.Operations.{comparison, condition, is_null, same, settle, test_of, truth}
use Rattle.semantics.proofs.AnswerLemmas.{permitted_as}
use Rattle.semantics.specs.Examples.{items}
use Rattle.values.specs.Datum.{Datum}
use Rattle.semantics_rewrites.specs.materialized_queries.Examples.{Show, ShowOtherwise, examples, sold_otherwise}

module _ (w : Datum) where
  pub examples_show : Show w examples
  unfolding settle same is_null truth condition test_of comparison
  examples_show = (refl, permitted_as w _ _ _ refl, (refl, permitted_as w _ _ _ refl, (refl, permitted_as w _ _ _ refl, tt)))

  pub otherwise_shows : ShowOtherwise w
  unfolding settle same is_null truth condition test_of comparison
  otherwise_shows = (refl, permitted_as w items sold_otherwise _ refl)
