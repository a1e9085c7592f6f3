-- The example, computed.
use Rattle.std.proofs.Common.{refl}
use Rattle.expr.specs.operations.Operations.{comparison, condition, is_null, same, settle, test_of, truth}
use Rattle.semantics.proofs.AnswerLemmas.{permitted_as}
use Rattle.semantics.specs.Query.{table}
use Rattle.values.specs.Datum.{Datum}
use Rattle.semantics_rewrites.specs.schema_sources.Examples.{ShowLater, later_names, named}
use Rattle.semantics_rewrites.specs.schema_sources.Settled.{with_schema}

pub later_shows : (w : Datum) → ShowLater w
unfolding settle same is_null truth condition test_of comparison
later_shows w = (refl, permitted_as w (with_schema named) (later_names (table 2 5)) _ refl)
