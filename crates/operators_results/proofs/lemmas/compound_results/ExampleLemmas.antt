-- The examples, computed.
use Rattle.std.proofs.Common.{refl}
use Rattle.operators_results.specs.compound_results.Examples.{JoinedExamples}

pub joined_examples : JoinedExamples
joined_examples = record { union = refl; union_all = refl; intersect = refl; except = refl }
