use Rattle.schema.specs.indexes.KeyIndexes.{KeyIndexData}
use Rattle.schema.specs.indexes.KeyIndexView.{key_index_data}
use Rattle.schema_keys.specs.Names.{IsSameName}
use Rattle.schema.proofs.SearchLemmas.{NoneSoFar}
use Rattle.schema.proofs.keyed.wanted_of.Given as goal

abbrev pub invariant-loop-candidate : goal.invariant-loop-candidate
invariant-loop-candidate l = NoneSoFar key_index_data (λ (w : KeyIndexData). IsSameName l.name w.name) l.wanted l.candidate-index
