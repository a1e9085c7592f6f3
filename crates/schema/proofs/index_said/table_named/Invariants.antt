use Rattle.schema_keys.specs.Names.{IsSameName}
use Rattle.schema.specs.Keyed.{KeyedData}
use Rattle.schema.specs.KeyedView.{keyed_data}
use Rattle.schema.proofs.SearchLemmas.{NoneSoFar}
use Rattle.schema.proofs.index_said.table_named.Given as goal

abbrev pub invariant-loop-keyed : goal.invariant-loop-keyed
invariant-loop-keyed l = NoneSoFar keyed_data (λ (k : KeyedData). IsSameName k.table.name l.name) l.tables l.keyed-index
