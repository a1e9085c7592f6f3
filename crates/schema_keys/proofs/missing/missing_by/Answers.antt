use Rattle.schema_keys.proofs.MissingLemmas.{missing_more}
use Rattle.schema_keys.proofs.missing.missing_by.Goals as goal
use Rattle.schema_tables.specs.MissingView.{missing_of}

pub loop-constraint-preserved : goal.loop-constraint-preserved
loop-constraint-preserved c =
    missing_more c.loop-constraint.yielded c.in-Some.constraint (missing_of c.loop-constraint.missing)
    (missing_of c.missing_after-missing.result) c.missing_after-missing.ensures c.loop-constraint.invariant
