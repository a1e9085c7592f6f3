use Rattle.std.proofs.lemmas.List.{append-nil}
use Rattle.expr.specs.operations.Operations.{is_null}
use Rattle.windows_groups.proofs.lemmas.aggregates.StateLemmas.{taken_whole}
use Rattle.windows_groups.proofs.aggregates.accumulator.Accumulator.add.Goals as goal

pub returns-in-Null-clause-state : goal.returns-in-Null-clause-state
unfolding is_null
returns-in-Null-clause-state c = λ f values is. rw (c.in-Null.is, append-nil values) is

pub returns-in_default : goal.returns-in_default
returns-in_default c = rw (taken_whole c.args.value c.in_default.not-Null) c.take.ensures
