use Rattle.std.proofs.Common.{rules, w64}
use Rattle.std.proofs.lemmas.Int.{to_z-of_z}
use Rattle.logical_plan_queries.proofs.answers.answer_over.Goals as goal

pub returns-clause-offset : goal.returns-clause-offset
returns-clause-offset c = to_z-of_z w64 c.args.query.now.offset (search rules)
