use Rattle.windows_groups.proofs.lemmas.row_groups.LawLemmas.{gathered_are_groups, gathered_leave_as_groups}
use Rattle.windows_groups.proofs.row_groups.laws.gathered_are_groups.Goals as goal

pub returns-clause-rows : goal.returns-clause-rows
returns-clause-rows c = gathered_are_groups

pub returns-clause-leaves : goal.returns-clause-leaves
returns-clause-leaves c = gathered_leave_as_groups
