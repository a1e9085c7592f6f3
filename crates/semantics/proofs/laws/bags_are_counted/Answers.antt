use Rattle.semantics.proofs.TimesLemmas.{bags_are_times, rules_are_times}
use Rattle.semantics.proofs.laws.bags_are_counted.Goals as goal

pub returns-clause-bags : goal.returns-clause-bags
returns-clause-bags c = bags_are_times

pub returns-clause-rules : goal.returns-clause-rules
returns-clause-rules c = rules_are_times
