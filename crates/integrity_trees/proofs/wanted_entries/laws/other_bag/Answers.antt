use Rattle.std.proofs.Common.{sym}
use Rattle.std.proofs.lemmas.List.Sorted.{length_permutation}
use Rattle.integrity_trees.proofs.lemmas.wanted_entries.BagLemmas.{stray_differs}
use Rattle.integrity_trees.proofs.wanted_entries.laws.other_bag.Goals as goal

pub returns-clause-count : goal.returns-clause-count
returns-clause-count c = λ entries wanted other bags. other (sym (length_permutation entries wanted bags))

pub returns-clause-stray : goal.returns-clause-stray
returns-clause-stray c = λ entries wanted batch low high cut stray bags. stray_differs entries wanted batch low high cut stray bags
