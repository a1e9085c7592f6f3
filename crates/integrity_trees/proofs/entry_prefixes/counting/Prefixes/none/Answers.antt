use Rattle.std.proofs.Common.{refl}
use Rattle.integrity_trees.proofs.lemmas.entry_prefixes.CountLemmas.{none_counted}
use Rattle.integrity_trees.proofs.entry_prefixes.counting.Prefixes.none.Goals as goal

pub returns-clause-counted : goal.returns-clause-counted
returns-clause-counted c = none_counted _ c.args.width (c.in_ok-vec.ensures.items_if_clones_equal (λ y same. same)) refl
