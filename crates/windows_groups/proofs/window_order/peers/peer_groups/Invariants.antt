use Rattle.std.proofs.Common.{map}
use Rattle.resolver_terms.specs.SelectView.{direction_of}
use Rattle.windows_groups.specs.window_order.Entries.{keys_of}
use Rattle.windows_groups.proofs.lemmas.window_order.WalkLemmas.{IsWalked}
use Rattle.windows_groups.proofs.window_order.peers.peer_groups.Given as goal

abbrev pub invariant-loop-at : goal.invariant-loop-at
invariant-loop-at l = IsWalked (map direction_of l.directions) (keys_of l.entries) l.at l.groups.numbers.items l.groups.starts.items
