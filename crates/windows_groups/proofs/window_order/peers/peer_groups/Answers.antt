use Rattle.std.proofs.Common.{◌≡◌, ◌∙◌, ◌++◌, [], ◌∷◌, length, map, refl, ap, arith}
use Rattle.resolver_terms.specs.SelectView.{direction_of}
use Rattle.windows_groups.specs.window_order.Entries.{keys_of}
use Rattle.windows_groups.proofs.lemmas.window_order.EntryLemmas.{length-keys_of}
use Rattle.windows_groups.proofs.lemmas.window_order.WalkLemmas.{all_walked, walked}
use Rattle.windows_groups.proofs.window_order.peers.peer_groups.Goals as goal

pub loop-at-preserved : goal.loop-at-preserved
loop-at-preserved c =
    walked (map direction_of c.args.directions.now) (keys_of c.args.entries.now) c.loop-at.at c.loop-at.groups.numbers.items c.loop-at.groups.starts.items c.loop-at.invariant
    c.begins_group-begins.result c.push.new.self.numbers.items c.push.new.self.starts.items c.begins_group-begins.ensures c.in_ok-push.ensures.starts c.in_ok-push.ensures.numbers

pub returns : goal.returns
returns c =
    let entries = c.args.entries.now in
    let whole : length entries ≡ c.loop-at.at = omega arith in
    all_walked (map direction_of c.args.directions.now) (keys_of entries) c.loop-at.at c.loop-at.groups.numbers.items c.loop-at.groups.starts.items c.loop-at.invariant
    (record { numbers = c.loop-at.groups.numbers; starts = c.push-2.new.self })
    (length-keys_of entries ∙ whole) refl
    (c.in_ok-push-2.ensures.items ∙ ap (λ n. c.loop-at.groups.starts.items ++ n ∷ []) whole)
