use Rattle.std.proofs.Common.{◌≡◌, ◌∙◌, ◌+◌, ◌-◌, map, ap, sym, arith}
use Rattle.std.specs.Ordering.{is_ne}
use Rattle.values.specs.Datum.{datum_of}
use Rattle.semantics.specs.Sequence.{keys_cmp}
use Rattle.resolver_terms.specs.SelectView.{direction_of}
use Rattle.windows_groups.specs.window_order.Entries.{keys_of}
use Rattle.windows_groups.specs.window_order.Groups.{groups_made}
use Rattle.windows_groups.proofs.lemmas.window_order.EntryLemmas.{key_at, length-keys_of}
use Rattle.windows_groups.proofs.lemmas.window_order.GroupLemmas.{made-first, made-next}
use Rattle.windows_groups.proofs.window_order.peers.begins_group.Goals as goal

pub returns-then-at-eq0 : goal.returns-then-at-eq0
returns-then-at-eq0 c =
    let ways = map direction_of c.args.directions.now in
    let keys = keys_of c.args.entries.now in
    let first : c.args.at ≡ 0 = omega arith in
    (λ i. groups_made ways keys (first i + 1)) ∙ made-first ways keys c.requires.in_order ∙ sym (ap (λ n. groups_made ways keys n + 1) first)

pub returns : goal.returns
returns c =
    let ways = map direction_of c.args.directions.now in
    let entries = c.args.entries.now in
    let keys = keys_of entries in
    let at = c.args.at in
    let size = length-keys_of entries in
    let before = c.as_slice.ensures.value in
    let here = c.as_slice-2.ensures.value in
    let read_before = key_at entries (at - 1) c.index-entries-at.result (omega arith) in
    let read_here = key_at entries at c.index-entries-at-2.result (omega arith) in
    made-next ways keys c.requires.in_order at c.is_ne.result (omega arith) (omega (arith, size))
    (c.is_ne.ensures ∙ ap is_ne (c.compare_keys.ensures ∙ (λ i. keys_cmp ways (map datum_of (before i)) (map datum_of (here i))) ∙ sym (λ i. keys_cmp ways (read_before i) (read_here i))))
