use Rattle.std.proofs.Common.{◌<◌, length, rules, string_bytes}
use Rattle.schema_keys.proofs.NameLemmas.{distinct_next, distinct_stops}
use Rattle.schema_keys.proofs.served.are_different.Goals as goal

pub returns-then-contains : goal.returns-then-contains
returns-then-contains c =
    let within : c.loop-place.place < length c.args.names.now = search rules in (
      (λ e. absurd cc),
      (λ distinct. absurd (distinct_stops (λ n. string_bytes n) c.args.names.now c.loop-place.place
          c.index-names-place.result c.as_str.result.now c.contains.result within c.index-names-place.is c.as_str.ensures.value
          c.contains.ensures c.if-contains.true distinct)),
    )

pub loop-place-preserved : goal.loop-place-preserved
loop-place-preserved c =
    let within : c.loop-place.place < length c.args.names.now = search rules in
    distinct_next (λ n. string_bytes n) c.args.names.now c.loop-place.place
    c.index-names-place.result c.as_str.result.now c.contains.result within c.index-names-place.is c.as_str.ensures.value
    c.contains.ensures c.if-contains.false c.loop-place.invariant
