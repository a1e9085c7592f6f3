use Rattle.std.proofs.Common.{◌<◌, length, rules}
use Rattle.schema_keys.proofs.KeyLemmas.{no_place, place_here}
use Rattle.schema_keys.proofs.keys.place_of.Goals as goal

pub returns-then-is_same_name-clause-found : goal.returns-then-is_same_name-clause-found
returns-then-is_same_name-clause-found c =
    let within : c.loop-place.place < length c.args.columns.now = search rules in
    place_here c.args.columns.now c.args.name.now c.loop-place.place c.index-columns-place.result c.as_str.result.now
    c.is_same_name.result within c.index-columns-place.is c.as_str.ensures.value c.is_same_name.ensures c.if-is_same_name.true

pub returns-clause-none : goal.returns-clause-none
returns-clause-none c =
    no_place c.args.columns.now c.args.name.now c.loop-place.place c.loop-place-test.false c.loop-place.invariant
