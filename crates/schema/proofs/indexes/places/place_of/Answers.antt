use Rattle.std.proofs.Common.{◌<◌, length, map, rules}
use borrow.Author.Count.{below_more}
use Rattle.schema.proofs.lemmas.indexes.ConditionLemmas.{first_further, first_here, first_nowhere}
use Rattle.schema.proofs.lemmas.indexes.IndexLemmas.{no_place, place_here, place_not_here}
use Rattle.schema.proofs.indexes.places.place_of.Goals as goal
use Rattle.schema_keys.specs.Names.{IsNameAt}

pub returns-then-is_same_name-clause-found : goal.returns-then-is_same_name-clause-found
returns-then-is_same_name-clause-found c =
    let within : c.loop-place.place < length c.args.columns.now = search rules in
    place_here c.args.columns.now c.args.name.now c.loop-place.place c.index-columns-place.result c.name.result.now
    c.is_same_name.result within c.index-columns-place.is c.name.ensures c.is_same_name.ensures c.if-is_same_name.true

pub returns-then-is_same_name-clause-first : goal.returns-then-is_same_name-clause-first
returns-then-is_same_name-clause-first c =
    let within : c.loop-place.place < length c.args.columns.now = search rules in
    first_here c.args.columns.now c.args.name.now c.loop-place.place c.index-columns-place.result c.name.result.now
    c.is_same_name.result within c.index-columns-place.is c.name.ensures c.is_same_name.ensures c.if-is_same_name.true
    c.loop-place.invariant.1

pub loop-place-preserved : goal.loop-place-preserved
loop-place-preserved c =
    let within : c.loop-place.place < length c.args.columns.now = search rules in
    let columns = c.args.columns.now in
    let name = c.args.name.now in
    let here = c.index-columns-place in (
      below_more (λ k. ¬ IsNameAt (map (λ c. c.name) columns) name k) c.loop-place.place c.loop-place.invariant.0
          (place_not_here columns name c.loop-place.place here.result c.name.result.now c.is_same_name.result within here.is
          c.name.ensures c.is_same_name.ensures c.if-is_same_name.false),
      first_further columns name c.loop-place.place here.result c.name.result.now c.is_same_name.result within here.is
          c.name.ensures c.is_same_name.ensures c.if-is_same_name.false c.loop-place.invariant.1,
    )

pub returns-clause-none : goal.returns-clause-none
returns-clause-none c =
    no_place c.args.columns.now c.args.name.now c.loop-place.place c.loop-place-test.false c.loop-place.invariant.0

pub returns-clause-first : goal.returns-clause-first
returns-clause-first c =
    first_nowhere c.args.columns.now c.args.name.now c.loop-place.place c.loop-place-test.false c.loop-place.invariant.1
