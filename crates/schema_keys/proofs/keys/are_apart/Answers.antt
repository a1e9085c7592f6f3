use Rattle.std.proofs.Common.{◌<◌, length, map, refl, rules, subst}
use Rattle.std.proofs.lemmas.List.{take_all}
use Rattle.schema_keys.specs.declared_keys.KeyView.{key_data}
use Rattle.schema_keys.specs.Created.{Clash}
use Rattle.schema_keys.specs.Names.{AreApart}
use Rattle.schema_keys.proofs.ApartLemmas.{apart_next, apart_stops}
use Rattle.schema_keys.proofs.keys.are_apart.Goals as goal

pub returns-then-clashes : goal.returns-then-clashes
returns-then-clashes c =
    let within : c.loop-place.place < length c.args.keys.now = search rules in (
      (λ e. absurd cc),
      (λ apart. absurd (apart_stops Clash key_data c.args.keys.now c.loop-place.place c.index-keys-place.result
          (key_data c.index-keys-place.result) c.clashes.result within c.index-keys-place.is refl c.clashes.ensures
          c.if-clashes.true apart)),
    )

pub loop-place-preserved : goal.loop-place-preserved
loop-place-preserved c =
    let within : c.loop-place.place < length c.args.keys.now = search rules in
    apart_next Clash key_data c.args.keys.now c.loop-place.place c.index-keys-place.result
    (key_data c.index-keys-place.result) c.clashes.result within c.index-keys-place.is refl c.clashes.ensures
    c.if-clashes.false c.loop-place.invariant

pub returns : goal.returns
returns c = (
  (λ e. subst (λ ks. AreApart Clash (map key_data ks)) (take_all c.loop-place.place c.args.keys.now c.loop-place-test.false)
      c.loop-place.invariant),
  (λ apart. refl),
)
