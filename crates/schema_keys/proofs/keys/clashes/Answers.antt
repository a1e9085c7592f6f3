use Rattle.std.proofs.Common.{rules, tests}
use Rattle.std.proofs.lemmas.Iterator.{YieldsList-from_slice, cases_from_any}
use Rattle.schema_keys.specs.declared_keys.KeyView.{key_data}
use Rattle.schema_keys.specs.declared.declared_keys.keys.Key.{Key}
use Rattle.schema_keys.specs.Created.{Clash}
use Rattle.schema_keys.proofs.ListLemmas.{any_is}
use Rattle.schema_keys.proofs.keys.clashes.Goals as goal

pub returns : goal.returns
returns c =
    let key = key_data c.args.key.now in
    any_is (λ (x : Key). Clash (key_data x) key) c.args.before.now c.any.result
    (cases_from_any _ _ _ (λ (x : Key). Clash (key_data x) key) (λ (x : Key). ¬ Clash (key_data x) key)
    c.any.ensures.ran (YieldsList-from_slice c.args.before.now cc) (λ x q k. search (rules, tests)) (λ x q k. search (rules, tests)))
