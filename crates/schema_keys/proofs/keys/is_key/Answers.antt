use Rattle.std.proofs.Common.{rules, tests}
use Rattle.std.proofs.lemmas.Iterator.{YieldsList-from_slice, cases_from_any}
use Rattle.schema_keys.specs.declared_keys.KeyView.{key_data}
use Rattle.schema_keys.specs.declared.declared_keys.keys.Key.{Key}
use Rattle.schema_keys.specs.Created.{IsLonePrimaryKey}
use Rattle.schema_keys.proofs.ListLemmas.{any_is}
use Rattle.schema_keys.proofs.ServedLemmas.{any_told}
use Rattle.schema_keys.proofs.keys.is_key.Goals as goal

pub returns : goal.returns
returns c =
    let name = c.args.name.now in
    any_told (IsLonePrimaryKey name) key_data c.args.keys.now c.any.result
    (any_is (λ (x : Key). IsLonePrimaryKey name (key_data x)) c.args.keys.now c.any.result
    (cases_from_any _ _ _ (λ (x : Key). IsLonePrimaryKey name (key_data x)) (λ (x : Key). ¬ IsLonePrimaryKey name (key_data x))
    c.any.ensures.ran (YieldsList-from_slice c.args.keys.now cc) (λ x q k. search (rules, tests)) (λ x q k. search (rules, tests))))
