use Rattle.std.proofs.Common.{rules, string_bytes, tests}
use Rattle.std.proofs.lemmas.Iterator.{YieldsList-from_slice, cases_from_any}
use Rattle.schema_keys.specs.Names.{IsSameName}
use Rattle.schema_keys.proofs.ListLemmas.{any_is}
use Rattle.schema.proofs.indexes.places.is_named.Goals as goal

pub returns : goal.returns
returns c =
    any_is (λ x. IsSameName (string_bytes x.name) c.args.name.now) c.args.columns.now c.any.result
    (cases_from_any _ _ _ (λ x. IsSameName (string_bytes x.name) c.args.name.now)
    (λ x. ¬ IsSameName (string_bytes x.name) c.args.name.now) c.any.ensures.ran
    (YieldsList-from_slice c.args.columns.now cc) (λ x q k. search (rules, tests)) (λ x q k. search (rules, tests)))
