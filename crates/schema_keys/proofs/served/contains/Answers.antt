use Rattle.std.proofs.Common.{rules, string_bytes, tests}
use Rattle.std.proofs.lemmas.Iterator.{YieldsList-from_slice, cases_from_any}
use Rattle.schema_keys.specs.Names.{IsSameName}
use Rattle.schema_keys.proofs.ListLemmas.{any_is}
use Rattle.schema_keys.proofs.served.contains.Goals as goal

pub returns : goal.returns
returns c =
    any_is (λ x. IsSameName (string_bytes x) c.args.name.now) c.args.names.now c.any.result
    (cases_from_any _ _ _ (λ x. IsSameName (string_bytes x) c.args.name.now)
    (λ x. ¬ IsSameName (string_bytes x) c.args.name.now) c.any.ensures.ran
    (YieldsList-from_slice c.args.names.now cc) (λ x q k. search (rules, tests)) (λ x q k. search (rules, tests)))
