use Rattle.std.proofs.Common.{rules, tests}
use Rattle.std.proofs.lemmas.Iterator.{YieldsList-from_slice, cases_from_any}
use Rattle.schema_keys.proofs.ListLemmas.{any_is}
use Rattle.schema.specs.Taken.{TakesName}
use Rattle.schema.proofs.doubles.is_taken.Goals as goal

pub returns : goal.returns
returns c =
    let name = c.args.name.now in
    any_is (TakesName name) c.args.rows.now c.any.result
    (cases_from_any _ _ _ (λ x. TakesName name x) (λ x. ¬ TakesName name x)
    c.any.ensures.ran (YieldsList-from_slice c.args.rows.now cc) (λ x q k. search (rules, tests)) (λ x q k. search (rules, tests)))
