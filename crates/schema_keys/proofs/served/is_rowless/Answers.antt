use Rattle.std.proofs.Common.{◌≡◌, rules, tests}
use Rattle.std.proofs.lemmas.Iterator.{YieldsList-from_slice, cases_from_any}
use Rattle.sql_reader_grammar.specs.declared.create_trees.create.TableOption.TheVariants.{WithoutRowid}
use Rattle.schema_keys.proofs.ListLemmas.{any_is}
use Rattle.schema_keys.proofs.served.is_rowless.Goals as goal

pub returns : goal.returns
returns c =
    any_is (λ x. x ≡ WithoutRowid) c.args.options.now c.any.result
    (cases_from_any _ _ _ (λ x. x ≡ WithoutRowid) (λ x. ¬ (x ≡ WithoutRowid))
    c.any.ensures.ran (YieldsList-from_slice c.args.options.now cc) (λ x q k. search (rules, tests)) (λ x q k. search (rules, tests)))
