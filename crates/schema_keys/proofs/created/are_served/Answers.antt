use Rattle.std.proofs.Common.{rules, tests}
use Rattle.std.proofs.lemmas.Iterator.{YieldsList-from_slice, cases_from_all}
use Rattle.sql_reader_grammar.specs.create_trees.CreateView.{constraint_of}
use Rattle.schema_keys.specs.Created.{IsServedConstraint}
use Rattle.schema_keys.proofs.ListLemmas.{all_is}
use Rattle.schema_keys.proofs.created.are_served.Goals as goal

pub returns : goal.returns
returns c =
    all_is (λ x. IsServedConstraint (constraint_of x)) c.args.constraints.now c.all.result
    (cases_from_all _ _ _ (λ x. IsServedConstraint (constraint_of x))
    (λ x. ¬ IsServedConstraint (constraint_of x))
    c.all.ensures.ran (YieldsList-from_slice c.args.constraints.now cc) (λ x q k. (search (rules, tests), search (rules, tests)))
    (λ x q k. search (rules, tests)))
