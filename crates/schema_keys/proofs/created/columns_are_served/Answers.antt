use Rattle.std.proofs.Common.{All, rules, tests}
use Rattle.std.proofs.lemmas.Iterator.{YieldsList-from_slice, cases_from_all}
use Rattle.sql_reader_grammar.specs.create_trees.CreateView.{constraint_of}
use Rattle.sql_reader_grammar.specs.declared.create_trees.create.Column.{Column}
use Rattle.schema_keys.specs.Created.{IsServedConstraint}
use Rattle.schema_keys.proofs.ListLemmas.{all_is}
use Rattle.schema_keys.proofs.created.columns_are_served.Goals as goal

pub returns : goal.returns
returns c =
    all_is (λ (c : Column). All (λ x. IsServedConstraint (constraint_of x)) c.constraints.items) c.args.columns.now c.all.result
    (cases_from_all _ _ _ (λ (c : Column). All (λ x. IsServedConstraint (constraint_of x)) c.constraints.items)
    (λ (c : Column). ¬ All (λ x. IsServedConstraint (constraint_of x)) c.constraints.items)
    c.all.ensures.ran (YieldsList-from_slice c.args.columns.now cc) (λ x q k. (search (rules, tests), search (rules, tests)))
    (λ x q k. search (rules, tests)))
