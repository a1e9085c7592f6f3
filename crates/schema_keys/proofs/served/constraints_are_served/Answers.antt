use Rattle.std.proofs.Common.{map, rules, tests}
use Rattle.std.proofs.lemmas.Iterator.{YieldsList-from_slice, cases_from_all}
use Rattle.sql_reader_grammar.specs.create_trees.CreateView.{column_of, table_constraint_of}
use Rattle.schema_keys.specs.Created.{IsServedIn}
use Rattle.schema_keys.proofs.ListLemmas.{all_is}
use Rattle.schema_keys.proofs.served.constraints_are_served.Goals as goal

pub returns : goal.returns
returns c =
    let columns = map column_of c.args.columns.now in
    all_is (λ x. IsServedIn columns (table_constraint_of x)) c.args.constraints.now c.all.result
    (cases_from_all _ _ _ (λ x. IsServedIn columns (table_constraint_of x))
    (λ x. ¬ IsServedIn columns (table_constraint_of x))
    c.all.ensures.ran (YieldsList-from_slice c.args.constraints.now cc) (λ x q k. (search (rules, tests), search (rules, tests)))
    (λ x q k. search (rules, tests)))
