use Rattle.std.proofs.Common.{rules, tests}
use Rattle.std.proofs.lemmas.Iterator.{YieldsList-from_slice, cases_from_all}
use Rattle.sql_reader_grammar.specs.create_trees.CreateView.{indexed_of}
use Rattle.sql_reader_grammar.specs.declared.create_trees.create.IndexedColumn.{IndexedColumn}
use Rattle.schema_keys.specs.Created.{IsPlainKeyColumn}
use Rattle.schema_keys.proofs.ListLemmas.{all_is}
use Rattle.schema_keys.proofs.ServedLemmas.{all_of_map}
use Rattle.schema_keys.proofs.served.are_plain.Goals as goal

pub returns : goal.returns
returns c =
    all_of_map IsPlainKeyColumn indexed_of c.args.key.now c.all.result
    (all_is (λ (x : IndexedColumn). IsPlainKeyColumn (indexed_of x)) c.args.key.now c.all.result
    (cases_from_all _ _ _ (λ (x : IndexedColumn). IsPlainKeyColumn (indexed_of x)) (λ (x : IndexedColumn). ¬ IsPlainKeyColumn (indexed_of x))
    c.all.ensures.ran (YieldsList-from_slice c.args.key.now cc) (λ x q k. (search (rules, tests), search (rules, tests)))
    (λ x q k. search (rules, tests))))
