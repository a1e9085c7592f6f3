use Rattle.std.proofs.Common.{map, rules, tests}
use Rattle.std.proofs.lemmas.Iterator.{YieldsList-from_slice, cases_from_all}
use Rattle.sql_reader_grammar.specs.create_trees.CreateView.{column_of}
use Rattle.schema_keys.specs.declared_keys.KeyView.{key_data}
use Rattle.schema_keys.specs.declared_keys.Keys.{KeyData}
use Rattle.schema_keys.specs.declared.declared_keys.keys.Key.{Key}
use Rattle.schema_keys.specs.Created.{AreColumns}
use Rattle.schema_keys.proofs.ListLemmas.{all_is}
use Rattle.schema_keys.proofs.ServedLemmas.{all_of_map}
use Rattle.schema_keys.proofs.keys.are_of_columns.Goals as goal

pub returns : goal.returns
returns c =
    let columns = map column_of c.args.columns.now in
    all_of_map (λ (k : KeyData). AreColumns columns k.columns) key_data c.args.keys.now c.all.result
    (all_is (λ (x : Key). AreColumns columns (key_data x).columns) c.args.keys.now c.all.result
    (cases_from_all _ _ _ (λ (x : Key). AreColumns columns (key_data x).columns) (λ (x : Key). ¬ AreColumns columns (key_data x).columns)
    c.all.ensures.ran (YieldsList-from_slice c.args.keys.now cc) (λ x q k. (search (rules, tests), search (rules, tests)))
    (λ x q k. search (rules, tests))))
