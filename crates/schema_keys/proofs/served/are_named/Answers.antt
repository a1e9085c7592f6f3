use Rattle.std.proofs.Common.{map, rules, string_bytes, tests}
use Rattle.std.proofs.lemmas.Iterator.{YieldsList-from_slice, cases_from_all}
use Rattle.sql_reader_grammar.specs.create_trees.CreateView.{column_of}
use Rattle.schema_keys.specs.Created.{IsNamedIn}
use Rattle.schema_keys.proofs.ListLemmas.{all_is}
use Rattle.schema_keys.proofs.served.are_named.Goals as goal

pub returns : goal.returns
returns c =
    let columns = map column_of c.args.columns.now in
    all_is (λ n. IsNamedIn columns (string_bytes n)) c.args.names.now c.all.result
    (cases_from_all _ _ _ (λ n. IsNamedIn columns (string_bytes n))
    (λ n. ¬ IsNamedIn columns (string_bytes n))
    c.all.ensures.ran (YieldsList-from_slice c.args.names.now cc) (λ x q k. (search (rules, tests), search (rules, tests)))
    (λ x q k. search (rules, tests)))
