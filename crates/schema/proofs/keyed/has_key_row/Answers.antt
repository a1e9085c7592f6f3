use Rattle.std.proofs.Common.{rules, tests}
use Rattle.std.proofs.lemmas.Iterator.{YieldsList-from_slice, cases_from_any}
use Rattle.schema.specs.indexes.KeyIndexView.{key_index_data}
use Rattle.schema_keys.proofs.ListLemmas.{any_is}
use Rattle.values.specs.Row.{Row}
use Rattle.schema.specs.Wanted.{IsKeyRow}
use Rattle.schema.proofs.keyed.has_key_row.Goals as goal

pub returns : goal.returns
returns c =
    let table = c.args.table.now in
    let name = (key_index_data c.args.index.now).name in
    any_is (λ (x : Row). IsKeyRow table name x) c.args.rows.now c.any.result
    (cases_from_any _ _ _ (λ (x : Row). IsKeyRow table name x) (λ (x : Row). ¬ IsKeyRow table name x)
    c.any.ensures.ran (YieldsList-from_slice c.args.rows.now cc) (λ x q k. search (rules, tests)) (λ x q k. search (rules, tests)))
