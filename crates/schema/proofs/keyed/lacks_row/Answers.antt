use Rattle.std.proofs.Common.{rules, tests}
use Rattle.std.proofs.lemmas.Iterator.{YieldsList-from_slice, cases_from_any}
use Rattle.schema.specs.indexes.KeyIndexView.{key_index_data}
use Rattle.schema.specs.declared.indexes.key_indexes.KeyIndex.{KeyIndex}
use Rattle.schema.specs.Wanted.{HasKeyRow}
use Rattle.schema.proofs.SearchLemmas.{either_way}
use Rattle.schema.proofs.keyed.lacks_row.Goals as goal

pub returns : goal.returns
returns c =
    let rows = c.args.rows.now in
    let table = c.args.keyed.now.table.name in
    either_way key_index_data (λ w. ¬ HasKeyRow rows table w.name) (λ w. HasKeyRow rows table w.name) c.args.keyed.now.wanted.items c.any.result
    (cases_from_any _ _ _ (λ (w : KeyIndex). ¬ HasKeyRow rows table (key_index_data w).name) (λ (w : KeyIndex). HasKeyRow rows table (key_index_data w).name)
    c.any.ensures.ran (YieldsList-from_slice c.args.keyed.now.wanted.items cc) (λ x q k. search (rules, tests)) (λ x q k. search (rules, tests)))
