use Rattle.std.proofs.Common.{rules, tests}
use Rattle.std.proofs.lemmas.Iterator.{YieldsList-from_slice, cases_from_any}
use Rattle.schema.specs.Keyed.{HasKeyRows, LacksRow}
use Rattle.schema.specs.KeyedView.{keyed_data}
use Rattle.schema.specs.declared.keyed.KeyedTable.{KeyedTable}
use Rattle.schema.proofs.SearchLemmas.{either_way}
use Rattle.schema.proofs.keyed.lack_row.Goals as goal

pub returns : goal.returns
returns c =
    let rows = c.args.rows.now in
    either_way keyed_data (LacksRow rows) (HasKeyRows rows) c.args.tables.now c.any.result
    (cases_from_any _ _ _ (λ (k : KeyedTable). LacksRow rows (keyed_data k)) (λ (k : KeyedTable). HasKeyRows rows (keyed_data k))
    c.any.ensures.ran (YieldsList-from_slice c.args.tables.now cc) (λ x q k. search (rules, tests)) (λ x q k. search (rules, tests)))
