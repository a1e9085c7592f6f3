use Rattle.std.proofs.Common.{◌∙◌, Vec, Global, ap, length, map}
use Rattle.std.proofs.lemmas.List.{length-map}
use Rattle.values.specs.Datum.{datum_of}
use Rattle.values.specs.Row.{rows_data}
use Rattle.values.specs.declared.value.Value.{Value}
use Rattle.operators.proofs.gathered_rows.GatheredRows.new.Goals as goal

pub returns-clause-rows : goal.returns-clause-rows
returns-clause-rows c = ap rows_data c.into_iter.ensures.rest

pub returns-clause-count : goal.returns-clause-count
returns-clause-count c =
    ap (λ rows. length (rows_data rows)) c.into_iter.ensures.rest ∙ length-map c.args.rows.items (λ (row : Vec Value Global). map datum_of row.items)
