use Rattle.std.proofs.Common.{rules, ◌≡◌, ◌∙◌, ◌++◌, [], ◌∷◌, ap, length}
use Rattle.values.specs.Datum.{Datum, datum_of_ref}
use Rattle.records_tables.specs.primary_rows.Rows.{told_values}
use Rattle.integrity_indexes.proofs.lemmas.index_rows.LookLemmas.{told_all, told_more}
use Rattle.integrity_indexes.proofs.index_rows.rows.row_of.Goals as goal

pub loop-column-preserved : goal.loop-column-preserved
loop-column-preserved c =
    told_more (told_values c.args.table.now c.args.fields.now) c.loop-column.row c.push.new.self c.loop-column.column (datum_of_ref c.in-Some.value)
    c.in-Some.ensures.found c.loop-column.invariant
    (c.in_ok-push.ensures.ok ∙ ap (λ (d : Datum). c.loop-column.row ++ d ∷ []) c.in_ok-to_value.ensures)

pub returns-clause-found : goal.returns-clause-found
returns-clause-found c =
    let end : c.loop-column.column ≡ length c.args.table.now.columns = search rules in
    told_all c.args.table.now c.args.fields.now c.loop-column.row c.loop-column.column end c.loop-column.invariant
