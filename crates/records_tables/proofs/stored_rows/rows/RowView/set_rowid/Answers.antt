use Rattle.std.proofs.Common.{SFits, rules, w64}
use Rattle.std.proofs.lemmas.Int.{to_z-of_z}
use Rattle.values.specs.Datum.{datum_of_ref}
use Rattle.values.specs.declared.value.ValueRef.TheVariants.{Int}
use Rattle.records_tables.proofs.lemmas.stored_rows.FilledLemmas.{map_set}
use Rattle.records_tables.proofs.stored_rows.rows.RowView.set_rowid.Goals as goal

pub returns-in-Some-Some : goal.returns-in-Some-Some
returns-in-Some-Some c =
    let fits : SFits w64 c.in-Some-Some.rowid = search rules in
    rw (c.in-Some-Some.is-0, c.in-Some-Some.is-1, ← c.self.view_is, to_z-of_z w64 c.in-Some-Some.rowid fits)
    (map_set datum_of_ref c.self.inside.values.items c.in-Some-Some.key (Int c.in-Some-Some.rowid))
