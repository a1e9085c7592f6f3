use Rattle.std.proofs.Common.{◌↔◌, IsTrue}
use Rattle.records_tables.specs.primary_rows.Rows.{told_values}
use Rattle.records_tables.proofs.lemmas.primary_rows.ToldLemmas.{AreFit, AreKnown}
use Rattle.records_tables.proofs.primary_rows.rows.fits.Given as goal

abbrev pub invariant-loop-i : goal.invariant-loop-i
invariant-loop-i l = record {
  known : AreKnown (told_values l.table l.fields) l.i;
  fit : IsTrue l.fit ↔ AreFit l.table.columns (told_values l.table l.fields) l.i;
}
