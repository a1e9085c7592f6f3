use Rattle.btree_cursor.proofs.lemmas.cursor.StepsLemmas.{rows_behind, rows_direct}
use Rattle.btree_cursor.proofs.cursor.laws.search_and_rows_ask_for_few.Goals as goal

pub returns : goal.returns
returns c = record {
  any = λ old new last root behind rowid cursor now m levels sought image on steady table.
      rows_behind old new image steady levels m last cursor now on root behind rowid sought table;
  direct = λ old new last root behind rowid cursor now m levels sought image on steady table exact has.
      rows_direct old new image steady levels m last cursor now on root behind rowid sought table exact has;
}
