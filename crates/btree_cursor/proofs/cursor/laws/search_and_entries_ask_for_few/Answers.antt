use Rattle.btree_cursor.proofs.lemmas.cursor.StepsLemmas.{entries_behind}
use Rattle.btree_cursor.proofs.cursor.laws.search_and_entries_ask_for_few.Goals as goal

pub returns : goal.returns
returns c = record {
  any = λ old new last root key cursor now m levels sought image on steady values index.
      entries_behind old new image steady levels m last cursor now on root key values sought index;
}
