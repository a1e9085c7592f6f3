use Rattle.integrity_trees.proofs.lemmas.entry_prefixes.EntryLemmas.{still_repeated}
use Rattle.integrity_trees.proofs.entry_prefixes.laws.unique_index_has_no_repeats.Goals as goal

pub returns : goal.returns
returns c = record {
  unique = λ pages root columns unique repeats.
      unique.unique (still_repeated pages root unique.entries repeats.entries unique.entries_are repeats.entries_are columns repeats.repeated);
}
