use Rattle.integrity.specs.Indexes.{columns_of, descends_of}
use Rattle.integrity.proofs.ListedLemmas.{listed}
use Rattle.integrity.proofs.laws.listed_rows_are_the_tables.Goals as goal

pub returns : goal.returns
returns c = record {
  same = λ pages tables index counts lists rows holds.
      listed pages lists.counted.owned.table (columns_of index) index.condition (descends_of index) counts.tree.levels index.root lists.rows lists.holds rows holds;
}
