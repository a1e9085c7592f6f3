use Rattle.btree.specs.image.Broken.{HasRowid}
use Rattle.btree.specs.image.Search.{row_before}
use Rattle.btree.specs.declared.image.kind.TreeKind.TheVariants.{Table}
use Rattle.btree.proofs.lemmas.image.RowidLemmas.{one_rowid}
use Rattle.btree.proofs.lemmas.image.RowSearchLemmas.{row_cut}
use Rattle.btree.proofs.lemmas.image.SearchLemmas.{under_before, under_behind}
use Rattle.btree.proofs.lemmas.image.TableLemmas.{rowids}
use Rattle.btree.proofs.image.laws.search_in_table.Goals as goal

pub returns-clause-before : goal.returns-clause-before
returns-clause-before c = λ pages root behind key order height depth n p i x stands shape b less h.
    under_before (HasRowid pages) _ _ pages Table root (rowids pages) (one_rowid pages) order (row_before behind key) (row_cut behind key) height depth n stands shape p b i less x h

pub returns-clause-behind : goal.returns-clause-behind
returns-clause-behind c = λ pages root behind key order height depth n p i x stands shape b more within h.
    under_behind (HasRowid pages) _ _ pages Table root (rowids pages) (one_rowid pages) order (row_before behind key) (row_cut behind key) height depth n stands shape p b i more within x h
