use Rattle.records_searches.proofs.row_cuts.RowCut.of_end.Goals as goal

pub returns-in-Some : goal.returns-in-Some
returns-in-Some c = λ rowid is. rw c.in-Some.is (c.of.ensures.before rowid is)
