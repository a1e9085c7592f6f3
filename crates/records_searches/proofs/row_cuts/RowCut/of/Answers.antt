use Rattle.std.proofs.Common.{◌∙◌, sym, rules, w64, SFits}
use Rattle.std.proofs.lemmas.Int.{to_z-of_z}
use Rattle.records_searches.proofs.CutLemmas.{at_least, at_null, at_rowid, before_all}
use Rattle.records_searches.proofs.row_cuts.RowCut.of.Goals as goal

pub returns-in-Int-clause-before : goal.returns-in-Int-clause-before
returns-in-Int-clause-before c = λ rowid is.
    let fits : SFits w64 c.in-Int.rowid = search rules in
    rw (c.in-Int.is, to_z-of_z w64 c.in-Int.rowid fits) (at_rowid c.args.behind c.in-Int.rowid rowid)

pub returns-in-Null-clause-before : goal.returns-in-Null-clause-before
returns-in-Null-clause-before c = λ rowid is. rw c.in-Null.is (at_null c.args.behind rowid ∙ sym (at_least rowid is))

pub returns-in-Text-clause-before : goal.returns-in-Text-clause-before
returns-in-Text-clause-before c = λ rowid is. rw c.in-Text.is (before_all c.args.behind)

pub returns-in-Blob-clause-before : goal.returns-in-Blob-clause-before
returns-in-Blob-clause-before c = λ rowid is. rw c.in-Blob.is (before_all c.args.behind)
