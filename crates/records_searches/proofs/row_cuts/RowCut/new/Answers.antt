use Rattle.std.proofs.Common.{◌≡◌, ◌∙◌, length, arith}
use Rattle.btree_cursor.specs.key_ranges.View.{cut}
use Rattle.records_searches.specs.RowCuts.{row_comes_before}
use Rattle.records_searches.proofs.CutLemmas.{first_alone, first_value, no_value, tail_alone}
use Rattle.records_searches.proofs.row_cuts.RowCut.new.Goals as goal

pub returns-in-len1-up-clause-before : goal.returns-in-len1-up-clause-before
returns-in-len1-up-clause-before c = λ rowid is short.
    first_alone c.args.end.behind (row_comes_before c.of.result rowid) rowid (cut c.args.end).key c.args.equal.now c.value-item.result
    c.in-len1-up.len_at_least c.value-item.is short (rw c.as_ref.ensures at (c.of.ensures.before rowid is))

pub returns-in-len1-up-clause-at : goal.returns-in-len1-up-clause-at
returns-in-len1-up-clause-at c = λ rowid others are.
    c.of.ensures.at rowid
    (c.as_ref.ensures ∙ first_value c.args.equal.now c.value-item.result rowid others c.in-len1-up.len_at_least c.value-item.is are)

pub returns-in-empty-clause-before : goal.returns-in-empty-clause-before
returns-in-empty-clause-before c = λ rowid is short.
    let none : length c.args.equal.now ≡ 0 = omega arith in
    tail_alone c.args.end.behind (row_comes_before c.of_end.result rowid) rowid (cut c.args.end).key c.args.equal.now none (c.of_end.ensures rowid is)

pub returns-in-empty-clause-at : goal.returns-in-empty-clause-at
returns-in-empty-clause-at c = λ rowid others are.
    let none : length c.args.equal.now ≡ 0 = omega arith in
    absurd (no_value c.args.equal.now rowid others none are)
