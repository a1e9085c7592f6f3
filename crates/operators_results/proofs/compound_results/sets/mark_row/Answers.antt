use Rattle.std.proofs.Common.{◌∙◌, sym}
use Rattle.operators_results.proofs.lemmas.compound_results.SetLemmas.{none_marked, row_marked}
use Rattle.operators_results.proofs.compound_results.sets.mark_row.Goals as goal

pub returns-then-at-len : goal.returns-then-at-len
returns-then-at-len c = λ rows are.
    row_marked c.args.row.now rows c.args.set.now.keys c.args.marks.now.items c.in-Some.at c.requires (sym c.in-Some.ensures.found) c.in-Some.ensures.index are

pub returns-in_default : goal.returns-in_default
returns-in_default c = λ rows are. are ∙ none_marked c.args.row.now rows c.args.set.now.keys (sym c.in_default.ensures.found)
