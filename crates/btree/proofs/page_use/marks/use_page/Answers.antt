use Rattle.std.proofs.Common.{rules, ◌++◌, [], ◌∷◌, Bool, List, Contains, sym, subst, IsTrue, IsFalse}
use Rattle.btree.specs.page_use.Marks.{AreTreeMarks}
use Rattle.btree.proofs.lemmas.page_use.MarkLemmas.{place_more, used_twice}
use Rattle.btree.proofs.page_use.marks.use_page.Goals as goal

pub returns-clause-marks : goal.returns-clause-marks
returns-clause-marks c =
    let yes : IsTrue c.mark.result = search rules in
    λ pages users done place trees place_is.
    subst (λ (m : List Bool). AreTreeMarks pages users (done ++ place ∷ []) m) (sym (c.mark.ensures.marked yes))
    (place_more pages users done c.args.used.now place c.args.m trees place_is (c.mark.ensures.new yes) c.requires)

pub returns-then-not-mark-clause-twice : goal.returns-then-not-mark-clause-twice
returns-then-not-mark-clause-twice c =
    let no : IsFalse c.mark.result = search rules in
    λ pages users done place trees place_is.
    used_twice pages users (Contains done) c.args.used.now place c.args.m trees.marks_are (c.mark.ensures.twice no) place_is.names place_is.new
