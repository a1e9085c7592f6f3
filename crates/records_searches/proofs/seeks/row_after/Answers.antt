use Rattle.std.proofs.Common.{◌∙◌, ◌+◌, ℤ, false, rules, subst, sym, w64, SFits}
use Rattle.std.proofs.lemmas.Int.{to_z-of_z}
use Rattle.btree.specs.image.Pages.{pages_seen}
use Rattle.btree.specs.image.Shape.{size_under}
use Rattle.btree_cursor.specs.cursor.Search.{HasRowWith}
use Rattle.records_searches.proofs.DirectLemmas.{at_parts}
use Rattle.records_searches.proofs.seeks.row_after.Goals as goal

pub returns-in_ok-cursor-in-At-clause-lands : goal.returns-in_ok-cursor-in-At-clause-lands
returns-in_ok-cursor-in-At-clause-lands g c = λ steady levels searchable.
    let fits : SFits w64 c.in-At.rowid = search rules in
    let sought = c.in_ok-cursor-in-At.ensures.outcome.seeks steady levels searchable in
    rw c.in-At.is (
      record {
        front = sought.0.front;
        rest = sought.0.rest;
        split = rw (to_z-of_z w64 c.in-At.rowid fits) at sought.0.split;
        leads = (c.args.pager.now.state.asked + size_under (pages_seen c.args.pager.now.state) levels c.args.root, sought.0.leads);
      },
      sought.1,
    )

pub returns-in_ok-cursor-in-At-clause-direct : goal.returns-in_ok-cursor-in-At-clause-direct
returns-in_ok-cursor-in-At-clause-direct g c = λ steady levels rowid searchable cut_is there.
    let fits : SFits w64 c.in-At.rowid = search rules in
    let same = at_parts c.in-At.rowid rowid c.in-At.behind false (sym c.in-At.is ∙ cut_is) in
    c.in_ok-cursor-in-At.ensures.outcome.direct steady levels searchable same.1
    (rw (to_z-of_z w64 c.in-At.rowid fits)
    (subst (λ (k : ℤ). HasRowWith (pages_seen c.args.pager.now.state) levels c.args.root k) (sym same.0) there))
