use Rattle.std.proofs.Common.{◌≡◌, ◌∙◌, length, arith, rules, w64, SFits}
use Rattle.std.proofs.lemmas.Int.{to_z-of_z}
use Rattle.values.specs.Datum.{int}
use Rattle.btree_cursor.specs.key_ranges.View.{edge_option}
use Rattle.records_searches.proofs.MeetsLemmas.{alone_free, alone_wide}
use Rattle.records_searches.proofs.meets.rowid_meets.Goals as goal

pub returns-in-empty : goal.returns-in-empty
returns-in-empty c =
    let bounds = c.args.bounds.now in
    let none : length bounds.equal.now ≡ 0 = omega arith in
    let fits : SFits w64 c.args.rowid = search rules in
    let between = rw (to_z-of_z w64 c.args.rowid fits) at c.is_between.ensures in
    between ∙ alone_free (edge_option bounds.lower) (edge_option bounds.upper) (int c.args.rowid) bounds.equal.now none

pub returns-in-len2-up : goal.returns-in-len2-up
returns-in-len2-up c =
    let bounds = c.args.bounds.now in
    alone_wide (edge_option bounds.lower) (edge_option bounds.upper) (int c.args.rowid) bounds.equal.now c.in-len2-up.len_at_least
