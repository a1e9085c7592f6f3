use Rattle.std.proofs.Common.{rules, SFits, w64}
use Rattle.std.proofs.lemmas.Int.{to_z-of_z}
use Rattle.windows_groups.proofs.LimitLemmas.{looked_at}
use Rattle.windows_groups.proofs.limits.rows_looked_at.Goals as goal

pub returns-in-Some : goal.returns-in-Some
returns-in-Some c = λ rows.
    let limit : SFits w64 c.in-Some.limit = search rules in
    let offset : SFits w64 c.args.offset = search rules in
    let most : SFits w64 c.max.result = search rules in
    rw (c.in-Some.is, to_z-of_z w64 c.in-Some.limit limit, to_z-of_z w64 c.max.result most)
    (looked_at c.in-Some.limit c.args.offset c.max.result rows (rw (to_z-of_z w64 c.in-Some.limit limit) at c.if-limit-ge0.true) (rw (to_z-of_z w64 c.args.offset offset) at c.max.ensures.value))
