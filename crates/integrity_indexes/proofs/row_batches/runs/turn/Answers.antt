use Rattle.std.proofs.Common.{SFits, Some, ap, inr, refl, rules, w64}
use Rattle.std.proofs.lemmas.Int.{to_z-of_z}
use Rattle.std.proofs.lemmas.Result.{err_from_is_err_and}
use Rattle.integrity_indexes.proofs.row_batches.runs.turn.Goals as goal

pub returns-in_err-are_placed-clause-placed : goal.returns-in_err-are_placed-clause-placed
returns-in_err-are_placed-clause-placed g c = λ steady values levels tree entries.
    let p = err_from_is_err_and c.from_residual.result c.from_residual.ensures.1 in
    rw (p.1, p.2) (c.in_err-are_placed.ensures.placed steady values levels tree entries)

pub returns-then-not-branch-clause-placed : goal.returns-then-not-branch-clause-placed
returns-then-not-branch-clause-placed g c = λ steady values levels tree entries.
    let fits : SFits w64 c.in-Some.last = search rules in
    let told = rw (to_z-of_z w64 c.in-Some.last fits) at (c.in_ok-are_placed.ensures.placed steady values levels tree entries) in
    record { last = c.in-Some.last; last_is = c.in-Some.is; has = rw c.if-not-branch.true at told }

pub returns-clause-placed : goal.returns-clause-placed
returns-clause-placed g c = λ steady values levels tree entries.
    let fits : SFits w64 c.in-Some.last = search rules in
    let told = rw (to_z-of_z w64 c.in-Some.last fits) at (c.in_ok-are_placed.ensures.placed steady values levels tree entries) in
    inr (record {
      last = c.in-Some.last;
      last_is = c.in-Some.is;
      batch = c.clear.ensures;
      above = ap Some (to_z-of_z w64 c.in-Some.last fits);
      same = refl;
      placed = rw c.if-not-branch.false at told;
    })
