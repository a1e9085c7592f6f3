use Rattle.std.proofs.Common.{◌≡◌, ◌∷◌, rules}
use Rattle.std.proofs.lemmas.Result.{err_from_is_err_and}
use Rattle.std.specs.List.{flat_map}
use Rattle.values.specs.Literal.{literal}
use Rattle.values.proofs.SinkLemmas.{Writes-then, Writes-cut}
use Rattle.explain.specs.Text.{after_comma}
use Rattle.explain.proofs.LineLemmas.{literals-first}
use Rattle.explain.proofs.lines.write_values.Goals as goal

pub returns-in_err-write-clause-writes : goal.returns-in_err-write-clause-writes
returns-in_err-write-clause-writes g c =
    let datum = g.V.Shown.datum in
    let first = c.in-Some.first.now in
    let others = c.in-Some.others.now in
    let split : c.args.values.now ≡ first ∷ others = search rules in
    let p = err_from_is_err_and c.from_residual.result c.from_residual.ensures.1 in
    rw (p.1, p.2, split, literals-first datum first others)
    (Writes-cut {U = Unit {0}} _ (literal (datum first)) (flat_map (λ v. after_comma (datum v)) others) _ _ c.in_err-write.ensures.writes)

pub returns-clause-writes : goal.returns-clause-writes
returns-clause-writes g c =
    let datum = g.V.Shown.datum in
    let first = c.in-Some.first.now in
    let others = c.in-Some.others.now in
    let split : c.args.values.now ≡ first ∷ others = search rules in
    rw (split, literals-first datum first others)
    (Writes-then _ _ (literal (datum first)) (flat_map (λ v. after_comma (datum v)) others) _ _ _
    c.in_ok-write.ensures.writes c.write_others.ensures.writes)
