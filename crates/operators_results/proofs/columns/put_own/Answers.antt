use Rattle.std.proofs.Common.{rules, ◌<◌, ℕ, Ok, length}
use Rattle.values.specs.Datum.{datum_of}
use Rattle.operators_scan.proofs.lemmas.scan.CellLemmas.{put_over}
use Rattle.operators_results.proofs.columns.put_own.Goals as goal

pub returns-then-at-len-clause-value : goal.returns-then-at-len-clause-value
returns-then-at-len-clause-value c =
    let within : c.args.at < length c.args.row.now.items = search rules in
    put_over {T = ℕ} {E = ℕ} c.args.row.now.items c.args.at c.args.value (datum_of c.args.value) within (Ok 0) (λ i. datum_of c.args.value)
