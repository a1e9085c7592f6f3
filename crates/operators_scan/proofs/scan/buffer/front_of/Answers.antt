use Rattle.std.proofs.Common.{rules, ◌∙◌, length, refl}
use Rattle.operators_scan.proofs.lemmas.scan.CellLemmas.{front_is, take_datums}
use Rattle.operators_scan.proofs.scan.buffer.front_of.Goals as goal

pub returns : goal.returns
returns c =
    take_datums c.min.result c.args.row.now ∙ front_is c.args.count (length c.args.row.now) c.min.result c.args.row.now (search rules) refl
