use Rattle.std.proofs.Common.{◌∙◌, Some, SFits, ap, rules, sym, w64}
use Rattle.std.proofs.lemmas.Int.{to_z-of_z}
use Rattle.expr.specs.operations.Operations.{comparison, is_null, test_of}
use Rattle.expr.proofs.operations.operations.integers_compare.Goals as goal

pub returns : goal.returns
unfolding comparison is_null
returns c =
    let left : SFits w64 c.args.x = search rules in
    let right : SFits w64 c.args.y = search rules in
    ap Some (sym (c.test.ensures ∙ ap (test_of c.args.op) (rw (to_z-of_z w64 c.args.x left, to_z-of_z w64 c.args.y right) at c.cmp.ensures)))
