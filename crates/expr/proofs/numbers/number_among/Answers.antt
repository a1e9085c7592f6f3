use Rattle.std.proofs.Common.{◌≡◌, ◌∙◌, Some, SFits, ap, map, rules, sym, w64}
use Rattle.values.specs.Datum.{datum_of, int}
use Rattle.expr.specs.Filled.{literals}
use Rattle.expr.specs.Meaning.{exact}
use Rattle.expr.specs.Term.{among}
use Rattle.expr.specs.View.{term}
use Rattle.expr.specs.declared.tree.Expr.TheFolds.{fold-roll-Expr, fold_out-Expr}
use Rattle.expr.specs.declared.tree.Expr.TheViews.{the_lemmas}
use Rattle.expr.specs.operations.Operations.{any_equal, condition}
use Rattle.expr.proofs.MemberLemmas.{member_on}
use Rattle.expr.proofs.numbers.number_among.Goals as goal

pub returns : goal.returns
returns c =
    let row = map datum_of c.args.row.now in
    let n = c.in_ok-number.number in
    let fits : SFits w64 n = search rules in
    let x : exact (term c.in-Member.x.value) row ≡ Some (int n) = search rules in
    let found : c.any_equal_number.result ≡ any_equal (int n) c.in-Member.set.value = search rules in
    let tree : term c.args.e.now ≡ among (term c.in-Member.x.value) (literals c.in-Member.set.value) = search (rules, the_lemmas, fold-roll-Expr, fold_out-Expr) in
    ap (λ t. exact t row) tree ∙ member_on row (term c.in-Member.x.value) c.in-Member.set.value (int n) x ∙ ap (λ r. Some (condition r)) (sym found)
