use Rattle.std.proofs.Common.{◌≡◌, false, subst}
use Rattle.std.specs.Prelude.{◌↔◌, IsTrue}
use Rattle.expr.specs.View.{term}
use Rattle.index_choice.proofs.ImplyLemmas.{tested}
use Rattle.index_choice.proofs.conditions.implies.Goals as goal

pub returns-else-same_tree-clause-test : goal.returns-else-same_tree-clause-test
returns-else-same_tree-clause-test c =
    let conjunct = term c.args.conjunct.now in
    let condition = term c.args.condition.now in
    let both : IsTrue false ↔ (conjunct ≡ condition) = subst (λ r. IsTrue r ↔ (conjunct ≡ condition)) c.if-same_tree.false c.same_tree.ensures in
    tested c.same_is_equal.ensures.terms conjunct condition false c.compares_not_null.result both c.compares_not_null.ensures
