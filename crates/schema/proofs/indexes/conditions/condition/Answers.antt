use Rattle.std.proofs.Common.{◌≡◌, inr, true, ◌∙◌}
use Rattle.std.proofs.lemmas.Result.{err_from_is_err_and}
use Rattle.expr.specs.View.{term}
use Rattle.schema.proofs.lemmas.indexes.ConditionLemmas.{is_condition, no_condition, no_term}
use Rattle.sql_reader_grammar.specs.statement_trees.TreeView.{expr_of}
use Rattle.schema.proofs.indexes.conditions.condition.Goals as goal

pub returns-in_err-condition-clause-refused : goal.returns-in_err-condition-clause-refused
returns-in_err-condition-clause-refused c =
    let p = err_from_is_err_and c.from_residual.result c.from_residual.ensures.1 in
    rw (p.1, p.2) (no_term c.args.table.now (expr_of c.args.tree.now) c.in_err-condition.field-0.0 c.in_err-condition.ensures)

pub returns-then-is_whole-clause-made : goal.returns-then-is_whole-clause-made
returns-then-is_whole-clause-made c =
    is_condition c.args.table.now (expr_of c.args.tree.now) (term c.in_ok-condition.condition) c.as_slice.result.now
    c.type_of.result c.in_ok-condition.ensures (c.as_slice.ensures.value ∙ c.in_ok-types.ensures) c.type_of.ensures
    (c.is_whole.ensures.0 c.if-is_whole.true)

pub returns-else-is_whole-clause-refused : goal.returns-else-is_whole-clause-refused
returns-else-is_whole-clause-refused c =
    inr
    (no_condition c.args.table.now (expr_of c.args.tree.now) (term c.in_ok-condition.condition) c.as_slice.result.now
    c.type_of.result c.in_ok-condition.ensures (c.as_slice.ensures.value ∙ c.in_ok-types.ensures) c.type_of.ensures
    (λ fits. let h : c.is_whole.result ≡ true = c.is_whole.ensures.1 fits in let f = c.if-is_whole.false in absurd cc))
