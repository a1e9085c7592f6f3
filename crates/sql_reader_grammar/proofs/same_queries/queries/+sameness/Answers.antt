use Rattle.std.proofs.Common.{◌≡◌, map, string_bytes, rules, ap, sym, ◌∙◌}
use Rattle.sql_reader_grammar.proofs.lemmas.same_queries.ListLemmas.{list_end, list_step}
use Rattle.sql_reader_grammar.specs.declared.statement_trees.expressions.Expr.TheFolds.{fold-roll-JoinCondition, fold_out-JoinCondition}
use Rattle.sql_reader_grammar.specs.declared.statement_trees.expressions.Expr.TheViews.{the_lemmas}
use Rattle.sql_reader_syntax.specs.ExprTree.{OnTree}
use Rattle.sql_reader_grammar.specs.statement_trees.TreeView.{arm_of, arranged_of, definition_of, expr_of, joined_of, on_of, result_of, term_of}
use Rattle.sql_reader_grammar.proofs.same_queries.queries.+sameness.Goals as goal

pub same_exprs-returns : goal.same_exprs-returns
same_exprs-returns t c =
    list_end expr_of c.args.a.now c.args.b.now c.loop-x.rest.now c.loop-x.x-index _ (search rules) c.is_empty.ensures c.loop-x.invariant

pub same_exprs-loop-x-preserved : goal.same_exprs-loop-x-preserved
same_exprs-loop-x-preserved t c =
    list_step expr_of c.args.a.now c.args.b.now c.loop-x.rest.now c.in-Some.later.now c.loop-x.x-index c.x-item.result c.in-Some.y.now
    c.loop-x-test.true c.x-item.is (search rules) (c.same_expr.ensures c.if-same_expr.true) c.loop-x.invariant

pub same_arms-returns : goal.same_arms-returns
same_arms-returns t c =
    list_end arm_of c.args.a.now c.args.b.now c.loop-x.rest.now c.loop-x.x-index _ (search rules) c.is_empty.ensures c.loop-x.invariant

pub same_arms-loop-x-preserved : goal.same_arms-loop-x-preserved
same_arms-loop-x-preserved t c =
    list_step arm_of c.args.a.now c.args.b.now c.loop-x.rest.now c.in-Some.later.now c.loop-x.x-index c.x-item.result c.in-Some.y.now
    c.loop-x-test.true c.x-item.is (search rules) (c.same_arm.ensures c.if-same_arm.true) c.loop-x.invariant

pub same_terms-returns : goal.same_terms-returns
same_terms-returns t c =
    list_end term_of c.args.a.now c.args.b.now c.loop-x.rest.now c.loop-x.x-index _ (search rules) c.is_empty.ensures c.loop-x.invariant

pub same_terms-loop-x-preserved : goal.same_terms-loop-x-preserved
same_terms-loop-x-preserved t c =
    list_step term_of c.args.a.now c.args.b.now c.loop-x.rest.now c.in-Some.later.now c.loop-x.x-index c.x-item.result c.in-Some.y.now
    c.loop-x-test.true c.x-item.is (search rules) (c.same_term.ensures c.if-same_term.true) c.loop-x.invariant

pub same_results-returns : goal.same_results-returns
same_results-returns t c =
    list_end result_of c.args.a.now c.args.b.now c.loop-x.rest.now c.loop-x.x-index _ (search rules) c.is_empty.ensures c.loop-x.invariant

pub same_results-loop-x-preserved : goal.same_results-loop-x-preserved
same_results-loop-x-preserved t c =
    list_step result_of c.args.a.now c.args.b.now c.loop-x.rest.now c.in-Some.later.now c.loop-x.x-index c.x-item.result c.in-Some.y.now
    c.loop-x-test.true c.x-item.is (search rules) (c.same_result.ensures c.if-same_result.true) c.loop-x.invariant

pub same_joins-returns : goal.same_joins-returns
same_joins-returns t c =
    list_end joined_of c.args.a.now c.args.b.now c.loop-x.rest.now c.loop-x.x-index _ (search rules) c.is_empty.ensures c.loop-x.invariant

pub same_joins-loop-x-preserved : goal.same_joins-loop-x-preserved
same_joins-loop-x-preserved t c =
    list_step joined_of c.args.a.now c.args.b.now c.loop-x.rest.now c.in-Some.later.now c.loop-x.x-index c.x-item.result c.in-Some.y.now
    c.loop-x-test.true c.x-item.is (search rules) (c.same_joined.ensures c.if-same_joined.true) c.loop-x.invariant

pub same_definitions-returns : goal.same_definitions-returns
same_definitions-returns t c =
    list_end definition_of c.args.a.now c.args.b.now c.loop-x.rest.now c.loop-x.x-index _ (search rules) c.is_empty.ensures c.loop-x.invariant

pub same_definitions-loop-x-preserved : goal.same_definitions-loop-x-preserved
same_definitions-loop-x-preserved t c =
    list_step definition_of c.args.a.now c.args.b.now c.loop-x.rest.now c.in-Some.later.now c.loop-x.x-index c.x-item.result c.in-Some.y.now
    c.loop-x-test.true c.x-item.is (search rules) (c.same_definition.ensures c.if-same_definition.true) c.loop-x.invariant

pub same_compounds-returns : goal.same_compounds-returns
same_compounds-returns t c =
    list_end arranged_of c.args.a.now c.args.b.now c.loop-x.rest.now c.loop-x.x-index _ (search rules) c.is_empty.ensures c.loop-x.invariant

pub same_compounds-loop-x-preserved : goal.same_compounds-loop-x-preserved
same_compounds-loop-x-preserved t c =
    list_step arranged_of c.args.a.now c.args.b.now c.loop-x.rest.now c.in-Some.later.now c.loop-x.x-index c.x-item.result c.in-Some.y.now
    c.loop-x-test.true c.x-item.is (search rules) (c.same_arranged.ensures c.if-same_arranged.true) c.loop-x.invariant

pub same_condition-returns-in-Using-b : goal.same_condition-returns-in-Using-b
same_condition-returns-in-Using-b t c same =
    let a : on_of c.args.a.now ≡ OnTree.Using (map (λ name. string_bytes name) c.as_slice.result.now)
    = search (rules, the_lemmas, fold-roll-JoinCondition, fold_out-JoinCondition) in
    let b : on_of c.args.b.now ≡ OnTree.Using (map (λ name. string_bytes name) c.as_slice-in-Using-b.result.now)
    = search (rules, the_lemmas, fold-roll-JoinCondition, fold_out-JoinCondition) in
    a ∙ ap OnTree.Using (c.same_names.ensures same) ∙ sym b

pub same_core-same_definitions-requires : goal.same_core-same_definitions-requires
same_core-same_definitions-requires t c = search (rules, the_lemmas)
