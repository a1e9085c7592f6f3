-- What the rest of a list leaves of what is left, the whole list leaves of what was left before it.
use Rattle.std.proofs.Common.{◌≡◌, drop, map}
use Rattle.sql_reader_grammar.specs.Reading.{definitions_of, results_of, terms_of}
use Rattle.sql_reader.specs.statement_limits.Spending.{after_arms, after_arranged, after_definitions, after_exprs, after_joined, after_results, after_terms}
use Rattle.sql_reader_grammar.specs.statement_trees.TreeView.{arm_of, arranged_of, definition_of, expr_of, joined_of, result_of, term_of}
use Rattle.sql_reader_syntax.specs.ExprTree.{arms_of, trees_of}
use Rattle.sql_reader.proofs.statement_limits.spending.+walk.Given as goal

abbrev pub invariant-behind_exprs-loop-expr : goal.invariant-behind_exprs-loop-expr
invariant-behind_exprs-loop-expr l =
    after_exprs (trees_of (map expr_of (drop l.expr-index l.exprs))) l.left
    ≡ after_exprs (trees_of (map expr_of l.exprs)) l.initial.left

abbrev pub invariant-behind_arms-loop-arm : goal.invariant-behind_arms-loop-arm
invariant-behind_arms-loop-arm l =
    after_arms (arms_of (map arm_of (drop l.arm-index l.arms))) l.left
    ≡ after_arms (arms_of (map arm_of l.arms)) l.initial.left

abbrev pub invariant-behind_terms-loop-term : goal.invariant-behind_terms-loop-term
invariant-behind_terms-loop-term l =
    after_terms (terms_of (map term_of (drop l.term-index l.terms))) l.left
    ≡ after_terms (terms_of (map term_of l.terms)) l.initial.left

abbrev pub invariant-behind_columns-loop-column : goal.invariant-behind_columns-loop-column
invariant-behind_columns-loop-column l =
    after_results (results_of (map result_of (drop l.column-index l.columns))) l.left
    ≡ after_results (results_of (map result_of l.columns)) l.initial.left

abbrev pub invariant-behind_joined-loop-joined : goal.invariant-behind_joined-loop-joined
invariant-behind_joined-loop-joined l =
    after_joined (map joined_of (drop l.joined-index l.others)) l.left
    ≡ after_joined (map joined_of l.others) l.initial.left

abbrev pub invariant-behind_windows-loop-defined : goal.invariant-behind_windows-loop-defined
invariant-behind_windows-loop-defined l =
    after_definitions (definitions_of (map definition_of (drop l.defined-index l.windows))) l.left
    ≡ after_definitions (definitions_of (map definition_of l.windows)) l.initial.left

abbrev pub invariant-behind_arranged-loop-arranged : goal.invariant-behind_arranged-loop-arranged
invariant-behind_arranged-loop-arranged l =
    after_arranged (map arranged_of (drop l.arranged-index l.others)) l.left
    ≡ after_arranged (map arranged_of l.others) l.initial.left
