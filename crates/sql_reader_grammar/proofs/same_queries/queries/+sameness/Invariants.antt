-- The lists are the same where what is left of each is.
use Rattle.sql_reader_grammar.proofs.lemmas.same_queries.ListLemmas.{AreSame}
use Rattle.sql_reader_grammar.specs.statement_trees.TreeView.{arm_of, arranged_of, definition_of, expr_of, joined_of, result_of, term_of}
use Rattle.sql_reader_grammar.proofs.same_queries.queries.+sameness.Given as goal

abbrev pub invariant-same_exprs-loop-x : goal.invariant-same_exprs-loop-x
invariant-same_exprs-loop-x l = AreSame expr_of l.a l.b l.rest l.x-index

abbrev pub invariant-same_arms-loop-x : goal.invariant-same_arms-loop-x
invariant-same_arms-loop-x l = AreSame arm_of l.a l.b l.rest l.x-index

abbrev pub invariant-same_terms-loop-x : goal.invariant-same_terms-loop-x
invariant-same_terms-loop-x l = AreSame term_of l.a l.b l.rest l.x-index

abbrev pub invariant-same_results-loop-x : goal.invariant-same_results-loop-x
invariant-same_results-loop-x l = AreSame result_of l.a l.b l.rest l.x-index

abbrev pub invariant-same_joins-loop-x : goal.invariant-same_joins-loop-x
invariant-same_joins-loop-x l = AreSame joined_of l.a l.b l.rest l.x-index

abbrev pub invariant-same_definitions-loop-x : goal.invariant-same_definitions-loop-x
invariant-same_definitions-loop-x l = AreSame definition_of l.a l.b l.rest l.x-index

abbrev pub invariant-same_compounds-loop-x : goal.invariant-same_compounds-loop-x
invariant-same_compounds-loop-x l = AreSame arranged_of l.a l.b l.rest l.x-index
