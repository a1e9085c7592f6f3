-- The parts so far, before those of what is left, are those of all behind what was found before.
use Rattle.std.proofs.Common.{◌≡◌, ◌++◌, drop, map}
use Rattle.resolver_exprs.specs.expression_parts.Found.{found_in}
use Rattle.sql_reader_grammar.specs.Reading.{terms_of}
use Rattle.semantics_names.specs.Parts as spec
use Rattle.sql_reader_grammar.specs.statement_trees.TreeView.{arm_of, expr_of, term_of}
use Rattle.sql_reader_syntax.specs.ExprTree.{arms_of, trees_of}
use Rattle.resolver_exprs.proofs.expression_parts.expressions.+parts.Given as goal

abbrev pub invariant-all_parts-loop-item : goal.invariant-all_parts-loop-item
invariant-all_parts-loop-item l =
    found_in l.found ++ spec.all_parts (trees_of (map expr_of (drop l.item-index l.items)))
    ≡ found_in l.initial.found ++ spec.all_parts (trees_of (map expr_of l.items))

abbrev pub invariant-arms_parts-loop-arm : goal.invariant-arms_parts-loop-arm
invariant-arms_parts-loop-arm l =
    found_in l.found ++ spec.arms_parts (arms_of (map arm_of (drop l.arm-index l.arms)))
    ≡ found_in l.initial.found ++ spec.arms_parts (arms_of (map arm_of l.arms))

abbrev pub invariant-terms_parts-loop-term : goal.invariant-terms_parts-loop-term
invariant-terms_parts-loop-term l =
    found_in l.found ++ spec.terms_parts (terms_of (map term_of (drop l.term-index l.terms)))
    ≡ found_in l.initial.found ++ spec.terms_parts (terms_of (map term_of l.terms))
