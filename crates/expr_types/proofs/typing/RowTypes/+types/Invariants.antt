-- The type of what was gone over, with the type of the rest of the list, is that of the whole list.
use Rattle.std.proofs.Common.{◌≡◌, drop}
use Rattle.expr.specs.TermType.{one_of, type_of_terms, type_of_thens, type_of_whens}
use Rattle.expr.specs.Contract.{arm_trees, trees}
use Rattle.expr_types.proofs.typing.RowTypes.+types.Given as goal

abbrev pub invariant-type_of_all-loop-item : goal.invariant-type_of_all-loop-item
invariant-type_of_all-loop-item l =
    one_of l.ty (type_of_terms l.self.columns.now l.self.answers.now (trees (drop l.item-index l.items)))
    ≡ type_of_terms l.self.columns.now l.self.answers.now (trees l.items)

abbrev pub invariant-type_of_whens-loop-arm : goal.invariant-type_of_whens-loop-arm
invariant-type_of_whens-loop-arm l =
    one_of l.ty (type_of_whens l.self.columns.now l.self.answers.now (arm_trees (drop l.arm-index l.rest)))
    ≡ type_of_whens l.self.columns.now l.self.answers.now (arm_trees l.rest)

abbrev pub invariant-type_of_thens-loop-arm : goal.invariant-type_of_thens-loop-arm
invariant-type_of_thens-loop-arm l =
    one_of l.ty (type_of_thens l.self.columns.now l.self.answers.now (arm_trees (drop l.arm-index l.rest)))
    ≡ type_of_thens l.self.columns.now l.self.answers.now (arm_trees l.rest)
