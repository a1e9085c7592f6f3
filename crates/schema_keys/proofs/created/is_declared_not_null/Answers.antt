use Rattle.std.proofs.Common.{rules, tests, ◌≡◌}
use Rattle.std.proofs.lemmas.Iterator.{YieldsList-from_slice, cases_from_any}
use Rattle.sql_reader_grammar.specs.create_trees.CreateTrees.{ConstraintTree}
use Rattle.sql_reader_grammar.specs.create_trees.CreateView.{constraint_of}
use Rattle.schema_keys.proofs.ColumnLemmas.{contains_constraint, not_null_is, not_null_other}
use Rattle.schema_keys.proofs.ListLemmas.{any_is}
use Rattle.schema_keys.proofs.created.is_declared_not_null.Goals as goal

pub returns : goal.returns
returns c =
    let constraints = c.args.column.now.constraints.items in
    contains_constraint constraints ConstraintTree.NotNull c.any.result
    (any_is (λ x. constraint_of x ≡ ConstraintTree.NotNull) constraints c.any.result
    (cases_from_any _ _ _ (λ x. constraint_of x ≡ ConstraintTree.NotNull) (λ x. ¬ (constraint_of x ≡ ConstraintTree.NotNull))
    c.any.ensures.ran (YieldsList-from_slice constraints cc) (λ x q k. not_null_is (constraint_of x.now) (search (rules, tests)))
    (λ x q k. (search (rules, tests), not_null_other (constraint_of x.now) (search (rules, tests))))))
