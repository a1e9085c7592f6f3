-- What stands in a copy for the leaves of an expression.
use Rattle.std.specs.Prelude.{ℕ}
use Rattle.values.specs.Row.{rows_data}
use Rattle.expr.specs.Filled.{answered, unanswered}
use Rattle.expr.specs.Leaves.{leaves_of_all, leaves_of_arms, leaves_of_firsts, place_in, with_leaves}
use Rattle.expr.specs.Term.{Term, Terms, Arms, answer}
use Rattle.expr.specs.declared.copies.Leaves.{Leaves}
use Rattle.expr.specs.declared.copies.Leaves.TheVariants.{Same, Answered, Placed}

abbrev pub column_in : Leaves → ℕ → ℕ
column_in Same = λ i. i
column_in (Answered answers) = λ i. i
column_in (Placed read) = place_in read.now

abbrev pub answer_in : Leaves → ℕ → Terms
answer_in Same = answer
answer_in (Answered answers) = answered (rows_data answers.now)
answer_in (Placed read) = unanswered

abbrev pub first_in : Leaves → ℕ → Terms
first_in Same = answer
first_in (Answered answers) = unanswered
first_in (Placed read) = unanswered

abbrev pub copied : Leaves → Term → Term
copied leaves = with_leaves (column_in leaves) (answer_in leaves) (first_in leaves)

abbrev pub copied_all : Leaves → Terms → Terms
copied_all leaves = leaves_of_all (column_in leaves) (answer_in leaves) (first_in leaves)

abbrev pub copied_firsts : Leaves → Terms → Terms
copied_firsts leaves = leaves_of_firsts (column_in leaves) (answer_in leaves) (first_in leaves)

abbrev pub copied_arms : Leaves → Arms → Arms
copied_arms leaves = leaves_of_arms (column_in leaves) (answer_in leaves) (first_in leaves)
