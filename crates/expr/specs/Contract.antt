-- What calls answer.
use Rattle.std.specs.Prelude.{List, map, Option}
use Rattle.values.specs.declared.value.Value.{Value}
use Rattle.expr.specs.declared.tree.Expr.{Expr}
use Rattle.values.specs.Datum.{Datum, datum_of}
use Rattle.expr.specs.declared.tree.Arm.{Arm}
use Rattle.expr.specs.Term.{Terms, Arms}
use Rattle.expr.specs.Meaning.{exact}
use Rattle.expr.specs.View.{term, terms, arms, arm_terms}

abbrev pub trees : List Expr → Terms
trees es = terms (map term es)

abbrev pub arm_trees : List Arm → Arms
arm_trees rest = arms (map arm_terms rest)

-- the value of an expression on a row, or none where an operation out of range is reached
abbrev pub value_on : List Value → Expr → Option Datum
value_on row e = exact (term e) (map datum_of row)
