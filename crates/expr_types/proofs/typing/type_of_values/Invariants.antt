-- The type of the values that were gone over, with that of the rest, is that of all of them.
use Rattle.std.proofs.Common.{◌≡◌, List, drop, map}
use Rattle.values.specs.Datum.{datum_of}
use Rattle.values.specs.declared.value.Ty.{Ty}
use Rattle.expr.specs.Filled.{literals}
use Rattle.expr.specs.TermType.{one_of, type_of_terms}
use Rattle.expr_types.proofs.typing.type_of_values.Given as goal

abbrev pub invariant-loop-value : goal.invariant-loop-value
invariant-loop-value l =
    (columns answers : List Ty) → one_of l.ty (type_of_terms columns answers (literals (map datum_of (drop l.value-index l.values)))) ≡ type_of_terms columns answers (literals (map datum_of l.values))
