-- Worked terms and types, and whether they agree.
use Rattle.std.specs.Prelude.{pos, [], ◌∷◌}
use Rattle.values.specs.Datum.{int, null, text}
use Rattle.values.specs.declared.value.Ty.TheVariants.{Int, Null, Text}
use Rattle.expr.specs.Term.{Term, arithmetic, arm, call, choice, choice_of, column, concat, literal, no_arms}
use Rattle.expr.specs.declared.operations.kinds.Arithmetic.TheVariants.{Add}
use Rattle.expr.specs.declared.operations.kinds.Function.TheVariants.{Length}
use Rattle.semantics.specs.Query.{Body, From, of_columns}
use Rattle.semantics.specs.Typed.{BodyHasTypes}
use Rattle.semantics_refusals.specs.Clashes.{AreAtOdds, HasClash, IsClash, Misfits}
use Rattle.semantics_refusals.specs.Mismatches.{AreMismatched, AreOwn, SelectMisfits}

-- c1 + 1
abbrev pub text_and_one : Term
text_and_one = arithmetic Add (column 1) (literal (int (pos 1)))

-- CASE WHEN c0 THEN c0 ELSE length(c0) END
abbrev pub length_in_case : Term
length_in_case = choice (arm (column 0) (column 0) no_arms) (call Length (column 0))

-- CASE c0 WHEN 1 THEN c1 || '' ELSE NULL END
abbrev pub text_or_null : Term
text_or_null = choice_of (column 0) (arm (literal (int (pos 1))) (concat (column 1) (literal (text []))) no_arms) (literal null)

-- Over a column of whole numbers and one of texts: the first is a clash; in the second one stands, which it isn't itself; in the
-- third there is none. Over a column that is NULL alone c0 + 1 has none, and a column that isn't there is no clash.
abbrev pub ClashesAreFound : Type 0
ClashesAreFound =
    IsClash [] (Int ∷ Text ∷ []) text_and_one
    × HasClash [] (Int ∷ Text ∷ []) length_in_case × (¬ IsClash [] (Int ∷ Text ∷ []) length_in_case)
    × (¬ HasClash [] (Int ∷ Text ∷ []) text_or_null)
    × (¬ HasClash [] (Null ∷ []) (arithmetic Add (column 0) (literal (int (pos 1)))))
    × (¬ HasClash [] [] (column 0))

-- SELECT NULL
abbrev pub null_alone : Body
null_alone = Body.select From.nothing (of_columns (literal null ∷ []))

-- Over the same columns: WHERE c1 misfits, and WHERE NULL doesn't; lag(c0, 1, c1) is of two types, and lag(c0, 1, NULL) of one; columns of
-- a whole number and a text, in either order, are apart, and those of NULL alone are not; and c1 + 1 as a result column misfits.
abbrev pub PlacesMisfit : Type 0
PlacesMisfit =
    Misfits [] (Int ∷ Text ∷ []) Int (column 1) × (¬ Misfits [] (Int ∷ Text ∷ []) Int (literal null))
    × AreAtOdds [] (Int ∷ Text ∷ []) (column 0) (column 1) × (¬ AreAtOdds [] (Int ∷ Text ∷ []) (column 0) (literal null))
    × AreMismatched (Int ∷ Text ∷ []) (Int ∷ Int ∷ []) × (¬ AreMismatched (Int ∷ Null ∷ []) (Null ∷ Text ∷ []))
    × SelectMisfits [] (Int ∷ Text ∷ []) (of_columns (text_and_one ∷ []))

-- the column of SELECT NULL may be of whole numbers, and of its own it is NULL alone
abbrev pub OwnTypesAreLeast : Type 0
OwnTypesAreLeast =
    BodyHasTypes [] null_alone (Int ∷ []) × AreOwn (BodyHasTypes [] null_alone) (Null ∷ []) × (¬ AreOwn (BodyHasTypes [] null_alone) (Int ∷ []))
