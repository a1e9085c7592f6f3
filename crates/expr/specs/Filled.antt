-- Expressions whose inner queries have been answered. `x IN (query)` is the IN list of the values of its rows, and
-- EXISTS is `1 IN` a list that has a 1 where there is a row. (SQL Language Expressions, "The EXISTS Operator")
use Rattle.std.specs.Prelude.{◌≡◌, ℕ, List, [], ◌∷◌, map, slice_index_or, Option, IsPermutation}
use Rattle.std.specs.List.{All, AllZip}
use Rattle.values.specs.declared.value.Ty.{Ty}
use Rattle.values.specs.Datum.{Datum, null}
use Rattle.expr.specs.Conjuncts.{conjuncts}
use Rattle.expr.specs.Types.{HasType, IsOfType}
use Rattle.expr.specs.Meaning.{run}
use Rattle.expr.specs.Names.{IsAnswered}
use Rattle.expr.specs.Leaves.{leaves_of_all, leaves_of_arms, leaves_of_firsts, place_in, with_leaves}
use Rattle.expr.specs.Term.{Term, Terms, Arms, literal, none, more}

abbrev pub literals : List Datum → Terms
literals [] = none
literals (v ∷ vs) = more (literal v) (literals vs)

-- the value of a literal, and NULL of another expression
abbrev pub literal_value : Term → Datum
literal_value (literal v) = v
literal_value t = null

-- the values of the inner query at a place
abbrev pub answered : List (List Datum) → ℕ → Terms
answered answers k = literals (slice_index_or answers k [])

abbrev pub unanswered : ℕ → Terms
unanswered k = none

-- the expression with the values of each inner query in its place
abbrev pub filled : List (List Datum) → Term → Term
filled answers = with_leaves (λ i. i) (answered answers) unanswered

abbrev pub filled_all : List (List Datum) → Terms → Terms
filled_all answers = leaves_of_all (λ i. i) (answered answers) unanswered

-- no inner query stands among the arguments of coalesce
abbrev pub filled_firsts : List (List Datum) → Terms → Terms
filled_firsts answers = leaves_of_firsts (λ i. i) (answered answers) unanswered

abbrev pub filled_arms : List (List Datum) → Arms → Arms
filled_arms answers = leaves_of_arms (λ i. i) (answered answers) unanswered

-- an expression over the columns that are read: each column is its place among them, and an inner query has no values
abbrev pub placed : List ℕ → Term → Term
placed read = with_leaves (place_in read) unanswered unanswered

abbrev pub placed_all : List ℕ → Terms → Terms
placed_all read = leaves_of_all (place_in read) unanswered unanswered

abbrev pub placed_firsts : List ℕ → Terms → Terms
placed_firsts read = leaves_of_firsts (place_in read) unanswered unanswered

abbrev pub placed_arms : List ℕ → Arms → Arms
placed_arms read = leaves_of_arms (place_in read) unanswered unanswered

-- filling goes conjunct by conjunct
abbrev pub FillsConjuncts : Type 0
FillsConjuncts = (answers : List (List Datum)) (t : Term) → conjuncts (filled answers t) ≡ map (filled answers) (conjuncts t)

-- of an inner query's values the order makes no difference
abbrev pub AnswersAreBags : Type 0
AnswersAreBags = (o : Option Datum) (row : List Datum) (t : Term) (answers others : List (List Datum)) → AllZip IsPermutation answers others
    → run o row (filled answers t) ≡ run o row (filled others t)

-- an expression that is typed over the types of answers is typed when they are filled in, and names none
abbrev pub FilledHasType : Type 0
FilledHasType = (columns types none_left : List Ty) (answers : List (List Datum)) (t : Term) (ty : Ty) → AllZip (λ of values. All (IsOfType of) values) types answers
    → HasType columns types t ty → HasType columns none_left (filled answers t) ty

-- an expression in which the values of inner queries stand names no answer
abbrev pub FilledIsAnswered : Type 0
FilledIsAnswered = (answers : List (List Datum)) (t : Term) → IsAnswered (filled answers t)

-- nor does one over the columns that are read
abbrev pub PlacedIsAnswered : Type 0
PlacedIsAnswered = (read : List ℕ) (t : Term) → IsAnswered (placed read t)
