-- IN a list of literals.
use Rattle.std.proofs.Common.{◌≡◌, ◌++◌, ◌∙◌, List, [], ◌∷◌, map, None, Option, Some, refl, ap}
use Rattle.std.proofs.lemmas.List.{append-nil}
use Rattle.values.specs.Datum.{Datum}
use Rattle.expr.specs.NameView.{names_of, names_of_all}
use Rattle.expr.specs.View.{term, terms}
use Rattle.expr.specs.declared.tree.Expr.{Expr}
use Rattle.expr.specs.declared.names.Named.{Named}
use Rattle.expr.specs.declared.names.Named.TheVariants.{Columns}
use Rattle.expr.specs.Columns.{columns_of}
use Rattle.expr.specs.Filled.{literal_value, literals}
use Rattle.expr.specs.Meaning.{both, exact, run_all}
use Rattle.expr.specs.operations.Operations.{any_equal, condition}
use Rattle.expr.specs.Term.{Term, among, literal, more}

pub run_literals : (o : Option Datum) (row : List Datum) (vs : List Datum) → run_all o row (literals vs) ≡ Some vs
run_literals o row [] = refl
run_literals o row (v ∷ vs) = ap (both (λ x xs. Some (x ∷ xs)) (Some v)) (run_literals o row vs)

-- IN of a value that is computed whole
pub member_on : (row : List Datum) (t : Term) (vs : List Datum) (v : Datum) → exact t row ≡ Some v
    → exact (among t (literals vs)) row ≡ Some (condition (any_equal v vs))
member_on row t vs v is =
    ap (λ o. both (λ x xs. Some (condition (any_equal x xs))) o (run_all None row (literals vs))) is
    ∙ ap (λ l. both (λ x xs. Some (condition (any_equal x xs))) (Some v) l) (run_literals None row vs)

pub no_names : (of : Named) (vs : List Datum) → names_of_all of (literals vs) ≡ []
no_names of [] = refl
no_names of (v ∷ vs) = no_names of vs

-- literals name nothing
pub member_names : (of : Named) (t : Term) (vs : List Datum) → names_of of (among t (literals vs)) ≡ names_of of t
member_names of t vs = ap (λ named. names_of of t ++ named) (no_names of vs) ∙ append-nil (names_of of t)

pub member_columns : (t : Term) (vs : List Datum) → columns_of (among t (literals vs)) ≡ columns_of t
member_columns = member_names Columns

-- the literals that expressions in memory are
pub literal_terms : (es : List Expr) → terms (map (λ e. literal (literal_value (term e))) es) ≡ literals (map (λ e. literal_value (term e)) es)
literal_terms [] = refl
literal_terms (e ∷ es) = ap (more (literal (literal_value (term e)))) (literal_terms es)
