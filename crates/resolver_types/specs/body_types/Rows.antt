-- The rows that the terms of a SELECT stand over.
use Rattle.std.specs.Prelude.{List, [], ◌∷◌, ◌++◌, Result}
use Rattle.values.specs.declared.fault.Fault.{Fault}
use Rattle.values.specs.declared.value.Ty.{Ty}
use Rattle.resolver_bodies.specs.BodyView.{JoinedData}
use Rattle.semantics.specs.Query.{From, Select}
use Rattle.semantics_names.specs.Outcome.{also, each, followed}
use Rattle.semantics_names.specs.Types.{answer_types, computed_types, condition_type, from_types, source_types, term_type}

-- the types of a row, and of the answers of the inner queries that terms over it name
pub record RowData : Type 0 where
  pub columns : List Ty
  pub answers : List Ty

abbrev pub row : List Ty → List Ty → RowData
row answers columns = record { columns = columns; answers = answers }

-- those that result columns and ORDER BY speak of, from those of FROM
abbrev pub computed_behind : Select → RowData → Result RowData Fault
computed_behind s r = also (row r.answers) (computed_types r.answers r.columns s)

-- the result columns of a SELECT, over these
abbrev pub column_types : Select → RowData → Result (List Ty) Fault
column_types s r = each (term_type r.answers r.columns) s.columns

module _ (tables : List (List Ty)) where
  -- the columns so far, and those of one source more
  abbrev pub joined_to : List Ty → List Ty → JoinedData → Result (List Ty) Fault
  joined_to answers left j =
      followed (source_types tables j.source) (λ right. also (λ _. left ++ right) (condition_type answers (left ++ right) j.condition))

  abbrev pub all_joined : List Ty → Result (List Ty) Fault → List JoinedData → Result (List Ty) Fault
  all_joined answers so_far [] = so_far
  all_joined answers so_far (j ∷ js) = all_joined answers (followed so_far (λ left. joined_to answers left j)) js

  -- the rows of FROM
  abbrev pub from_row : From → Result RowData Fault
  from_row from = followed (answer_types tables from) (λ answers. also (row answers) (from_types tables answers from))

  -- those that result columns and ORDER BY speak of
  abbrev pub computed_row : From → Select → Result RowData Fault
  computed_row from s = followed (from_row from) (computed_behind s)

  -- the columns of a SELECT
  abbrev pub single_types : From → Select → Result (List Ty) Fault
  single_types from s = followed (computed_row from s) (column_types s)
