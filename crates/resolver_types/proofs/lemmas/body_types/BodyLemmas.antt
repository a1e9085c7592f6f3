-- Queries: one SELECT, and SELECTs that are joined.
use Rattle.std.proofs.Common.{◌≡◌, ◌⊎◌, List, Result, Ok, Err, refl, ap, inl, inr, ◌∙◌}
use Rattle.values.specs.declared.fault.Fault.{Fault}
use Rattle.values.specs.declared.fault.Fault.TheVariants.{NoMemory}
use Rattle.values.specs.declared.value.Ty.{Ty}
use Rattle.resolver_types.specs.body_types.Rows.{RowData, column_types, computed_behind, computed_row, row, single_types}
use Rattle.semantics.specs.Query.{Body, From, Operator, Select}
use Rattle.semantics_names.specs.Outcome.{also, followed}
use Rattle.semantics_names.specs.Types.{answer_types, body_types, computed_types, from_types, one_types, select_types}

module _ (tables : List (List Ty)) (from : From) (s : Select) where
  -- what is said of the rows that result columns and ORDER BY speak of
  module _ {A : Type 0} (last : RowData → Result A Fault) where
    module _ (answers : List Ty) where
      over_computed : (r : Result (List Ty) Fault)
          → followed r (λ computed. last (row answers computed)) ≡ followed (also (row answers) r) last
      over_computed (Ok computed) = refl
      over_computed (Err fault) = refl

      over_columns : (r : Result (List Ty) Fault)
          → followed r (λ columns. followed (computed_types answers columns s) (λ computed. last (row answers computed)))
          ≡ followed (followed (also (row answers) r) (computed_behind s)) last
      over_columns (Ok columns) = over_computed (computed_types answers columns s)
      over_columns (Err fault) = refl

    over_answers : (r : Result (List Ty) Fault)
        → followed r (λ answers. followed (from_types tables answers from) (λ columns.
        followed (computed_types answers columns s) (λ computed. last (row answers computed))))
        ≡ followed (followed (followed r (λ answers. also (row answers) (from_types tables answers from))) (computed_behind s)) last
    over_answers (Ok answers) = over_columns answers (from_types tables answers from)
    over_answers (Err fault) = refl

    pub over_row : followed (answer_types tables from) (λ answers. followed (from_types tables answers from) (λ columns.
        followed (computed_types answers columns s) (λ computed. last (row answers computed)))) ≡ followed (computed_row tables from s) last
    over_row = over_answers (answer_types tables from)

  -- one SELECT
  pub select_is : body_types tables (Body.select from s) ≡ single_types tables from s
  select_is = over_row (column_types s)

  module _ (left : Body) (operator : Operator) (first : List Ty) (before : body_types tables left ≡ Ok first) where
    -- the last SELECT of those that are joined
    compound_is : body_types tables (Body.compound left operator from s) ≡ followed (single_types tables from s) (one_types first)
    compound_is =
        ap (λ r. followed r (λ first. followed (answer_types tables from) (λ answers. followed (from_types tables answers from) (λ columns.
        followed (select_types answers columns s) (one_types first))))) before
        ∙ one_more (answer_types tables from)
        ∙ ap (λ r. followed r (one_types first)) select_is
      where
        one_more : (r : Result (List Ty) Fault)
            → followed r (λ answers. followed (from_types tables answers from) (λ columns. followed (select_types answers columns s) (one_types first)))
            ≡ followed (followed r (λ answers. followed (from_types tables answers from) (λ columns. select_types answers columns s))) (one_types first)
        one_more (Ok answers) = last (from_types tables answers from)
          where
            last : (r : Result (List Ty) Fault)
                → followed r (λ columns. followed (select_types answers columns s) (one_types first))
                ≡ followed (followed r (λ columns. select_types answers columns s)) (one_types first)
            last (Ok columns) = refl
            last (Err fault) = refl
        one_more (Err fault) = refl

    -- it is refused
    pub last_refused : (fault : Fault) → (fault ≡ NoMemory) ⊎ (single_types tables from s ≡ Err fault)
        → (fault ≡ NoMemory) ⊎ (body_types tables (Body.compound left operator from s) ≡ Err fault)
    last_refused fault (inl empty) = inl empty
    last_refused fault (inr e) = inr (compound_is ∙ ap (λ r. followed r (one_types first)) e)

    -- it is taken
    pub last_taken : (last : List Ty) → single_types tables from s ≡ Ok last
        → body_types tables (Body.compound left operator from s) ≡ one_types first last
    last_taken last e = compound_is ∙ ap (λ r. followed r (one_types first)) e
