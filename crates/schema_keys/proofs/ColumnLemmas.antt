-- The columns that definitions declare.
use Rattle.std.proofs.Common.{◌≡◌, ℕ, ◌<◌, get_or, Bool, true, false, Contains, IsTrue, ◌↔◌, List, [], ◌∷◌, ◌++◌, length, map, refl, sym, ap, ◌∙◌, subst, arith}
use Rattle.std.proofs.lemmas.List.{get_or-map, length-map, map_push}
use Rattle.std.specs.List.{AllZip, Any}
use Rattle.sql_reader_grammar.specs.create_trees.CreateTrees.{ConstraintTree}
use Rattle.sql_reader_grammar.specs.create_trees.CreateView.{column_of, constraint_of}
use Rattle.sql_reader_grammar.specs.declared.create_trees.create.Column.{Column}
use Rattle.sql_reader_grammar.specs.declared.create_trees.create.ColumnConstraint.{ColumnConstraint}
use Rattle.sql_reader_grammar.specs.declared.create_trees.create.TableOption.{TableOption}
use Rattle.schema_keys.specs.declared_keys.Keys.{KeyData}
use Rattle.schema_keys.proofs.ListLemmas.{all_zip_push, any_at, beside}
use Rattle.schema_keys.specs.Created.{IsColumn, is_not_null}
use Rattle.schema_tables.specs.TableData.{ColumnData}

pub not_null_is : (t : ConstraintTree) → is_not_null t ≡ true → t ≡ ConstraintTree.NotNull
not_null_is ConstraintTree.NotNull e = refl
not_null_is _ e = absurd cc

pub not_null_other : (t : ConstraintTree) → is_not_null t ≡ false → ¬ (t ≡ ConstraintTree.NotNull)
not_null_other t e h =
    let here : is_not_null t ≡ true = ap is_not_null h in absurd (let clash = sym e ∙ here in cc)

-- a test of the constraints found one that is the constraint
pub contains_constraint : (constraints : List ColumnConstraint) (tree : ConstraintTree) (found : Bool)
    → IsTrue found ↔ Any (λ x. constraint_of x ≡ tree) constraints → IsTrue found ↔ Contains (map constraint_of constraints) tree
contains_constraint constraints tree found h = (
  (λ e. let a = h.0 e in (
    a.0,
    (let l = length-map constraints constraint_of in let w = a.2 in omega (arith, l, w)),
    get_or-map constraint_of constraints a.0 a.1 tree a.2 ∙ ap constraint_of a.3 ∙ a.4,
  )),
  (λ k. let l = length-map constraints constraint_of in let w = k.1 in let within : k.0 < length constraints = omega (arith, l, w) in
      h.1 (any_at (λ x. constraint_of x ≡ tree) constraints k.0 within
      (λ d. sym (get_or-map constraint_of constraints k.0 d tree within) ∙ k.2))),
)

module _ (options : List TableOption) (keys : List KeyData) where
  pub one_column_more : (definitions : List Column) (columns more : List ColumnData) (definition : Column) (column : ColumnData)
      → more ≡ columns ++ column ∷ [] → AllZip (IsColumn options keys) (map column_of definitions) columns
      → IsColumn options keys (column_of definition) column → AllZip (IsColumn options keys) (map column_of (definitions ++ definition ∷ [])) more
  one_column_more definitions columns more definition column e all here =
      subst (AllZip (IsColumn options keys) (map column_of (definitions ++ definition ∷ []))) (sym e)
      (subst (λ ds. AllZip (IsColumn options keys) ds (columns ++ column ∷ [])) (sym (map_push column_of definitions definition))
      (all_zip_push (IsColumn options keys) (map column_of definitions) columns (column_of definition) column all here))

  -- a definition that declares no column
  pub no_columns : (definitions : List Column) (i : ℕ) (definition : Column)
      → (i < length definitions) × (definition ≡ get_or definitions i definition)
      → ((column : ColumnData) → ¬ IsColumn options keys (column_of definition) column) → (columns : List ColumnData)
      → ¬ AllZip (IsColumn options keys) (map column_of definitions) columns
  no_columns definitions i definition at none columns are =
      let within : i < length (map column_of definitions) = let l = length-map definitions column_of in let w = at.0 in omega (arith, l, w) in
      let is : column_of definition ≡ get_or (map column_of definitions) i (column_of definition) =
      ap column_of at.1 ∙ sym (get_or-map column_of definitions i definition (column_of definition) at.0) in
      let found = beside (IsColumn options keys) (map column_of definitions) columns i (column_of definition) within is are in
      none found.0 found.1
