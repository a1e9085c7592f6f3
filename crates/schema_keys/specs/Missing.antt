-- What a row has in a column that was added after it was written. (ALTER TABLE ADD COLUMN; CREATE TABLE, "The DEFAULT
-- clause")
use Rattle.std.specs.Prelude.{◌≡◌, ◌⊎◌, ℤ, pos, negsuc, neg_ℤ, All, List, ◌∷◌, ◌++◌}
use Rattle.values.specs.Datum.{Datum}
use Rattle.sql_reader_grammar.specs.create_trees.CreateTrees.{ConstraintTree, DefaultTree}
use Rattle.schema_tables.specs.TableData.{MissingData}

-- a number behind a minus, which has no sign itself
abbrev pub negated : ℤ → MissingData
negated (pos n) = MissingData.Fill (Datum.int (neg_ℤ (pos n)))
negated (negsuc n) = MissingData.Refused

-- a literal fills older rows; an expression isn't computed
abbrev pub filled : DefaultTree → MissingData
filled DefaultTree.Null = MissingData.Fill Datum.null
filled (DefaultTree.Number n) = MissingData.Fill (Datum.int n)
filled (DefaultTree.Negative n) = negated n
filled (DefaultTree.Text content) = MissingData.Fill (Datum.text content)
filled (DefaultTree.Blob bytes) = MissingData.Fill (Datum.blob bytes)
filled DefaultTree.Expression = MissingData.Refused

-- what a further constraint makes of it
abbrev pub missing_behind : MissingData → ConstraintTree → MissingData
missing_behind missing (ConstraintTree.Default value) = filled value
missing_behind missing _ = missing

abbrev pub IsOther : ConstraintTree → Type 0
IsOther (ConstraintTree.Default value) = ⊥
IsOther _ = Unit {0}

-- the last DEFAULT of a column, behind which no other stands
pub record IsLastDefault (constraints : List ConstraintTree) (value : DefaultTree) : Type 0 where
  pub front : List ConstraintTree
  pub back : List ConstraintTree
  pub stands : constraints ≡ front ++ ConstraintTree.Default value ∷ back
  pub last : All IsOther back

-- NULL without a DEFAULT, else what the last one says
abbrev pub IsMissingValue : List ConstraintTree → MissingData → Type 0
IsMissingValue constraints missing =
    (All IsOther constraints × (missing ≡ MissingData.Fill Datum.null))
    ⊎ ((value : DefaultTree) × IsLastDefault constraints value × (missing ≡ filled value))
