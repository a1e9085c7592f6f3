-- Tables of the catalog that are joined. (SELECT, "Determination of input data")
use Rattle.std.specs.Prelude.{◌≡◌, ◌<◌, ⊤, All, ℕ}
use Rattle.expr.specs.Columns.{columns_of}
use Rattle.semantics.specs.Query.{From, Source, from_width, joined, nothing, table, with_inner}

-- a table of the catalog
pub record IsTableSource (source : Source) : Type 0 where
  pub at : ℕ
  pub width : ℕ
  pub source_is : source ≡ table at width

-- Each source is such a table, whose ON names columns of the sources up to its own alone; and no inner query stands beside them.
abbrev pub AreTableJoins : From → Type 0
AreTableJoins nothing = ⊤
AreTableJoins (joined from kind source on) =
    AreTableJoins from × IsTableSource source × All (λ c. c < from_width (joined from kind source on)) (columns_of on)
AreTableJoins (with_inner from query) = ⊥
