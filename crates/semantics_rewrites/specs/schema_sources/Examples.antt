-- A query over the schema's table, at two depths, and the same over one table more.
use Rattle.std.specs.Prelude.{◌≡◌, [], ◌∷◌, codes}
use Rattle.expr.specs.declared.operations.kinds.Comparison.TheVariants.{Gt}
use Rattle.expr.specs.Term.{among, answer, column, compare, literal}
use Rattle.semantics.specs.Answer.{Permits}
use Rattle.semantics.specs.Examples.{in_order, items, plain, whole}
use Rattle.semantics.specs.Query.{QueryData, Source, always, derived, only, schema, table, values_of, with_inner}
use Rattle.values.specs.Database.{Database}
use Rattle.values.specs.Datum.{Datum, text}
use Rattle.semantics_rewrites.specs.schema_sources.Settled.{settled, with_schema}

-- the rows of the schema's table, of which the last column is left empty
abbrev pub named : Database
named = record {
  schema =
      (text (codes "table") ∷ text (codes "item") ∷ text (codes "item") ∷ whole 2 ∷ text [] ∷ [])
      ∷ (text (codes "table") ∷ text (codes "sale") ∷ text (codes "sale") ∷ whole 3 ∷ text [] ∷ []) ∷ [];
  tables = items.tables;
}

-- SELECT name FROM sqlite_schema WHERE rootpage IN (SELECT rootpage FROM (SELECT rootpage FROM sqlite_schema) WHERE rootpage > 2), over
-- this source
abbrev pub later_names : Source → QueryData
later_names source = in_order
    (plain
    (with_inner (only source)
    (values_of (plain (only (derived (plain (only source) always (column 3 ∷ [])))) (compare Gt (column 0) (literal (whole 2))) (column 0 ∷ []))))
    (among (column 3) (answer 0)) (column 1 ∷ []))
    []

-- it is over the table at the place 2, which permits these rows
abbrev pub ShowLater : Datum → Type 0
ShowLater w =
    (settled 2 (later_names schema) ≡ later_names (table 2 5)) × Permits w (with_schema named) (later_names (table 2 5)) ((text (codes "sale") ∷ []) ∷ [])
