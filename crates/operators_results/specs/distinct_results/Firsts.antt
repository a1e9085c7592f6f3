-- Rows of which each is given once. (SELECT, "Removal of duplicate rows (DISTINCT processing)")
pub use Rattle.windows_groups.specs.distinct_rows.Firsts.{firsts, unmet}
use Rattle.std.specs.Prelude.{List, IsPermutation}
use Rattle.values.specs.Row.{Row}
use Rattle.semantics.specs.Times.{once}
use Rattle.operators_results.specs.Slices.{sliced}
use Rattle.operators_results.specs.declared.distinct_results.first_rows.FirstRows.{FirstRows}

-- what is given of further rows, once some were met
abbrev pub to_come : FirstRows → List Row → List Row
to_come state rows = sliced state.slice (unmet state.met.keys (firsts rows))

-- as a bag it is each row once
abbrev pub FirstsAreOnce : Type 0
FirstsAreOnce = (rows : List Row) → IsPermutation (once rows) (firsts rows)
