-- Rows of which each is given once. (SELECT, "Removal of duplicate rows (DISTINCT processing)")
use Rattle.std.specs.Prelude.{not, List, [], ◌∷◌, filter}
use Rattle.std.specs.List.{list_any}
use Rattle.values.specs.Row.{Row}
use Rattle.semantics.specs.Times.{same_row}

-- each row once, where it first stands; NULLs count as equal
abbrev pub firsts : List Row → List Row
firsts [] = []
firsts (row ∷ rows) = row ∷ filter (λ other. not (same_row row other)) (firsts rows)

-- the rows that are none of those that were met
abbrev pub unmet : List Row → List Row → List Row
unmet met rows = filter (λ row. not (list_any (same_row row) met)) rows
