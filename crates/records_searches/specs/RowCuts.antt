-- A position among the rows of a table, by their rowids. (Database File Format, section 2.3 "Representation Of SQL Tables")
use Rattle.std.specs.Prelude.{Bool, true, ℤ, negsuc, ◌≤ℤ◌}
use Rattle.btree.specs.image.Search.{row_before}
use Rattle.records_searches.specs.declared.row_cuts.RowCut.{RowCut}
use Rattle.records_searches.specs.declared.row_cuts.RowCut.TheVariants.{At, Last}

-- a rowid has 64 bits, so that it is no less than the least of them
abbrev pub IsRowid : ℤ → Type 0
IsRowid rowid = negsuc 9223372036854775807 ≤ℤ rowid

-- a row with this rowid comes before it
abbrev pub row_comes_before : RowCut → ℤ → Bool
row_comes_before (At key behind) rowid = row_before behind key rowid
row_comes_before Last rowid = true
