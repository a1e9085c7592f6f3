-- Which rows of a table have an entry in an index with a condition. (Partial Indexes)
use Rattle.std.specs.Prelude.{◌≡◌, Bool, true, false, Option, None, Some, option_map}
use Rattle.values.specs.Row.{Row}
use Rattle.expr.specs.Conjuncts.{is_true}
use Rattle.expr.specs.Meaning.{exact}
use Rattle.expr.specs.Term.{Term}
use Rattle.expr.specs.View.{term}
use Rattle.integrity_indexes.specs.declared.index_rows.index.TableIndex.{TableIndex}
use Rattle.integrity_indexes.specs.declared.index_rows.searches.Lookup.{Lookup}
use Rattle.integrity_indexes.specs.declared.index_rows.searches.Lookup.TheVariants.{Found, LeftOut, Missing}

-- Those of which the condition is true; where it has no value it isn't.
abbrev pub keeps_row : Option Term → Row → Bool
keeps_row None row = true
keeps_row (Some condition) row = is_true (exact condition row)

-- the condition of an index, if it has one
abbrev pub condition_of : TableIndex → Option Term
condition_of index = option_map (λ e. term e.now) index.condition

-- what a look-up of a row tells: whether the index keeps the row, and of one that it keeps whether its entry is there
abbrev pub Tells : Lookup → Bool → Type 0 → Type 0
Tells LeftOut kept there = kept ≡ false
Tells Found kept there = (kept ≡ true) × there
Tells Missing kept there = (kept ≡ true) × (¬ there)
