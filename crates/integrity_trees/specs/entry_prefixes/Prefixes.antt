-- How many different values the first columns of an index have, and whether its entries differ in all of them. (CREATE INDEX,
-- "Unique Indexes")
use Rattle.std.specs.Prelude.{◌≡◌, ◌↔◌, ℕ, suc, IsTrue, List, length, Some, slice_get}
use Rattle.values.specs.Row.{Row}
use Rattle.values.specs.Bounds.{counted}
use Rattle.btree.specs.image.Pages.{Pages}
use Rattle.integrity_trees.specs.wanted_entries.Unique.{IsNotUnique, IsPrefixCount}
use Rattle.integrity_trees.specs.declared.entry_prefixes.counting.Prefixes.{Prefixes}
use Rattle.integrity_trees.specs.entry_prefixes.Entries.{HoldsEntries}

-- entries have so many different first values of so many columns, up to the greatest number
abbrev pub HasCount : List Row → ℕ → ℕ → Type 0
HasCount entries columns count = (n : ℕ) × IsPrefixCount columns entries n × (count ≡ counted n)

-- the counts of the entries of an index, for each number of its first columns, and whether two agree in all of them
pub record HasPrefixes (pages : Pages) (root width : ℕ) (prefixes : Prefixes) : Type 0 where
  pub entries : List Row
  pub entries_are : HoldsEntries pages root entries
  pub long : length prefixes.distinct.items ≡ width
  pub counts : (columns count : ℕ) → slice_get prefixes.distinct.items columns ≡ Some count → HasCount entries (suc columns) count
  pub repeated : IsTrue prefixes.repeats ↔ IsNotUnique width entries
