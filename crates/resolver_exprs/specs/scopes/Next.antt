-- The columns that are called so, the first of them by its place.
use Rattle.std.specs.Prelude.{◌≡◌, ◌<◌, ℕ, suc, List, ◌∷◌, drop, length, Option, slice_index_or}
use Rattle.sql_reader_syntax.specs.Tree.{Name}
use Rattle.semantics_names.specs.Scope.{Scope, Shown, called, shown_places}

-- these are the columns that are called so: the one at this place, and those behind it
pub record IsNext (table : Option Name) (name : Name) (scope : Scope) (at : ℕ) (all : List (List ℕ)) : Type 0 where
  pub within : at < length scope
  pub first : (d : Shown) → all ≡ shown_places table at (slice_index_or scope at d) ∷ called table name (suc at) (drop (suc at) scope)
