use Rattle.std.proofs.Common.{◌≡◌, ℕ, ◌<◌, drop, map}
use Rattle.schema.proofs.indexes.places.place_of.Given as goal
use Rattle.schema.specs.indexes.Condition.{place_from}
use Rattle.schema_keys.specs.Names.{IsNameAt}

abbrev pub invariant-loop-place : goal.invariant-loop-place
invariant-loop-place l =
    ((k : ℕ) → k < l.place → ¬ IsNameAt (map (λ c. c.name) l.columns) l.name k)
    × (place_from 0 l.columns l.name ≡ place_from l.place (drop l.place l.columns) l.name)
