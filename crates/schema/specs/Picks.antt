-- What rows say of one kind.
use Rattle.std.specs.Prelude.{List, [], ◌∷◌}
use Rattle.values.specs.Row.{Row}

-- what rows say, in their order, where some of them say nothing of the kind
pub data Picks {X : Type 0} (Says : Row → X → Type 0) (IsOther : Row → Type 0) : List Row → List X → Type 0 where
  end : Picks Says IsOther [] []
  here : {row : Row} {rows : List Row} {x : X} {xs : List X} → Says row x → Picks Says IsOther rows xs
      → Picks Says IsOther (row ∷ rows) (x ∷ xs)
  other : {row : Row} {rows : List Row} {xs : List X} → IsOther row → Picks Says IsOther rows xs
      → Picks Says IsOther (row ∷ rows) xs
