-- Lists of rows, as plans make them.
use Rattle.std.proofs.Common.{◌≡◌, Bool, true, false, cond, List, [], ◌∷◌, map, refl}
use Rattle.std.specs.List.{filter}
use Rattle.values.specs.Row.{Row}
use Rattle.logical_plan.specs.Plan.{or_alone}

pub filter-map : {A B : Type 0} (p : B → Bool) (f : A → B) (xs : List A) → filter p (map f xs) ≡ map f (filter (λ x. p (f x)) xs)
filter-map p f [] = refl
filter-map p f (x ∷ xs) =
    rw (filter-map p f xs) (elim (p (f x)) as (λ b. cond b (f x ∷ map f (filter (λ x. p (f x)) xs)) (map f (filter (λ x. p (f x)) xs))
    ≡ map f (cond b (x ∷ filter (λ x. p (f x)) xs) (filter (λ x. p (f x)) xs))) [ true ↦ refl | false ↦ refl ])

pub filter-none : {X : Type 0} (p : X → Bool) → ((x : X) → p x ≡ false) → (xs : List X) → filter p xs ≡ []
filter-none p none [] = refl
filter-none p none (x ∷ xs) = rw (none x) (filter-none p none xs)

pub filter-all : {X : Type 0} (p : X → Bool) → ((x : X) → p x ≡ true) → (xs : List X) → filter p xs ≡ xs
filter-all p all [] = refl
filter-all p all (x ∷ xs) = rw (all x, filter-all p all xs) refl

pub filter_keeps : {X : Type 0} (p : X → Bool) (x : X) (xs : List X) → p x ≡ true → filter p (x ∷ xs) ≡ x ∷ filter p xs
filter_keeps p x xs passes = rw passes refl

pub filter_drops : {X : Type 0} (p : X → Bool) (x : X) (xs : List X) → p x ≡ false → filter p (x ∷ xs) ≡ filter p xs
filter_drops p x xs fails = rw fails refl

pub or_alone-map : (b : Bool) (f : Row → Row) (row : Row) (rows : List Row) → or_alone b (f row) (map f rows) ≡ map f (or_alone b row rows)
or_alone-map false f row rows = refl
or_alone-map true f row [] = refl
or_alone-map true f row (r ∷ rows) = refl
