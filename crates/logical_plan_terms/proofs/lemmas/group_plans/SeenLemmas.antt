-- Lists of what is seen of rows.
use Rattle.std.proofs.Common.{◌≡◌, Bool, true, false, cond, Contains, zero, suc, List, [], ◌∷◌, filter, map, refl, ap, subst, arith}
use Rattle.std.specs.List.{AllZip}
use Rattle.std.proofs.lemmas.List.Elements.{All-contains, All-contains_itself, All-filter}
use Rattle.values.specs.Row.{Row}

pub here : {X : Type 0} (x : X) (xs : List X) → Contains (x ∷ xs) x
here x xs = (0, omega arith, refl)

pub later : {X : Type 0} (x y : X) (xs : List X) → Contains xs y → Contains (x ∷ xs) y
later x y xs held = (suc held.0, (let within = held.1 in omega arith), held.2)

pub held_map : {X Y : Type 0} (f : X → Y) (xs : List X) (x : X) → Contains xs x → Contains (map f xs) (f x)
held_map f [] x held = absurd (let within = held.1 in omega (arith, within))
held_map f (y ∷ xs) x (zero, within, is) = (0, omega arith, ap f is)
held_map f (y ∷ xs) x (suc k, within, is) = later (f y) (f x) (map f xs) (held_map f xs x (k, omega (arith, within), is))

pub from_map : {X Y : Type 0} (f : X → Y) (xs : List X) (y : Y) → Contains (map f xs) y → (x : X) × Contains xs x × (f x ≡ y)
from_map f [] y held = absurd (let within = held.1 in omega (arith, within))
from_map f (x ∷ xs) y (zero, within, is) = (x, here x xs, is)
from_map f (x ∷ xs) y (suc k, within, is) =
    let rest = from_map f xs y (k, omega (arith, within), is) in (rest.0, later x rest.0 xs rest.1, rest.2)

pub held_filter : {X : Type 0} (p : X → Bool) (xs : List X) (x : X) → Contains (filter p xs) x → Contains xs x
held_filter p xs x held = All-contains (Contains xs) (filter p xs) x (All-filter p (Contains xs) xs (All-contains_itself xs)) held

pub map_seen : {X : Type 0} (f h : Row → X) (seen : Row → Row) (rows : List Row) → ((row : Row) → Contains rows row → f (seen row) ≡ h row)
    → map f (map seen rows) ≡ map h rows
map_seen f h seen [] same = refl
map_seen f h seen (r ∷ rows) same =
    (λ j. same r (here r rows) j ∷ map_seen f h seen rows (λ row held. same row (later r row rows held)) j)

pub filter_seen : (p q : Row → Bool) (seen : Row → Row) (rows : List Row) → ((row : Row) → Contains rows row → p (seen row) ≡ q row)
    → filter p (map seen rows) ≡ map seen (filter q rows)
filter_seen p q seen [] same = refl
filter_seen p q seen (r ∷ rows) same =
    let rest = filter_seen p q seen rows (λ row held. same row (later r row rows held)) in
    rw (same r (here r rows), rest)
    (elim (q r) as (λ b. cond b (seen r ∷ map seen (filter q rows)) (map seen (filter q rows)) ≡ map seen (cond b (r ∷ filter q rows) (filter q rows))) [
      | true ↦ refl
      | false ↦ refl
    ])

pub filter_agree : (p q : Row → Bool) (rows : List Row) → ((row : Row) → Contains rows row → p row ≡ q row) → filter p rows ≡ filter q rows
filter_agree p q [] same = refl
filter_agree p q (r ∷ rows) same =
    (λ j. cond (same r (here r rows) j) (r ∷ filter_agree p q rows (λ row held. same row (later r row rows held)) j)
    (filter_agree p q rows (λ row held. same row (later r row rows held)) j))

pub map_agree : {X Y : Type 0} (f h : X → Y) → ((x : X) → f x ≡ h x) → (xs : List X) → map f xs ≡ map h xs
map_agree f h same [] = refl
map_agree f h same (x ∷ xs) = (λ j. same x j ∷ map_agree f h same xs j)

-- of two lists that go together, the one that an element goes with
pub partner : {A B : Type 0} (R : A → B → Type 0) (xs : List A) (ys : List B) (x : A) → AllZip R xs ys → Contains xs x → (y : B) × Contains ys y × R x y
partner R [] ys x all held = absurd (let within = held.1 in omega (arith, within))
partner R (a ∷ xs) [] x all held = absurd all
partner R (a ∷ xs) (b ∷ ys) x all (zero, within, is) = (b, here b ys, subst (λ a. R a b) is all.0)
partner R (a ∷ xs) (b ∷ ys) x all (suc k, within, is) =
    let rest = partner R xs ys x all.1 (k, omega (arith, within), is) in (rest.0, later b rest.0 ys rest.1, rest.2)
