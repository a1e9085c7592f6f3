-- Elements of lists that are made one by one, rows whose values are all read, and the places of columns that all are.
use Rattle.std.proofs.Common.{◌≡◌, ◌∙◌, ◌<◌, All, Contains, IsPermutation, ℕ, zero, suc, List, [], ◌∷◌, get_or, length, map, refl, sym, ap, subst, arith}
use Rattle.std.specs.List.{AllZip, range_with_len}
use Rattle.std.proofs.lemmas.List.{ext_get_or}
use Rattle.std.proofs.lemmas.List.Elements.{All-head, All-tail}
use Rattle.std.proofs.lemmas.List.FromFn.{get_or-map-range_with_len, get_or-range_with_len, length-map-range_with_len}
use Rattle.std.proofs.lemmas.List.Sorted.{All-permutation}
use Rattle.expr.specs.Leaves.{place_in}
use Rattle.logical_plan.specs.Plan.{shown_rows}
use Rattle.logical_plan_terms.specs.Over.{AreWhole}
use Rattle.logical_plan_terms.specs.window_plans.Windowed.{written_places}
use Rattle.logical_plan_terms.proofs.ItselfLemmas.{place_itself}
use Rattle.values.specs.Datum.{null}
use Rattle.values.specs.Row.{Row}
use Rattle.semantics.specs.OneTable.{shown}
use Rattle.semantics.specs.Sequence.{value_at}

here : {X : Type 0} (x : X) (xs : List X) → Contains (x ∷ xs) x
here x xs = (0, omega arith, refl)

later : {X : Type 0} (x y : X) (xs : List X) → Contains xs y → Contains (x ∷ xs) y
later x y xs held = (suc held.0, (let within = held.1 in omega arith), held.2)

pub from_map : {X Y : Type 0} (f : X → Y) (xs : List X) (y : Y) → Contains (map f xs) y → (x : X) × Contains xs x × (f x ≡ y)
from_map f [] y held = absurd (let within = held.1 in omega (arith, within))
from_map f (x ∷ xs) y (zero, within, same) = (x, here x xs, same)
from_map f (x ∷ xs) y (suc k, within, same) =
    let rest = from_map f xs y (k, omega (arith, within), same) in (rest.0, later x rest.0 xs rest.1, rest.2)

-- of two lists that go together, the one that an element goes with
pub partner : {A B : Type 0} (R : A → B → Type 0) (xs : List A) (ys : List B) (x : A) → AllZip R xs ys → Contains xs x → (y : B) × Contains ys y × R x y
partner R [] ys x all held = absurd (let within = held.1 in omega (arith, within))
partner R (a ∷ xs) [] x all held = absurd all
partner R (a ∷ xs) (b ∷ ys) x all (zero, within, same) = (b, here b ys, subst (λ a. R a b) same all.0)
partner R (a ∷ xs) (b ∷ ys) x all (suc k, within, same) =
    let rest = partner R xs ys x all.1 (k, omega (arith, within), same) in (rest.0, later b rest.0 ys rest.1, rest.2)

-- a row whose values are all read is itself
pub shown_whole : (n : ℕ) (row : Row) → length row ≡ n → shown (range_with_len 0 n) row ≡ row
shown_whole n row long =
    ext_get_or null (shown (range_with_len 0 n) row) row (length-map-range_with_len (value_at row) 0 n ∙ sym long)
    (λ i within. get_or-map-range_with_len (value_at row) 0 n i i null (omega (arith, within, length-map-range_with_len (value_at row) 0 n)) (omega arith))

shown_all : (n : ℕ) (rows : List Row) → All (λ (row : Row). length row ≡ n) rows → shown_rows (range_with_len 0 n) rows ≡ rows
shown_all n [] wide = refl
shown_all n (row ∷ rows) wide =
    (λ j. shown_whole n row (All-head (λ (row : Row). length row ≡ n) row rows wide) j
    ∷ shown_all n rows (All-tail (λ (row : Row). length row ≡ n) row rows wide) j)

-- where rows in some order are of a given number of values, reading all of these leaves them
pub shown_same : (n : ℕ) (whole rows : List Row) → All (λ (row : Row). length row ≡ n) whole → IsPermutation whole rows
    → IsPermutation whole (shown_rows (range_with_len 0 n) rows)
shown_same n whole rows wide same =
    subst (IsPermutation whole) (sym (shown_all n rows (All-permutation (λ (row : Row). length row ≡ n) whole rows same wide))) same

-- columns that are all in their places are read in their places
pub written_whole : (read : List ℕ) → AreWhole read → written_places read ≡ read
written_whole read whole =
    ext_get_or 0 (written_places read) read (length-map-range_with_len (place_in read) 0 (length read)) at_place
  where
    held : (i : ℕ) → i < length read → get_or read i 0 ≡ i
    held i within =
        let place = get_or-range_with_len 0 (length read) i 0 within in
        let itself : get_or (range_with_len 0 (length read)) i 0 ≡ i = omega (arith, place) in
        ap (λ (xs : List ℕ). get_or xs i 0) whole ∙ itself

    among : (i : ℕ) → i < length read → Contains read i
    among i within =
        let place = get_or-range_with_len 0 (length read) i i within in
        let itself : get_or (range_with_len 0 (length read)) i i ≡ i = omega (arith, place) in
        (i, within, ap (λ (xs : List ℕ). get_or xs i i) whole ∙ itself)

    at_place : (i : ℕ) → i < length (written_places read) → get_or (written_places read) i 0 ≡ get_or read i 0
    at_place i within =
        let short : i < length read = omega (arith, within, length-map-range_with_len (place_in read) 0 (length read)) in
        get_or-map-range_with_len (place_in read) 0 (length read) i i 0 short (omega arith) ∙ place_itself read i whole (among i short) ∙ sym (held i short)
