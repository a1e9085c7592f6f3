-- Rows that ascend by ranks that tell their whole order.
use Rattle.std.proofs.Common.{◌≡◌, ◌∙◌, ◌+◌, ◌≤◌, All, ℕ, Ordering, Less, Equal, Greater, false, List, [], ◌∷◌, get_or, length, map, refl, sym, ap, subst, arith, IsPermutation, Vec, Global}
use Rattle.std.proofs.Math.ListN.{get_or-map}
use Rattle.std.proofs.lemmas.List.{length-map}
use Rattle.std.proofs.lemmas.List.Elements.{All-map, AllWithin-upto}
use Rattle.std.proofs.lemmas.List.Sorted.{All-permutation}
use Rattle.std.specs.List.{AllWithin}
use Rattle.std.specs.List.Sorted.{IsSortedByKey}
use Rattle.std.specs.Ordering.{is_lt, ordering_then}
use Rattle.values.specs.Datum.{datum_of}
use Rattle.values.specs.Row.{Row, rows_data}
use Rattle.values.specs.declared.value.Value.{Value}
use Rattle.semantics.specs.Sequence.{directed_cmp, keys_cmp, value_at}
use Rattle.resolver_terms.specs.SelectView.{direction_of}
use Rattle.windows_groups.specs.contracts.window_order.ranks.RankOrd.TheImpl.{ghosts}
use Rattle.windows_groups.specs.window_order.Ranks.{IsNumber}
use Rattle.windows_groups.proofs.lemmas.window_order.NumberLemmas.{number_ranks}
use Rattle.windows_groups.specs.declared.order.ResultKey.{ResultKey}
use Rattle.windows_groups.specs.Keys.{directions, key_values}
use Rattle.windows_groups.specs.Ranked.{AreRanked, first_rank}

alone : (o : Ordering) → ordering_then o Equal ≡ o
alone Less = refl
alone Equal = refl
alone Greater = refl

abbrev is_number : ResultKey → Vec Value Global → Type 0
is_number key row = IsNumber (value_at (map datum_of row.items) key.at)

from_map : {X Y : Type 0} (P : X → Type 0) (f : Y → X) (ys : List Y) → All P (map f ys) → All (λ y. P (f y)) ys
from_map P f ys all i d within =
    let long = length-map ys f in
    subst P (get_or-map f ys i d) (all i (f d) (omega (arith, within, long)))

by_one : (key : ResultKey) (rows : List (Vec Value Global)) → All (is_number key) rows
    → IsSortedByKey (λ (row : Vec Value Global). first_rank (key ∷ []) (map datum_of row.items)) ghosts.cmp rows
    → IsSortedByKey (λ (row : Vec Value Global). key_values (key ∷ []) (map datum_of row.items)) (keys_cmp (directions (key ∷ []))) rows
by_one key rows all up k d low within =
    let d' = direction_of key.direction in
    let x = value_at (map datum_of (get_or rows (k + 1) d).items) key.at in
    let y = value_at (map datum_of (get_or rows k d).items) key.at in
    ap is_lt (alone (directed_cmp d' x y) ∙ sym (number_ranks d' x y (all (k + 1) d within) (all k d (omega (arith, within))))) ∙ up k d low within

pub ranks_tell : (order : List ResultKey) (before after : List (Vec Value Global)) (are : AreRanked order (rows_data before)) → IsPermutation before after
    → IsSortedByKey (λ (row : Vec Value Global). first_rank order (map datum_of row.items)) ghosts.cmp after
    → IsSortedByKey (λ (row : Vec Value Global). key_values order (map datum_of row.items)) (keys_cmp (directions order)) after
ranks_tell order before after are same up =
    let all : All (is_number are.key) before = from_map (λ (row : Row). IsNumber (value_at row are.key.at)) (λ (row : Vec Value Global). map datum_of row.items) before are.numbers in
    subst (λ by. IsSortedByKey (λ (row : Vec Value Global). first_rank by (map datum_of row.items)) ghosts.cmp after
    → IsSortedByKey (λ (row : Vec Value Global). key_values by (map datum_of row.items)) (keys_cmp (directions by)) after) (sym are.one)
    (by_one are.key after (All-permutation (is_number are.key) before after same all)) up

abbrev pub some_key : ResultKey
some_key = record { at = 0; direction = record { descending = false; nulls_first = false } }

one_key : (order : List ResultKey) (d : ResultKey) → length order ≡ 1 → order ≡ get_or order 0 d ∷ []
one_key [] d one = absurd (omega (arith, one))
one_key (k ∷ []) d one = refl
one_key (k ∷ j ∷ order) d one = absurd (omega (arith, one))

pub are_ranked : (order : List ResultKey) (d : ResultKey) (rows : List (Vec Value Global)) (upto : ℕ) → length order ≡ 1 → length rows ≤ upto
    → AllWithin (is_number (get_or order 0 d)) rows 0 upto → AreRanked order (rows_data rows)
are_ranked order d rows upto one all within =
    let key = get_or order 0 d in
    let ranked = AllWithin-upto (is_number key) rows 0 upto (length rows) all within in
    record {
      key = key;
      one = one_key order d one;
      numbers = All-map (λ (row : Row). IsNumber (value_at row key.at)) (λ (row : Vec Value Global). map datum_of row.items) rows (λ i e h. ranked i e (omega arith) h);
    }
