-- What a query permits.
use Rattle.std.proofs.Common.{◌≡◌, ℤ, pos, negsuc, min, ◌-◌, Bool, List, [], ◌++◌, map, length, Option, Some, None, refl, sym, ap, subst, ◌∙◌}
use Rattle.std.specs.Ordering.{is_lt}
use Rattle.std.proofs.lemmas.List.{length-map, length-take, length-drop, take-map, drop-map}
use Rattle.std.proofs.lemmas.List.Sorted.{ranks_by, length_permutation, IsPermutation-sym, IsPermutation-trans}
use Rattle.values.specs.Datum.{Datum}
use Rattle.semantics.specs.Query.{Key, QueryData}
use Rattle.values.specs.Row.{Row}
use Rattle.semantics.specs.Sequence.{ascending, keys_cmp}
use Rattle.values.specs.Database.{Database}
use Rattle.semantics.specs.Body.{SameTables, Output, body}
use Rattle.semantics.specs.Answer.{Permits, Begins, key_directions, limited, skipped, slice}
use Rattle.semantics.proofs.OrderLemmas.{IsSortedBy-ascending, ascending-same}
use Rattle.semantics.proofs.KeyLemmas.{keys_cmp_total}
use Rattle.semantics.proofs.BodyLemmas.{outputs-same}

-- whether ORDER BY puts the first before the second
abbrev pub is_before : List Key → Output → Output → Bool
is_before order x y = is_lt (keys_cmp (key_directions order) x.keys y.keys)

-- one list that is permitted
abbrev pub answer : Datum → Database → QueryData → List Row
answer w db query = map (λ o. o.row) (slice query (ascending (is_before query.order) (body w db query)))

pub answer_permitted : (w : Datum) (db : Database) (query : QueryData) → Permits w db query (answer w db query)
answer_permitted w db query = record {
  ordered = ascending (is_before query.order) (body w db query);
  same = ascending-same (is_before query.order) (body w db query);
  ascends = IsSortedBy-ascending (is_before query.order)
      (ranks_by (keys_cmp_total (key_directions query.order)) (λ (o : Output). o.keys)) (body w db query);
  shown = refl;
}

pub some_permitted : (w : Datum) (db : Database) (query : QueryData) → (rows : List Row) × Permits w db query rows
some_permitted w db query = (answer w db query, answer_permitted w db query)

-- a list that was computed is permitted
pub permitted_as : (w : Datum) (db : Database) (query : QueryData) (rows : List Row) → answer w db query ≡ rows → Permits w db query rows
permitted_as w db query rows is = subst (Permits w db query) is (answer_permitted w db query)

limited-length : {X Y : Type 0} (limit : Option ℤ) (xs : List X) (ys : List Y) → length xs ≡ length ys → length (limited limit xs) ≡ length (limited limit ys)
limited-length None xs ys h = h
limited-length (Some (pos n)) xs ys h = length-take n xs ∙ ap (min n) h ∙ sym (length-take n ys)
limited-length (Some (negsuc n)) xs ys h = h

skipped-length : {X Y : Type 0} (offset : ℤ) (xs : List X) (ys : List Y) → length xs ≡ length ys → length (skipped offset xs) ≡ length (skipped offset ys)
skipped-length (pos n) xs ys h = length-drop n xs ∙ ap (λ m. m - n) h ∙ sym (length-drop n ys)
skipped-length (negsuc n) xs ys h = h

pub Permits-length : (w : Datum) (db : Database) (query : QueryData) (rows : List Row) → Permits w db query rows
    → length rows ≡ length (slice query (body w db query))
Permits-length w db query rows p =
    ap length p.shown ∙ length-map (slice query p.ordered) (λ o. o.row)
    ∙ limited-length query.limit _ _ (skipped-length query.offset _ _ (length_permutation (body w db query) p.ordered p.same))

pub Permits-bags : (w : Datum) (db other : Database) (query : QueryData) (rows : List Row) → SameTables db other
    → Permits w db query rows → Permits w other query rows
Permits-bags w db other query rows same p = record {
  ordered = p.ordered;
  same = IsPermutation-trans (body w other query) (body w db query) p.ordered
      (IsPermutation-sym _ _ (outputs-same w db other same query.order query.body)) p.same;
  ascends = p.ascends;
  shown = p.shown;
}

pub Begins-empty : (w : Datum) (db : Database) (query : QueryData) → Begins w db query []
Begins-empty w db query = let some = some_permitted w db query in record { rest = some.0; permitted = some.1 }

pub Begins-front : (w : Datum) (db : Database) (query : QueryData) (given rest : List Row)
    → Permits w db query (given ++ rest) → Begins w db query given
Begins-front w db query given rest permitted = record { rest = rest; permitted = permitted }

pub limited-map : {X Y : Type 0} (f : X → Y) (limit : Option ℤ) (xs : List X) → limited limit (map f xs) ≡ map f (limited limit xs)
limited-map f None xs = refl
limited-map f (Some (pos n)) xs = take-map f n xs
limited-map f (Some (negsuc n)) xs = refl

pub skipped-map : {X Y : Type 0} (f : X → Y) (offset : ℤ) (xs : List X) → skipped offset (map f xs) ≡ map f (skipped offset xs)
skipped-map f (pos n) xs = drop-map f n xs
skipped-map f (negsuc n) xs = refl
