-- Which lists of rows are answers of a query. (SELECT, "The ORDER BY clause" and "The LIMIT clause")
use Rattle.std.specs.Prelude.{◌≡◌, ℤ, pos, negsuc, List, ◌++◌, drop, map, take, Option, Some, None, FitsSigned, IsPermutation, IsSortedByKey, ⊤}
use Rattle.std.specs.Int.{w64}
use Rattle.values.specs.Datum.{Datum, null, int, text, blob}
use Rattle.semantics.specs.Query.{Direction, Key, QueryData}
use Rattle.values.specs.Row.{Row}
use Rattle.semantics.specs.Sequence.{keys_cmp}
use Rattle.values.specs.Database.{Database}
use Rattle.semantics.specs.Body.{Output, body}

-- what may stand for a result out of range: NULL or a whole number of 64 bits
abbrev pub IsStandIn : Datum → Type 0
IsStandIn null = ⊤
IsStandIn (int number) = FitsSigned w64 number
IsStandIn (text _) = ⊥
IsStandIn (blob _) = ⊥

abbrev pub key_directions : List Key → List Direction
key_directions order = map (λ key. key.direction) order

-- no row has lesser ORDER BY values than the row before it
abbrev pub Ascends : List Key → List Output → Type 0
Ascends order = IsSortedByKey (λ o. o.keys) (keys_cmp (key_directions order))

-- a negative OFFSET is 0
abbrev pub skipped : {X : Type 0} → ℤ → List X → List X
skipped (pos n) xs = drop n xs
skipped (negsuc n) xs = xs

-- a negative LIMIT is none
abbrev pub limited : {X : Type 0} → Option ℤ → List X → List X
limited None xs = xs
limited (Some (pos n)) xs = take n xs
limited (Some (negsuc n)) xs = xs

abbrev pub slice : {X : Type 0} → QueryData → List X → List X
slice query xs = limited query.limit (skipped query.offset xs)

-- Some permutation of the body ascends by its ORDER BY values, and these are the result rows of its slice by LIMIT and
-- OFFSET. Where ORDER BY leaves rows equal, any order of them is permitted.
pub record Permits (w : Datum) (db : Database) (query : QueryData) (rows : List Row) : Type 0 where
  pub ordered : List Output
  pub same : IsPermutation (body w db query) ordered
  pub ascends : Ascends query.order ordered
  pub shown : rows ≡ map (λ o. o.row) (slice query ordered)

-- an answer may begin with these rows
pub record Begins (w : Datum) (db : Database) (query : QueryData) (given : List Row) : Type 0 where
  pub rest : List Row
  pub permitted : Permits w db query (given ++ rest)
