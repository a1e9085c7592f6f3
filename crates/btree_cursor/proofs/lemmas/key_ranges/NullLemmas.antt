-- NULLs among values in memory.
use Rattle.std.specs.Prelude.{◌≡◌, ◌||◌, List, [], ◌∷◌, map}
use Rattle.std.specs.List.{list_any}
use Rattle.std.proofs.Common.{ap, refl}
use Rattle.values.specs.declared.value.Value.{Value}
use Rattle.values.specs.Datum.{datum_of}
use Rattle.btree_cursor.specs.key_ranges.Ranges.{is_null}

pub any_null_datum : (values : List Value) → list_any is_null (map datum_of values) ≡ list_any (λ value. is_null (datum_of value)) values
any_null_datum [] = refl
any_null_datum (value ∷ rest) = ap (λ found. is_null (datum_of value) || found) (any_null_datum rest)
