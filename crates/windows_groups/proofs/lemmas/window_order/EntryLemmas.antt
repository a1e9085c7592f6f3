-- What is read of the rows of a partition.
use Rattle.std.proofs.Common.{◌≡◌, ◌<◌, ℕ, zero, suc, List, [], ◌∷◌, get_or, length, map, refl, arith}
use Rattle.std.proofs.lemmas.List.{length-map}
use Rattle.values.specs.Datum.{datum_of}
use Rattle.values.specs.Row.{Row}
use Rattle.semantics.specs.Windows.{row_at}
use Rattle.windows_groups.specs.declared.window_order.sorting.Entry.{Entry}
use Rattle.windows_groups.specs.window_order.Entries.{keys_of, rows_of}

pub key_at : (entries : List Entry) (i : ℕ) (e : Entry) → i < length entries → row_at (keys_of entries) i ≡ map datum_of (get_or entries i e).keys.items
key_at [] i e h = absurd (omega (arith, h))
key_at (x ∷ entries) zero e h = refl
key_at (x ∷ entries) (suc i) e h = key_at entries i e (omega (arith, h))

pub length-keys_of : (entries : List Entry) → length (keys_of entries) ≡ length entries
length-keys_of entries = length-map entries (λ (entry : Entry). map datum_of entry.keys.items)

pub row_of_at : (entries : List Entry) (i : ℕ) (e : Entry) (d : Row) → i < length entries → get_or (rows_of entries) i d ≡ map datum_of (get_or entries i e).row.now
row_of_at [] i e d h = absurd (omega (arith, h))
row_of_at (x ∷ entries) zero e d h = refl
row_of_at (x ∷ entries) (suc i) e d h = row_of_at entries i e d (omega (arith, h))
