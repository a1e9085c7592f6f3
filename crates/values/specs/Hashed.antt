-- What a row feeds a hasher, so that equal rows have equal hashes.
use Rattle.std.specs.Prelude.{List, ◌++◌}
use Rattle.std.specs.Hash.{HashWrites, usize, i64, str, slice, u8}
use Rattle.values.specs.Datum.{Datum, null, int, text, blob}

-- the class of a value, and then what it holds
abbrev pub datum_hash : Datum → HashWrites
datum_hash null = usize 0
datum_hash (int n) = usize 1 ++ i64 n
datum_hash (text bytes) = usize 2 ++ str bytes
datum_hash (blob bytes) = usize 3 ++ slice u8 bytes

abbrev pub row_hash : List Datum → HashWrites
row_hash row = slice datum_hash row
