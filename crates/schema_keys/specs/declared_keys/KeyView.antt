-- What the program's keys are.
use Rattle.std.specs.Prelude.{map, string_bytes}
use Rattle.schema_keys.specs.declared_keys.Keys.{KeyData}
use Rattle.schema_keys.specs.declared.declared_keys.keys.Key.{Key}

abbrev pub key_data : Key → KeyData
key_data key = record { is_primary = key.is_primary; columns = map (λ n. string_bytes n) key.columns.items }
