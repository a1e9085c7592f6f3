-- Rows in order by their own values. (SELECT, "The ORDER BY clause")
use Rattle.std.specs.Prelude.{Bool, List, map}
use Rattle.std.specs.Ordering.{is_lt}
use Rattle.values.specs.Row.{Row}
use Rattle.semantics.specs.Query.{Direction, Key, KeyTerm}
use Rattle.semantics.specs.Sequence.{keys_cmp, value_at}
use Rattle.resolver_terms.specs.SelectView.{direction_of}
use Rattle.windows_groups.specs.declared.order.ResultKey.{ResultKey}

-- a term of ORDER BY that is a result column
abbrev pub result_key : ResultKey → Key
result_key key = record { by = KeyTerm.result key.at; direction = direction_of key.direction }

abbrev pub directions : List ResultKey → List Direction
directions order = map (λ key. direction_of key.direction) order

-- the values that a row is put in order by
abbrev pub key_values : List ResultKey → Row → Row
key_values order row = map (λ key. value_at row key.at) order

-- the values of ORDER BY on a row are less than those on another
abbrev pub comes_before : List ResultKey → Row → Row → Bool
comes_before order a b = is_lt (keys_cmp (directions order) (key_values order a) (key_values order b))
