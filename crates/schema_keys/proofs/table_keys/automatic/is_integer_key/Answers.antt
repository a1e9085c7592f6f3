use Rattle.std.proofs.Common.{IsTrue, ◌↔◌, map, string_bytes, subst}
use Rattle.sql_reader_grammar.specs.create_trees.CreateView.{column_of}
use Rattle.schema_keys.specs.table_keys.Automatic.{IsOneInteger}
use Rattle.schema_keys.proofs.table_keys.automatic.is_integer_key.Goals as goal

pub returns-then-key : goal.returns-then-key
returns-then-key c =
    let columns = map column_of c.args.created.now.columns.items in
    let names = subst (λ ns. IsTrue c.is_one_integer.result ↔ IsOneInteger columns (map (λ n. string_bytes n) ns)) c.as_slice-then-key.ensures.value
    (subst (λ cs. IsTrue c.is_one_integer.result ↔ IsOneInteger (map column_of cs) (map (λ n. string_bytes n) c.as_slice-then-key.result.now))
    c.as_slice.ensures.value c.is_one_integer.ensures) in (
      (λ e. record { primary_is = c.if-key.true; alone = names.0 e }),
      (λ is. names.1 is.alone),
    )
