use Rattle.std.proofs.Common.{map, string_bytes}
use Rattle.sql_reader_grammar.specs.create_trees.CreateView.{column_of}
use Rattle.schema_keys.proofs.ServedLemmas.{columns_named, columns_unnamed}
use Rattle.schema_keys.proofs.served.are_columns.Goals as goal

pub returns-then-are_named : goal.returns-then-are_named
returns-then-are_named c =
    columns_named (λ n. string_bytes n) (map column_of c.args.columns.now) c.args.names.now c.are_named.result c.are_named.ensures
    c.are_different.result c.are_different.ensures c.if-are_named.true

pub returns-else-are_named : goal.returns-else-are_named
returns-else-are_named c =
    columns_unnamed (λ n. string_bytes n) (map column_of c.args.columns.now) c.args.names.now c.are_named.result c.are_named.ensures
    c.if-are_named.false
