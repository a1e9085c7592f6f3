use Rattle.std.proofs.Common.{map}
use Rattle.sql_reader_grammar.specs.create_trees.CreateView.{column_of}
use Rattle.schema_keys.specs.declared_keys.KeyView.{key_data}
use Rattle.schema_keys.proofs.KeyLemmas.{keys_apart, keys_astray}
use Rattle.schema_keys.proofs.keys.are_keys.Goals as goal

pub returns-then-are_of_columns : goal.returns-then-are_of_columns
returns-then-are_of_columns c =
    keys_apart (map column_of c.args.columns.now) (map key_data c.args.keys.now) c.are_of_columns.result c.are_of_columns.ensures
    c.are_apart.result c.are_apart.ensures c.if-are_of_columns.true

pub returns-else-are_of_columns : goal.returns-else-are_of_columns
returns-else-are_of_columns c =
    keys_astray (map column_of c.args.columns.now) (map key_data c.args.keys.now) c.are_of_columns.result c.are_of_columns.ensures
    c.if-are_of_columns.false
