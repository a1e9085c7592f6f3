use Rattle.std.proofs.Common.{All, IfSome, ap, map, subst, sym, ◌∙◌}
use Rattle.sql_reader_grammar.specs.create_trees.CreateView.{table_of}
use Rattle.schema_keys.specs.Created.{IsTable}
use Rattle.schema_keys.specs.declared_keys.KeyView.{key_data}
use Rattle.schema.specs.indexes.KeyIndexes.{HasColumn}
use Rattle.schema_keys.specs.table_keys.Automatic.{AutomaticData, WantIndexes}
use Rattle.schema_keys.specs.table_keys.AutomaticView.{automatic_data}
use Rattle.schema.proofs.KeyedLemmas.{have_columns}
use Rattle.schema.proofs.table_said.made_by.Goals as goal

pub key_indexes-requires : goal.key_indexes-requires
key_indexes-requires c =
    let tree = table_of c.args.created in
    let want = subst (λ ks. WantIndexes tree 1 ks (map automatic_data c.in_ok-automatic.automatic.items))
    (ap (map key_data) c.as_slice.ensures.value ∙ c.in_ok-keys.ensures) c.in_ok-automatic.ensures in
    subst (λ xs. All (λ (a : AutomaticData). All (HasColumn c.in-Some.table.columns) a.columns) (map automatic_data xs))
    (sym c.as_slice-2.ensures.value)
    (have_columns tree c.in-Some.table (map automatic_data c.in_ok-automatic.automatic.items) (subst (λ found. IfSome found (IsTable tree)) c.in-Some.is c.in_ok-table.ensures.made) want)
