use Rattle.std.proofs.Common.{◌∙◌, ap, length, subst, sym}
use Rattle.schema_tables.specs.TableData.{IsKeyWithin, RowKeyData}
use Rattle.schema_tables.specs.RowKeyView.{row_key_of}
use Rattle.integrity_indexes.proofs.row_batches.comparison.is_index_of.Goals as goal

pub is_index_by_batches-requires : goal.is_index_by_batches-requires
is_index_by_batches-requires g c = subst (λ (k : RowKeyData). IsKeyWithin k (length c.args.table.now.columns)) c.key.ensures.same c.key.ensures.within

pub returns-in-Rowid-clause-same : goal.returns-in-Rowid-clause-same
returns-in-Rowid-clause-same g c = λ steady one other.
    c.is_index_by_batches.ensures.same steady _ (sym c.key.ensures.same ∙ ap row_key_of c.in-Rowid.is) one other
