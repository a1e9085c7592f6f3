use Rattle.std.proofs.Common.{◌≡◌, ◌∙◌, ◌+◌, ℕ, List, ap, length, subst, sym}
use Rattle.std.proofs.lemmas.List.{length-map}
use Rattle.schema.specs.indexes.IndexView.{index_data}
use Rattle.schema_tables.specs.TableData.{RowKeyData}
use Rattle.integrity_indexes.specs.index_rows.Entries.{width_by}
use Rattle.integrity.specs.Indexes.{columns_of, places_of}
use Rattle.integrity.proofs.index_trees.width_of.Goals as goal

pub returns-in-Rowid : goal.returns-in-Rowid
returns-in-Rowid c =
    let index = index_data c.args.index.now in
    let long : length c.columns-columns.result.now ≡ length (places_of index) = ap length c.columns-columns.ensures ∙ sym (length-map index.columns (λ c. c.place)) in
    subst (λ (k : RowKeyData). length c.columns-columns.result.now + 1 ≡ width_by k (columns_of index)) (rw c.in-Rowid.is at c.key.ensures.same)
    (ap (λ (n : ℕ). n + 1) long)

pub returns-in-Primary : goal.returns-in-Primary
returns-in-Primary c =
    let index = index_data c.args.index.now in
    let long : length c.columns-columns.result.now ≡ length (places_of index) = ap length c.columns-columns.ensures ∙ sym (length-map index.columns (λ c. c.place)) in
    subst (λ (k : RowKeyData). length c.columns-columns.result.now + length c.others.result.now ≡ width_by k (columns_of index)) (rw c.in-Primary.is at c.key.ensures.same)
    (ap (λ (n : ℕ). n + length c.others.result.now) long ∙ ap (λ (l : List ℕ). length (places_of index) + length l) c.others.ensures)
