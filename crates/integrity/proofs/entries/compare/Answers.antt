use Rattle.std.proofs.Common.{◌∙◌, inl, inr}
use Rattle.std.proofs.lemmas.Result.{err_from_is_err_and}
use Rattle.btree.specs.image.Pages.{pages_seen}
use Rattle.schema.specs.indexes.IndexView.{index_data}
use Rattle.integrity.proofs.EntryLemmas.{different_index, its_columns, its_index}
use Rattle.integrity.proofs.entries.compare.Goals as goal

pub returns-in_err-is_index_of-clause-fault : goal.returns-in_err-is_index_of-clause-fault
returns-in_err-is_index_of-clause-fault g c = λ steady checked.
    let p = err_from_is_err_and c.from_residual-in_err-is_index_of.result c.from_residual-in_err-is_index_of.ensures.1 in
    rw (p.1, p.2) (inl (c.in_err-is_index_of.ensures.same steady checked.table_is
    (its_columns (pages_seen c.args.pager.now.state) c.args.table.now (index_data c.args.index.now)
    (record { root = c.root.result; places = c.as_slice.result; others = c.others.result; descends = c.as_slice-2.result; condition = c.condition.result })
    c.root.ensures (c.as_slice.ensures.value ∙ c.in_ok-places.ensures) c.others.ensures c.args.entries (c.as_slice-2.ensures.value ∙ c.in_ok-descends.ensures) checked)))

pub returns-then-not-branch-clause-fault : goal.returns-then-not-branch-clause-fault
returns-then-not-branch-clause-fault g c = λ steady checked.
    let told = c.in_ok-is_index_of.ensures.same steady checked.table_is
    (its_columns (pages_seen c.args.pager.now.state) c.args.table.now (index_data c.args.index.now)
    (record { root = c.root.result; places = c.as_slice.result; others = c.others.result; descends = c.as_slice-2.result; condition = c.condition.result })
    c.root.ensures (c.as_slice.ensures.value ∙ c.in_ok-places.ensures) c.others.ensures c.args.entries (c.as_slice-2.ensures.value ∙ c.in_ok-descends.ensures) checked) in
    inr (
      c.in_ok-from_str.ensures.ok ∙ c.name.ensures,
      different_index (pages_seen c.args.pager.now.state) c.args.table.now (index_data c.args.index.now)
          (record { root = c.root.result; places = c.as_slice.result; others = c.others.result; descends = c.as_slice-2.result; condition = c.condition.result })
          c.root.ensures (c.as_slice.ensures.value ∙ c.in_ok-places.ensures) c.others.ensures c.condition.ensures
          (told.1 (λ h. let other = c.if-not-branch.true in cc)),
    )

pub returns-clause-entries : goal.returns-clause-entries
returns-clause-entries g c = λ steady checked.
    let its = its_columns (pages_seen c.args.pager.now.state) c.args.table.now (index_data c.args.index.now)
    (record { root = c.root.result; places = c.as_slice.result; others = c.others.result; descends = c.as_slice-2.result; condition = c.condition.result })
    c.root.ensures (c.as_slice.ensures.value ∙ c.in_ok-places.ensures) c.others.ensures c.args.entries (c.as_slice-2.ensures.value ∙ c.in_ok-descends.ensures) checked in
    let same = c.in_ok-is_index_of.ensures.same steady checked.table_is its in
    its_index (pages_seen c.args.pager.now.state) c.args.table.now (index_data c.args.index.now)
    (record { root = c.root.result; places = c.as_slice.result; others = c.others.result; descends = c.as_slice-2.result; condition = c.condition.result })
    c.root.ensures (c.as_slice.ensures.value ∙ c.in_ok-places.ensures) c.others.ensures c.condition.ensures (same.0 c.if-not-branch.false)
