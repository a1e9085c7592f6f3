use Rattle.std.proofs.Common.{◌≡◌, ◌∙◌, ap, length, sym}
use Rattle.std.proofs.lemmas.List.{length-map}
use Rattle.btree.specs.image.Pages.{pages_seen}
use Rattle.integrity_trees.specs.index_walk.Checked.{HasCheckedIndex}
use Rattle.integrity_trees.specs.index_walk.Widths.{exactly}
use Rattle.schema.specs.indexes.IndexView.{index_data}
use Rattle.integrity.specs.Indexes.{places_of}
use Rattle.integrity.proofs.DistinctLemmas.{shown_of, told_alone, wide_enough}
use Rattle.integrity.proofs.index_trees.check_tree.Goals as goal

pub returns-clause-prefixes : goal.returns-clause-prefixes
returns-clause-prefixes g c = λ steady.
    let pages = pages_seen c.args.pager.now.state in
    let index = index_data c.args.index.now in
    let width : length c.columns.result.now ≡ length (places_of index) = ap length c.columns.ensures ∙ sym (length-map index.columns (λ c. c.place)) in
    shown_of pages index c.root.result (length c.columns.result.now) c.root.ensures width (λ counted. counted.1) c.check_counted.result
    (c.check_counted.ensures.prefixes steady
    (wide_enough pages index c.root.result (length c.columns.result.now) c.root.ensures width c.args.table.now _ (c.exactly.ensures ∙ ap exactly c.width_of.ensures)))

pub returns-clause-fault : goal.returns-clause-fault
returns-clause-fault g c =
    let index = index_data c.args.index.now in
    told_alone (λ counted. HasCheckedIndex c.args.pager.now.state c.exactly.result c.as_slice.result.now c.root.result counted.0)
    c.args.pager.now.state c.args.table.now index _ _ _ c.args.used.now c.check_counted.result c.check_counted.ensures.outcome
    (c.exactly.ensures ∙ ap exactly c.width_of.ensures) (c.as_slice.ensures.value ∙ c.in_ok-descends.ensures) c.root.ensures
