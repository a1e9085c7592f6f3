use Rattle.std.proofs.Common.{◌≡◌, ◌<◌, ℕ, List, Some, length, map, option_map, slice_get, rules, ◌∙◌, ap, sym, subst, inl, inr, ⊎_elim}
use Rattle.std.proofs.lemmas.List.{length-map}
use Rattle.std.proofs.lemmas.Option.{slice_get-map}
use Rattle.std.proofs.lemmas.Result.{err_from_is_err_and}
use Rattle.pager.proofs.CallLemmas.{SameImage-trans}
use Rattle.btree.specs.image.Pages.{pages_seen, Pages}
use Rattle.btree.proofs.SeenLemmas.{still_steady, same_pages}
use Rattle.integrity.specs.Tables.{IsAnyBroken, IsAnyChecked, any_tree}
use Rattle.integrity_trees.specs.tree_walk.Used.{IsTreeTwice, MarksTree}
use Rattle.schema_tables.specs.TableData.{TableData}
use Rattle.integrity.proofs.TreesLemmas.{next_twice, trees_all, trees_more, trees_none}
use Rattle.records_tables.proofs.lemmas.stored_rows.RowLemmas.{all_next, get_at}
use Rattle.integrity.proofs.trees.check_tables.Goals as goal

-- the tree of a table at a place is the tree at that place
tree_here : (tables : List TableData) (k : ℕ) (table : TableData) → slice_get tables k ≡ Some table
    → slice_get (map any_tree tables) k ≡ Some (any_tree table)
tree_here tables k table at = slice_get-map any_tree tables k ∙ ap (option_map any_tree) at

pub returns-in_err-counts-clause-fault : goal.returns-in_err-counts-clause-fault
returns-in_err-counts-clause-fault g c = λ steady.
    let inv = c.loop-table.invariant in
    let now = still_steady _ _ inv.stays steady in
    let p = err_from_is_err_and c.from_residual-in_err-counts.result c.from_residual-in_err-counts.ensures.1 in
    rw (p.1, p.2)
    let within : c.loop-table.table-index < length c.args.tables.now = search rules in
    let here = get_at c.args.tables.now c.loop-table.table-index c.table-item.result within (search rules) in
    (⊎_elim inl
    (λ cause. inr (⊎_elim
    (λ (broken : IsAnyBroken (pages_seen c.loop-table.pager.state) c.table-item.result c.in_err-counts.field-0.0).
    inl (c.table-item.result, search rules, subst (λ (q : Pages). IsAnyBroken q c.table-item.result c.in_err-counts.field-0.0) (same_pages _ _ inv.stays) broken))
    (λ (twice : IsTreeTwice (pages_seen c.loop-table.pager.state) (any_tree c.table-item.result) c.loop-table.used c.in_err-counts.field-0.0).
    inr (next_twice (pages_seen c.args.pager.now.state) (map any_tree c.args.tables.now) c.loop-table.table-index (any_tree c.table-item.result) (tree_here c.args.tables.now c.loop-table.table-index c.table-item.result here) c.args.used.now c.loop-table.used (inv.marks steady)
    c.in_err-counts.field-0.0
    (subst (λ (q : Pages). IsTreeTwice q (any_tree c.table-item.result) c.loop-table.used c.in_err-counts.field-0.0) (same_pages _ _ inv.stays) twice)))
    cause))
    (c.in_err-counts.ensures.fault now))

pub loop-table-preserved : goal.loop-table-preserved
loop-table-preserved g c =
    let inv = c.loop-table.invariant in
    let within : c.loop-table.table-index < length c.args.tables.now = search rules in
    let here = get_at c.args.tables.now c.loop-table.table-index c.table-item.result within (search rules) in
    record {
      stays = SameImage-trans _ _ _ inv.stays c.check_tree.ensures.reads.image;
      failures = c.in_ok-counts.ensures.reads.failures ∙ inv.failures;
      checked = λ steady.
          let now = still_steady _ _ inv.stays steady in
          let told = c.in_ok-counts.ensures in
          let tree : IsAnyChecked (pages_seen c.loop-table.pager.state) c.table-item.result c.in_ok-counts.counts =
          told.checked now in
          let one = subst (λ (q : Pages). IsAnyChecked q c.table-item.result c.in_ok-counts.counts) (same_pages _ _ inv.stays) tree in
          all_next (IsAnyChecked (pages_seen c.args.pager.now.state)) c.args.tables.now c.loop-table.trees.items c.push.new.self.items c.loop-table.table-index
          c.table-item.result c.in_ok-counts.counts here c.in_ok-push.ensures.items (inv.checked steady) one;
      marks = λ steady.
          let now = still_steady _ _ inv.stays steady in
          trees_more (pages_seen c.args.pager.now.state) (map any_tree c.args.tables.now) c.loop-table.table-index (any_tree c.table-item.result) (tree_here c.args.tables.now c.loop-table.table-index c.table-item.result here) c.args.used.now c.loop-table.used (inv.marks steady)
          c.check_tree.new.used
          (subst (λ (q : Pages). MarksTree q (any_tree c.table-item.result) c.loop-table.used c.check_tree.new.used) (same_pages _ _ inv.stays) (c.in_ok-counts.ensures.marks now));
    }

pub loop-table-init : goal.loop-table-init
loop-table-init g c = record {
  stays = search rules;
  failures = search rules;
  checked = search rules;
  marks = λ steady. trees_none (pages_seen c.args.pager.now.state) (map any_tree c.args.tables.now) c.args.used.now;
}

pub returns-clause-marks : goal.returns-clause-marks
returns-clause-marks g c = λ steady.
    let end : c.loop-table.table-index ≡ length c.args.tables.now = search rules in
    trees_all (pages_seen c.args.pager.now.state) (map any_tree c.args.tables.now) c.loop-table.table-index c.args.used.now c.loop-table.used
    (end ∙ sym (length-map c.args.tables.now any_tree))
    (c.loop-table.invariant.marks steady)
