use Rattle.std.proofs.Common.{◌≡◌, ◌<◌, ◌≤◌, ℕ, All, List, Some, length, map, option_map, slice_get, rules, ◌∙◌, ap, sym, subst, inl, inr, ⊎_elim}
use Rattle.std.proofs.lemmas.List.{length-map}
use Rattle.std.proofs.lemmas.Option.{slice_get-map}
use Rattle.std.proofs.lemmas.Result.{err_from_is_err_and}
use Rattle.pager.proofs.CallLemmas.{SameImage-trans}
use Rattle.btree.specs.image.Pages.{pages_seen, Pages}
use Rattle.btree.proofs.SeenLemmas.{still_steady, same_pages}
use Rattle.schema.specs.indexes.IndexData.{IndexData}
use Rattle.schema.specs.indexes.IndexView.{index_data}
use Rattle.integrity_trees.specs.tree_walk.Used.{IsTreeTwice, MarksTree}
use Rattle.schema_keys.specs.Names.{IsSameName}
use Rattle.schema_tables.specs.TableData.{TableData}
use Rattle.integrity.specs.Indexes.{IsBrokenIndexTree, IsCheckedAlone, IsCheckedIndexOf, IsOwned}
use Rattle.integrity.specs.Used.{index_tree_of}
use Rattle.pager.specs.declared.header.Header.{Header}
use Rattle.pager.specs.PagerState.{IsPageNumber}
use Rattle.integrity.proofs.EntryLemmas.{all_in}
use Rattle.integrity.proofs.TreesLemmas.{next_twice, trees_all, trees_more, trees_none}
use Rattle.records_tables.proofs.lemmas.stored_rows.FilledLemmas.{contains_at}
use Rattle.records_tables.proofs.lemmas.stored_rows.RowLemmas.{all_next, get_at}
use Rattle.integrity.proofs.index_trees.check_indexes.Goals as goal

-- the tree of an index at a place is the tree at that place
tree_here : (indexes : List IndexData) (k : ℕ) (index : IndexData) → slice_get indexes k ≡ Some index
    → slice_get (map index_tree_of indexes) k ≡ Some (index_tree_of index)
tree_here indexes k index at = slice_get-map index_tree_of indexes k ∙ ap (option_map index_tree_of) at

-- an index has its table
no_table : (tables : List TableData) (index : IndexData) → IsOwned tables index → All (λ table. ¬ IsSameName index.table table.name) tables → ⊥
no_table tables index owned none = all_in (λ table. ¬ IsSameName index.table table.name) tables owned.table none owned.is_table owned.owner

pub returns-in_default-clause-fault : goal.returns-in_default-clause-fault
returns-in_default-clause-fault g c =
    let within : c.loop-index.index-index < length c.args.indexes.now = search rules in
    let at = get_at c.args.indexes.now c.loop-index.index-index c.index-item.result within (search rules) in
    let all = map index_data c.args.indexes.now in
    let one = index_data c.index-item.result in
    let here : slice_get all c.loop-index.index-index ≡ Some one = slice_get-map index_data c.args.indexes.now c.loop-index.index-index ∙ ap (option_map index_data) at in
    absurd (no_table c.args.tables.now one (all_in (IsOwned c.args.tables.now) all one c.requires.owned (contains_at all c.loop-index.index-index one here)) c.in_default.ensures.none)

pub returns-in_default-clause-only : goal.returns-in_default-clause-only
returns-in_default-clause-only g c =
    let within : c.loop-index.index-index < length c.args.indexes.now = search rules in
    let at = get_at c.args.indexes.now c.loop-index.index-index c.index-item.result within (search rules) in
    let all = map index_data c.args.indexes.now in
    let one = index_data c.index-item.result in
    let here : slice_get all c.loop-index.index-index ≡ Some one = slice_get-map index_data c.args.indexes.now c.loop-index.index-index ∙ ap (option_map index_data) at in
    absurd (no_table c.args.tables.now one (all_in (IsOwned c.args.tables.now) all one c.requires.owned (contains_at all c.loop-index.index-index one here)) c.in_default.ensures.none)

pub returns-in_err-counts-clause-fault : goal.returns-in_err-counts-clause-fault
returns-in_err-counts-clause-fault g c = λ steady.
    let inv = c.loop-index.invariant in
    let now = still_steady _ _ inv.stays steady in
    let p = err_from_is_err_and c.from_residual-in_err-counts.result c.from_residual-in_err-counts.ensures.1 in
    rw (p.1, p.2)
    let within : c.loop-index.index-index < length c.args.indexes.now = search rules in
    let at = get_at c.args.indexes.now c.loop-index.index-index c.index-item.result within (search rules) in
    let all = map index_data c.args.indexes.now in
    let one = index_data c.index-item.result in
    let here : slice_get all c.loop-index.index-index ≡ Some one = slice_get-map index_data c.args.indexes.now c.loop-index.index-index ∙ ap (option_map index_data) at in
    (⊎_elim inl
    (λ cause. inr (⊎_elim
    (λ (broken : IsBrokenIndexTree (pages_seen c.loop-index.pager.state) c.in-Some.table.now one c.in_err-counts.field-0.0).
    inl (
      c.in-Some.table.now,
      one,
      c.in-Some.ensures.found.0,
      contains_at all c.loop-index.index-index one here,
      c.in-Some.ensures.found.1,
      subst (λ (q : Pages). IsBrokenIndexTree q c.in-Some.table.now one c.in_err-counts.field-0.0) (same_pages _ _ inv.stays) broken,
    ))
    (λ (twice : IsTreeTwice (pages_seen c.loop-index.pager.state) (index_tree_of one) c.loop-index.used c.in_err-counts.field-0.0).
    inr (next_twice (pages_seen c.args.pager.now.state) (map index_tree_of all) c.loop-index.index-index (index_tree_of one) (tree_here all c.loop-index.index-index one here) c.args.used.now c.loop-index.used (inv.marks steady)
    c.in_err-counts.field-0.0
    (subst (λ (q : Pages). IsTreeTwice q (index_tree_of one) c.loop-index.used c.in_err-counts.field-0.0) (same_pages _ _ inv.stays) twice)))
    cause))
    (c.in_err-counts.ensures.fault now))

pub loop-index-preserved : goal.loop-index-preserved
loop-index-preserved g c =
    let inv = c.loop-index.invariant in
    let within : c.loop-index.index-index < length c.args.indexes.now = search rules in
    let at = get_at c.args.indexes.now c.loop-index.index-index c.index-item.result within (search rules) in
    let all = map index_data c.args.indexes.now in
    let one = index_data c.index-item.result in
    let here : slice_get all c.loop-index.index-index ≡ Some one = slice_get-map index_data c.args.indexes.now c.loop-index.index-index ∙ ap (option_map index_data) at in
    record {
      stays = SameImage-trans _ _ _ inv.stays c.check_alone.ensures.reads.image;
      failures = c.in_ok-counts.ensures.reads.failures ∙ inv.failures;
      checked = λ steady.
          let now = still_steady _ _ inv.stays steady in
          let tree : IsCheckedAlone (pages_seen c.loop-index.pager.state) c.in-Some.table.now one c.in_ok-counts.counts =
          c.in_ok-counts.ensures.checked now in
          let owned = all_in (IsOwned c.args.tables.now) all one c.requires.owned (contains_at all c.loop-index.index-index one here) in
          let its = owned.alone c.in-Some.table.now c.in-Some.ensures.found.0 c.in-Some.ensures.found.1 in
          let found : IsCheckedIndexOf (pages_seen c.args.pager.now.state) c.args.tables.now one c.in_ok-counts.counts = record {
            owned = owned;
            checked = subst (λ (t : TableData). IsCheckedAlone (pages_seen c.args.pager.now.state) t one c.in_ok-counts.counts) its
                (subst (λ (q : Pages). IsCheckedAlone q c.in-Some.table.now one c.in_ok-counts.counts) (same_pages _ _ inv.stays) tree);
          } in
          all_next (IsCheckedIndexOf (pages_seen c.args.pager.now.state) c.args.tables.now) all c.loop-index.counted.items c.push.new.self.items c.loop-index.index-index
          one c.in_ok-counts.counts here c.in_ok-push.ensures.items (inv.checked steady) found;
      marks = λ steady.
          let now = still_steady _ _ inv.stays steady in
          trees_more (pages_seen c.args.pager.now.state) (map index_tree_of all) c.loop-index.index-index (index_tree_of one) (tree_here all c.loop-index.index-index one here) c.args.used.now c.loop-index.used (inv.marks steady)
          c.check_alone.new.used
          (subst (λ (q : Pages). MarksTree q (index_tree_of one) c.loop-index.used c.check_alone.new.used) (same_pages _ _ inv.stays) (c.in_ok-counts.ensures.marks now));
    }

pub loop-index-init : goal.loop-index-init
loop-index-init g c = record {
  stays = search rules;
  failures = search rules;
  checked = search rules;
  marks = λ steady. trees_none (pages_seen c.args.pager.now.state) (map index_tree_of (map index_data c.args.indexes.now)) c.args.used.now;
}

pub check_alone-requires-clause-number : goal.check_alone-requires-clause-number
check_alone-requires-clause-number g c =
    let within : c.loop-index.index-index < length c.args.indexes.now = search rules in
    let at = get_at c.args.indexes.now c.loop-index.index-index c.index-item.result within (search rules) in
    let all = map index_data c.args.indexes.now in
    let one = index_data c.index-item.result in
    let here : slice_get all c.loop-index.index-index ≡ Some one = slice_get-map index_data c.args.indexes.now c.loop-index.index-index ∙ ap (option_map index_data) at in
    let root : IsPageNumber c.args.pager.now.state one.root =
    all_in (λ (index : IndexData). IsPageNumber c.args.pager.now.state index.root) all one c.requires.roots (contains_at all c.loop-index.index-index one here) in
    (root.0, subst (λ (h : Header). one.root ≤ h.pages) (sym c.loop-index.invariant.stays.header) root.1)

pub returns-clause-marks : goal.returns-clause-marks
returns-clause-marks g c = λ steady.
    let end : c.loop-index.index-index ≡ length c.args.indexes.now = search rules in
    let all = map index_data c.args.indexes.now in
    trees_all (pages_seen c.args.pager.now.state) (map index_tree_of all) c.loop-index.index-index c.args.used.now c.loop-index.used
    (end ∙ sym (length-map c.args.indexes.now index_data) ∙ sym (length-map all index_tree_of))
    (c.loop-index.invariant.marks steady)
