use Rattle.std.proofs.Common.{◌≡◌, ℕ, List, rules, inl, subst}
use Rattle.std.proofs.lemmas.Result.{err_from_is_err_and}
use Rattle.std.specs.Cow.{cow_slice_items}
use Rattle.btree.specs.image.Pages.{pages_seen}
use Rattle.integrity_trees.specs.index_walk.Last.{Follows, FollowsNot}
use Rattle.integrity_trees.proofs.lemmas.index_walk.EntryLemmas.{stop_of}
use Rattle.integrity_trees.proofs.index_walk.entries.check_entry.Goals as goal

pub returns-in_err-bytes-clause-fault : goal.returns-in_err-bytes-clause-fault
returns-in_err-bytes-clause-fault g c = λ steady of.
    let p = err_from_is_err_and c.from_residual.result c.from_residual.ensures.1 in
    rw (p.1, p.2) (inl (c.in_err-bytes.ensures.fault steady of))

pub returns-in_err-follow-clause-fault : goal.returns-in_err-follow-clause-fault
returns-in_err-follow-clause-fault g c = λ steady of.
    let same : c.as_slice.result.now ≡ cow_slice_items c.in_ok-bytes.bytes = search rules in
    let read = c.in_ok-bytes.ensures.entry steady of in
    let p = err_from_is_err_and c.from_residual-in_err-follow.result c.from_residual-in_err-follow.ensures.1 in
    let told = subst (λ (m : ℕ). FollowsNot c.args.tree.now.widths c.args.tree.now.descends.now c.args.last.now (cow_slice_items c.in_ok-bytes.bytes) m c.in_err-follow.field-0.0)
    c.blamed_page-blamed.ensures
    (subst (λ (b : List ℕ). FollowsNot c.args.tree.now.widths c.args.tree.now.descends.now c.args.last.now b c.blamed_page-blamed.result c.in_err-follow.field-0.0) same
    c.in_err-follow.ensures.fault) in
    rw (p.1, p.2)
    (stop_of (pages_seen c.args.pager.now.state) c.args.tree.now.widths c.args.view.now.level c.args.n c.args.i (cow_slice_items c.in_ok-bytes.bytes) c.args.used.now c.entry_record.new.used
    read c.args.tree.now.descends.now c.args.last.now c.in_err-follow.field-0.0 c.args.used.now told)

pub returns-clause-entry : goal.returns-clause-entry
returns-clause-entry g c = λ steady of.
    let same : c.as_slice.result.now ≡ cow_slice_items c.in_ok-bytes.bytes = search rules in
    record {
      bytes = cow_slice_items c.in_ok-bytes.bytes;
      read = c.in_ok-bytes.ensures.entry steady of;
      follows = subst (λ (b : List ℕ). Follows c.args.tree.now.widths c.args.tree.now.descends.now c.args.last.now b c.args.n c.follow.new.self) same c.in_ok-follow.ensures.behind;
    }
