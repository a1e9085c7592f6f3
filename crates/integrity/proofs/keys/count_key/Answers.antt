use Rattle.std.proofs.Common.{Err, Ok, refl}
use Rattle.std.proofs.lemmas.Result.{err_from_is_err_and}
use Rattle.btree.specs.image.Pages.{pages_seen}
use Rattle.integrity_trees.specs.entry_prefixes.Prefixes.{HasPrefixes}
use Rattle.integrity.proofs.KeyLemmas.{key_counts, told_of_key, uncounted}
use Rattle.integrity.proofs.keys.count_key.Goals as goal

pub returns-in-Rowid-clause-counts : goal.returns-in-Rowid-clause-counts
returns-in-Rowid-clause-counts g c = λ steady checked.
    uncounted (pages_seen c.args.pager.now.state) c.args.table.now _ _ c.new.ensures.items (rw c.in-Rowid.is at c.key.ensures.same)

pub returns-in_err-prefixes-in-Primary-clause-counts : goal.returns-in_err-prefixes-in-Primary-clause-counts
returns-in_err-prefixes-in-Primary-clause-counts g c = λ steady checked.
    let pages = pages_seen c.args.pager.now.state in
    let p = err_from_is_err_and c.from_residual-in_err-prefixes-in-Primary.result c.from_residual-in_err-prefixes-in-Primary.ensures.1 in
    rw (p.1, p.2)
    (told_of_key pages c.args.table.now _ (rw c.in-Primary.is at c.key.ensures.same) c.root.result c.in_ok-order-in-Primary.order.key c.root.ensures c.in_ok-order-in-Primary.ensures.key_is
    (HasPrefixes pages c.root.result c.in_ok-order-in-Primary.order.key) (Err c.in_err-prefixes-in-Primary.field-0.0)
    (λ widths descends counts enough number tree. c.in_err-prefixes-in-Primary.ensures.prefixes steady widths descends counts enough number tree) checked)

pub returns-in_ok-prefixes-in-Primary-clause-counts : goal.returns-in_ok-prefixes-in-Primary-clause-counts
returns-in_ok-prefixes-in-Primary-clause-counts g c = λ steady checked.
    let pages = pages_seen c.args.pager.now.state in
    let has = told_of_key pages c.args.table.now _ (rw c.in-Primary.is at c.key.ensures.same) c.root.result c.in_ok-order-in-Primary.order.key c.root.ensures c.in_ok-order-in-Primary.ensures.key_is
    (HasPrefixes pages c.root.result c.in_ok-order-in-Primary.order.key) (Ok c.in_ok-prefixes-in-Primary.prefixes)
    (λ widths descends counts enough number tree. c.in_ok-prefixes-in-Primary.ensures.prefixes steady widths descends counts enough number tree) checked in
    key_counts pages c.args.table.now _ (rw c.in-Primary.is at c.key.ensures.same) c.root.result c.in_ok-order-in-Primary.order.key c.root.ensures c.in_ok-order-in-Primary.ensures.key_is
    c.in_ok-prefixes-in-Primary.prefixes _ refl has
