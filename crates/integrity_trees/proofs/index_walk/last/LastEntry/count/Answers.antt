use Rattle.std.proofs.Common.{ℕ, List, arith, rules, subst, sym}
use Rattle.records.specs.Record.{IsRecord}
use Rattle.integrity_trees.proofs.lemmas.index_walk.EntryLemmas.{first_next, later_next}
use Rattle.integrity_trees.proofs.index_walk.last.LastEntry.count.Goals as goal

pub returns-then-is_none-clause-counts : goal.returns-then-is_none-clause-counts
returns-then-is_none-clause-counts c = λ yes.
    rw (← c.self.view_is)
    (first_next c.args.tree.now.widths _ c.args.bytes.now _ c.add_first.ensures.long (search rules) c.add_first.ensures.counted)

pub returns-clause-counts : goal.returns-clause-counts
returns-clause-counts c = λ yes.
    rw (← c.self.view_is)
    (later_next c.args.tree.now.widths _ c.args.bytes.now _ c.add_later.ensures.long (search rules)
    (λ rows one row ends one_is one_wide row_is row_wide few are.
    let narrow = one_wide.least in
    let enough = row_wide.least in
    let held = subst (λ (b : List ℕ). IsRecord b one) (sym c.as_slice.ensures.value) one_is in
    c.add_later.ensures.counted rows one row ends row_is (omega (arith, few, enough))
    (c.compare_keys-agreeing.ensures.agree one row held narrow row_is enough)
    (λ less. c.compare_keys-agreeing.ensures.differ one row held narrow row_is enough (omega (arith, less, few))) are))
