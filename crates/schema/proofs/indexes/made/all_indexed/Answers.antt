use Rattle.schema.proofs.lemmas.indexes.IndexLemmas.{are_indexed, indexed_more, named_twice_refused, none_indexed}
use Rattle.schema.proofs.indexes.made.all_indexed.Goals as goal

pub returns-then-not-are_distinct-clause-none : goal.returns-then-not-are_distinct-clause-none
returns-then-not-are_distinct-clause-none c =
    named_twice_refused c.args.columns.now c.args.named.now c.are_distinct.result c.are_distinct.ensures
    c.if-not-are_distinct.true

pub returns-in_default-clause-none : goal.returns-in_default-clause-none
returns-in_default-clause-none c =
    none_indexed c.args.columns.now c.args.named.now c.loop-wanted.wanted-index c.wanted-item.result c.loop-wanted-test.true
    c.wanted-item.is c.in_default.ensures.none

pub loop-wanted-preserved : goal.loop-wanted-preserved
loop-wanted-preserved c =
    indexed_more c.args.columns.now c.args.named.now c.loop-wanted.wanted-index c.wanted-item.result c.loop-wanted-test.true
    c.wanted-item.is c.loop-wanted.all.items c.push.new.self.items c.in-Some.column c.in-Some.ensures.found
    c.in_ok-push.ensures.items c.loop-wanted.invariant

pub returns-clause-found : goal.returns-clause-found
returns-clause-found c =
    are_indexed c.args.columns.now c.args.named.now c.are_distinct.result c.are_distinct.ensures c.loop-wanted.wanted-index
    c.loop-wanted.all.items c.if-not-are_distinct.false c.loop-wanted-test.false c.loop-wanted.invariant
