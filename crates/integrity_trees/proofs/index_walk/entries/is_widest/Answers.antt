use Rattle.std.proofs.Common.{◌≡◌, ◌≤◌, ℕ, subst, rules}
use Rattle.integrity_trees.proofs.lemmas.index_walk.FieldLemmas.{FrontRead, front_more, front_none, front_whole}
use Rattle.integrity_trees.proofs.index_walk.entries.is_widest.Goals as goal

pub loop-passed-init : goal.loop-passed-init
loop-passed-init c = front_none c.args.bytes.now c.in-Some.fields c.in-Some.ensures.found

pub loop-passed-preserved : goal.loop-passed-preserved
loop-passed-preserved c =
    front_more c.args.bytes.now _ c.read.new.self c.loop-passed._passed _ c.loop-passed.invariant c.in-Some-read.ensures.found

pub returns : goal.returns
returns c = λ done.
    let few : c.args.widths.key ≤ c.args.widths.most = search rules in
    let count : c.loop-passed._passed ≡ c.args.widths.most = search rules in
    front_whole c.args.widths c.args.bytes.now c.loop-passed.fields few
    (subst (λ (n : ℕ). FrontRead c.args.bytes.now c.loop-passed.fields n) count c.loop-passed.invariant) (c.is_done.ensures.0 done)
