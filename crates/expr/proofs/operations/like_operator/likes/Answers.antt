use Rattle.std.proofs.Common.{◌∙◌}
use Rattle.expr.proofs.lemmas.operations.LikeLemmas.{whole_of, front_of, none_of}
use Rattle.expr.proofs.operations.like_operator.likes.Goals as goal

pub returns-in-None : goal.returns-in-None
returns-in-None c = none_of c.args.pattern.now c.args.text.now c.in-None.ensures.left

pub returns-in-None-split_first : goal.returns-in-None-split_first
returns-in-None-split_first c =
    c.is_empty.ensures
    ∙ whole_of c.args.pattern.now c.args.text.now c.in-Some.left.now c.in-Some.rest.now c.in-Some.ensures.left c.in-None-split_first.ensures.cases

pub returns-in-Some-split_first : goal.returns-in-Some-split_first
returns-in-Some-split_first c =
    c.matches_end.ensures
    ∙ front_of c.args.pattern.now c.args.text.now c.in-Some.left.now _ c.in-Some-split_first.after.now c.in-Some.rest.now c.in-Some.ensures.left c.in-Some-split_first.ensures.cases.0
