use Rattle.std.proofs.Common.{◌≡◌, false, sym, ◌∙◌}
use Rattle.expr.specs.operations.Like.{likes}
use Rattle.expr.proofs.lemmas.operations.LikeLemmas.{any_rest_whole, whole_of, place_of, none_of, last_of, later_of}
use Rattle.expr.proofs.operations.like_operator.matches_end.Goals as goal
use Rattle.expr.proofs.operations.like_operator.matches_end.Goals.{in-Some+in-None+else-is_empty, in_default}

pub loop-left-preserved-in-Some-split_first : goal.loop-left-preserved-in-Some-split_first
loop-left-preserved-in-Some-split_first c =
    place_of c.loop-left.segments.now c.loop-left.rest.now c.in-Some.left.now _ c.in-Some-split_first.after.now c.in-Some.behind.now c.in-Some.ensures.left c.in-Some-split_first.ensures.cases.0
    ∙ c.loop-left.invariant

pub returns-then-is_empty : goal.returns-then-is_empty
returns-then-is_empty c =
    sym
    (any_rest_whole (likes c.loop-left.segments.now) c.loop-left.rest.now
    (sym (whole_of c.loop-left.segments.now c.loop-left.rest.now c.in-Some.left.now c.in-Some.behind.now c.in-Some.ensures.left c.in-None.ensures.cases)
    ∙ sym c.is_empty.ensures
    ∙ c.if-is_empty.true))
    ∙ c.loop-left.invariant

-- the rest itself does not match
fails : (c : goal.In-None-split_first) → false ≡ likes c.loop-left.segments.now c.loop-left.rest.now
fails c = elim c.match-past_segment.branch [
  | in-Some+in-None+else-is_empty w ↦
      sym (sym w.is_empty.ensures ∙ w.if-is_empty.false)
      ∙ whole_of c.loop-left.segments.now c.loop-left.rest.now w.in-Some.left.now w.in-Some.behind.now w.in-Some.ensures.left w.in-None.ensures.cases
  | in_default w ↦ none_of c.loop-left.segments.now c.loop-left.rest.now w.in_default.ensures.left
]

-- the same where more of it follows
fails_before : (c : goal.In-Some-split_first-2) → false ≡ likes c.loop-left.segments.now c.loop-left.rest.now
fails_before c = elim c.match-past_segment.branch [
  | in-Some+in-None+else-is_empty w ↦
      sym (sym w.is_empty.ensures ∙ w.if-is_empty.false)
      ∙ whole_of c.loop-left.segments.now c.loop-left.rest.now w.in-Some.left.now w.in-Some.behind.now w.in-Some.ensures.left w.in-None.ensures.cases
  | in_default w ↦ none_of c.loop-left.segments.now c.loop-left.rest.now w.in_default.ensures.left
]

pub returns-in-None-split_first : goal.returns-in-None-split_first
returns-in-None-split_first c =
    last_of c.loop-left.segments.now c.loop-left.rest.now c.in-None-split_first.ensures.cases (fails c) ∙ c.loop-left.invariant

pub loop-left-preserved : goal.loop-left-preserved
loop-left-preserved c =
    later_of c.loop-left.segments.now c.loop-left.rest.now _ c.in-Some-split_first-2.later.now c.in-Some-split_first-2.ensures.cases.0 (fails_before c)
    ∙ c.loop-left.invariant
