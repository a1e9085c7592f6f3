use Rattle.std.proofs.Common.{refl}
use Rattle.records.proofs.ListLemmas.{empty}
use Rattle.records.proofs.UnreadLemmas.{all_read, none_unread}
use Rattle.records.proofs.fields.FieldReader.is_done.Goals as goal

pub returns-then-is_empty : goal.returns-then-is_empty
returns-then-is_empty c = rw (← c.self.view_is) (
  λ yes. all_read _ (empty c.self.inside.spelt.now c.is_empty.result c.is_empty.ensures c.if-is_empty.true)
      (empty c.self.inside.bodies.now c.is_empty-then-is_empty.result c.is_empty-then-is_empty.ensures yes),
  λ u. rw (c.is_empty-then-is_empty.ensures, (none_unread _ u).1) refl,
)

pub returns-else-is_empty : goal.returns-else-is_empty
returns-else-is_empty c = rw (← c.self.view_is) (
  λ yes. absurd cc,
  λ u. rw (c.is_empty.ensures, (none_unread _ u).0) refl,
)
