use Rattle.std.proofs.Common.{refl}
use Rattle.btree_cursor.proofs.lemmas.cursor.AdvanceLemmas.{advanced_steps}
use Rattle.btree_cursor.proofs.cursor.cursor.Cursor.next.Goals as goal

pub returns-then-advance_in_leaf-clause-outcome : goal.returns-then-advance_in_leaf-clause-outcome
returns-then-advance_in_leaf-clause-outcome g c = advanced_steps _ _ _ (c.if-advance_in_leaf.ensures.more refl)

pub returns-then-advance_in_leaf-clause-finished : goal.returns-then-advance_in_leaf-clause-finished
returns-then-advance_in_leaf-clause-finished g c = λ ended. let is = (c.if-advance_in_leaf.ensures.more refl).here_is in absurd (cc)

pub returns-clause-outcome : goal.returns-clause-outcome
returns-clause-outcome g c = rw (← c.if-advance_in_leaf.ensures.stays refl) c.advance.ensures.outcome

pub returns-clause-finished : goal.returns-clause-finished
returns-clause-finished g c = rw (← c.if-advance_in_leaf.ensures.stays refl) c.advance.ensures.finished
