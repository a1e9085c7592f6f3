use Rattle.std.proofs.Common.{[], IsTrue, false, subst, sym}
use Rattle.values.specs.Datum.{datum_of_ref}
use Rattle.records.specs.Fields.{AreUnread, Unread}
use Rattle.btree_cursor.proofs.lemmas.index_entries.KeyLemmas.{no_fields, no_record}
use Rattle.btree_cursor.proofs.index_entries.columns.field_order.Goals as goal

pub returns-then-is_done-clause-found : goal.returns-then-is_done-clause-found
returns-then-is_done-clause-found c = no_fields c.args.entry.now c.args.descends (datum_of_ref c.args.value) c.in_default.ensures.none

pub returns-in_default-clause-none : goal.returns-in_default-clause-none
returns-in_default-clause-none c = no_record c.args.entry.now c.in_default.ensures.none
    (λ done. let told : IsTrue false = subst (λ b. IsTrue b) c.if-is_done.false (c.is_done.ensures.1 (subst (λ (u : Unread). AreUnread u []) (sym c.in_default.ensures.stays) done)) in cc)
