use Rattle.std.proofs.Common.{◌≡◌, [], ◌∷◌, IsTrue, List, None, false, refl, subst, sym}
use Rattle.values.specs.Datum.{Datum, datum_of_ref}
use Rattle.records.specs.Fields.{AreUnread, Unread}
use Rattle.btree_cursor.specs.key_ranges.Ranges.{meets}
use Rattle.records_searches.proofs.MeetsLemmas.{no_record, only_done}
use Rattle.records_searches.proofs.meets.field_equals.Goals as goal

pub returns-then-is_done-clause-found : goal.returns-then-is_done-clause-found
returns-then-is_done-clause-found c =
    only_done (λ (fields : List Datum). false ≡ meets (datum_of_ref c.args.key ∷ []) None None fields) c.args.entry.now c.in_default.ensures.none refl

pub returns-in_default-clause-none : goal.returns-in_default-clause-none
returns-in_default-clause-none c = no_record c.args.entry.now c.in_default.ensures.none
    (λ done. let told : IsTrue false = subst (λ b. IsTrue b) c.if-is_done.false (c.is_done.ensures.1 (subst (λ (u : Unread). AreUnread u []) (sym c.in_default.ensures.stays) done)) in cc)
