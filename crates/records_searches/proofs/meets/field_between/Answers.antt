use Rattle.std.proofs.Common.{◌≡◌, ◌∙◌, ◌&&◌, [], IsTrue, List, false, ap, refl, subst, sym}
use Rattle.values.specs.Datum.{Datum, datum_of_ref}
use Rattle.records.specs.Fields.{AreUnread, Unread}
use Rattle.btree_cursor.specs.key_ranges.Ranges.{is_above, is_below, meets}
use Rattle.btree_cursor.specs.key_ranges.View.{edge_option}
use Rattle.records_searches.proofs.MeetsLemmas.{first_read, no_record, only_done}
use Rattle.records_searches.proofs.meets.field_between.Goals as goal

pub returns-then-is_unbounded-clause-found : goal.returns-then-is_unbounded-clause-found
returns-then-is_unbounded-clause-found c = λ fields unread.
    let none = c.if-is_unbounded.ensures refl in
    rw (none.0, none.1) refl

pub returns-then-is_done-clause-found : goal.returns-then-is_done-clause-found
returns-then-is_done-clause-found c =
    only_done (λ (fields : List Datum). c.is_between.result ≡ meets [] (edge_option c.args.lower) (edge_option c.args.upper) fields) c.args.entry.now
    c.in_default.ensures.none c.is_between.ensures

pub returns-in_default-clause-none : goal.returns-in_default-clause-none
returns-in_default-clause-none c = no_record c.args.entry.now c.in_default.ensures.none
    (λ done. let told : IsTrue false = subst (λ b. IsTrue b) c.if-is_done.false (c.is_done.ensures.1 (subst (λ (u : Unread). AreUnread u []) (sym c.in_default.ensures.stays) done)) in cc)

pub returns-clause-found : goal.returns-clause-found
returns-clause-found c =
    first_read (λ (fields : List Datum). c.is_between-2.result ≡ meets [] (edge_option c.args.lower) (edge_option c.args.upper) fields) c.args.entry.now
    (datum_of_ref c.in-Some.field) c.in-Some.ensures.more
    (λ first others is.
    let here = ((c.in-Some.ensures.found first others).0 is).0 in
    c.is_between-2.ensures ∙ ap (λ (v : Datum). is_above (edge_option c.args.lower) v && is_below (edge_option c.args.upper) v) (sym here))
