use Rattle.std.proofs.Common.{List, [], arith, refl, subst, sym}
use Rattle.values.specs.Datum.{Datum, datum_of_ref, int}
use Rattle.records.specs.Fields.{AreUnread}
use Rattle.integrity_indexes.proofs.lemmas.index_batches.KeyLemmas.{if_none, if_some, last_of, read_last}
use Rattle.integrity_indexes.proofs.index_batches.fields.rowid_behind.Goals as goal

pub returns-in_err-fields-clause-none : goal.returns-in_err-fields-clause-none
returns-in_err-fields-clause-none c = rw c.from_residual.ensures (λ values rowid front is keyed. c.in_err-fields.ensures.none values is)

pub returns-in_err-last-clause-none : goal.returns-in_err-last-clause-none
returns-in_err-last-clause-none c = rw c.from_residual-in_err-last.ensures (λ values rowid front is keyed.
    let unread = (c.in_ok-fields.ensures.found values).1 is in
    let past = c.if-not-skip.ensures.past refl values unread in
    c.in_err-last.ensures.none (int rowid) []
    (subst (λ (l : List Datum). AreUnread c.skip.new.self l) (last_of c.args.columns values rowid front keyed) past.1))

pub returns-then-skip-clause-none : goal.returns-then-skip-clause-none
returns-then-skip-clause-none c = λ values rowid front is keyed.
    let unread = (c.in_ok-fields.ensures.found values).1 is in
    let past = c.if-not-skip.ensures.past refl values unread in
    let told = (c.in_ok-last.ensures.found (int rowid) []).0
    (subst (λ (l : List Datum). AreUnread c.skip.new.self l) (last_of c.args.columns values rowid front keyed) past.1) in
    let more = c.if-skip.ensures.past refl [] told.1 in
    absurd (omega (arith, more.0))

pub returns-clause-found : goal.returns-clause-found
returns-clause-found c = if_some c.number_of.result
    (λ rowid last_is values is.
    let unread = (c.in_ok-fields.ensures.found values).1 is in
    let past = c.if-not-skip.ensures.past refl values unread in
    read_last c.args.columns values c.skip.new.self c.read.new.self (datum_of_ref c.in_ok-last.last) past.1 c.in_ok-last.ensures.more c.in_ok-last.ensures.found
    (λ others un. (c.if-skip.ensures.none refl others un).0) rowid last_is)
    c.number_of.ensures.found

pub returns-clause-none : goal.returns-clause-none
returns-clause-none c = if_none c.number_of.result
    (λ other values rowid front is keyed.
    let unread = (c.in_ok-fields.ensures.found values).1 is in
    let past = c.if-not-skip.ensures.past refl values unread in
    let told = (c.in_ok-last.ensures.found (int rowid) []).0
    (subst (λ (l : List Datum). AreUnread c.skip.new.self l) (last_of c.args.columns values rowid front keyed) past.1) in
    other rowid (sym told.0))
    c.number_of.ensures.none
