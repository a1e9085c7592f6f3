use Rattle.std.proofs.Common.{slice_get, rules, w64, SFits}
use Rattle.std.proofs.lemmas.Int.{to_z-of_z}
use Rattle.values.specs.Datum.{int}
use Rattle.btree_cursor.proofs.lemmas.index_entries.KeyLemmas.{IfNone-always}
use Rattle.records_searches.proofs.FetchLemmas.{not_number, past_none}
use Rattle.records_searches.proofs.fetches.int_at.Goals as goal

pub returns-in_err-value-clause-none : goal.returns-in_err-value-clause-none
returns-in_err-value-clause-none c =
    IfNone-always c.from_residual.result (λ values number is. past_none values c.args.at (int number) (c.in_err-value.ensures.none values is))

pub returns-in-Int-clause-found : goal.returns-in-Int-clause-found
returns-in-Int-clause-found c = λ values is.
    let fits : SFits w64 c.in-Int.number = search rules in
    let found = rw c.in-Int.is at (c.in_ok-value.ensures.found values is) in
    rw (to_z-of_z w64 c.in-Int.number fits) found

pub returns-in-Null-clause-none : goal.returns-in-Null-clause-none
returns-in-Null-clause-none c = λ values number is.
    not_number (slice_get values c.args.at) _ number tt (rw c.in-Null.is at (c.in_ok-value.ensures.found values is))

pub returns-in-Text-clause-none : goal.returns-in-Text-clause-none
returns-in-Text-clause-none c = λ values number is.
    not_number (slice_get values c.args.at) _ number tt (rw c.in-Text.is at (c.in_ok-value.ensures.found values is))

pub returns-in-Blob-clause-none : goal.returns-in-Blob-clause-none
returns-in-Blob-clause-none c = λ values number is.
    not_number (slice_get values c.args.at) _ number tt (rw c.in-Blob.is at (c.in_ok-value.ensures.found values is))
