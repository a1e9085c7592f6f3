use Rattle.records.specs.Fields.{AreUnread}
use Rattle.records.specs.Record.{IsRecord}
use Rattle.btree_cursor.specs.key_ranges.View.{range}
use Rattle.btree_cursor.proofs.lemmas.index_entries.KeyLemmas.{IfNone-always}
use Rattle.records_searches.proofs.MeetsLemmas.{met_in, none_in}
use Rattle.records_searches.proofs.cells.record_meets.Goals as goal

pub returns-in_err-entry-clause-none : goal.returns-in_err-entry-clause-none
returns-in_err-entry-clause-none c = IfNone-always c.from_residual.result (λ values is. c.in_err-entry.ensures.none values is)

pub returns-clause-found : goal.returns-clause-found
returns-clause-found c =
    met_in (AreUnread c.in_ok-entry.entry) (IsRecord c.args.bytes.now) (range c.args.bounds.now) c.entry_meets.result
    (λ values is. (c.in_ok-entry.ensures.found values).1 is) c.entry_meets.ensures.found

pub returns-clause-none : goal.returns-clause-none
returns-clause-none c =
    none_in (AreUnread c.in_ok-entry.entry) (IsRecord c.args.bytes.now) c.entry_meets.result (λ values is. (c.in_ok-entry.ensures.found values).1 is)
    c.entry_meets.ensures.none
