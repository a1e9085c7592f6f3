use Rattle.std.proofs.Common.{refl}
use Rattle.btree_cursor.proofs.lemmas.index_entries.KeyLemmas.{IfNone-always}
use Rattle.records_searches.proofs.FetchLemmas.{found_if, none_if}
use Rattle.records_searches.proofs.fetches.field_at.Goals as goal

pub returns-in_err-fields-clause-none : goal.returns-in_err-fields-clause-none
returns-in_err-fields-clause-none c = IfNone-always c.from_residual.result (λ values is. absurd (c.in_err-fields.ensures.none values is))

pub returns-clause-found : goal.returns-clause-found
returns-clause-found c =
    found_if c.args.bytes.now c.args.at c.skip.new.self c.read.new.self c.read.result
    (λ values is. (c.if-not-skip.ensures.past refl values ((c.in_ok-fields.ensures.found values).1 is)).1) c.read.ensures.found c.read.ensures.more

pub returns-clause-none : goal.returns-clause-none
returns-clause-none c =
    none_if c.args.bytes.now c.args.at c.skip.new.self c.read.result
    (λ values is. (c.if-not-skip.ensures.past refl values ((c.in_ok-fields.ensures.found values).1 is)).1) c.read.ensures.none
