use Rattle.std.proofs.Common.{◌≡◌, false, rules, true}
use Rattle.std.proofs.lemmas.Result.{err_from_is_err_and}
use Rattle.std.specs.Cow.{cow_slice_items}
use Rattle.btree_cursor.specs.key_ranges.View.{range}
use Rattle.records.specs.Record.{IsRecord}
use Rattle.records_searches.proofs.ComingLemmas.{bytes_in, bytes_out}
use Rattle.records_searches.proofs.cells.bytes_in_range.Goals as goal

pub returns-in_err-bytes-clause-bytes : goal.returns-in_err-bytes-clause-bytes
returns-in_err-bytes-clause-bytes g c = λ steady values has.
    let p = err_from_is_err_and c.from_residual.result c.from_residual.ensures.1 in
    rw (p.1, p.2) (c.in_err-bytes.ensures.bytes steady values has)

pub returns-in_default-clause-bytes : goal.returns-in_default-clause-bytes
returns-in_default-clause-bytes g c = λ steady values has.
    let is : IsRecord c.as_slice.result.now values = search (rules, c.in_ok-bytes.ensures.bytes steady values has) in
    absurd (c.in_default.ensures.none values is)

pub returns-then-met-clause-bytes : goal.returns-then-met-clause-bytes
returns-then-met-clause-bytes g c = λ steady values has.
    let is : IsRecord c.as_slice.result.now values = search (rules, c.in_ok-bytes.ensures.bytes steady values has) in
    let meets : c.in-Some.met ≡ true = search rules in
    bytes_in (range c.args.bounds.now) values (cow_slice_items c.in_ok-bytes.bytes) c.in-Some.met (c.in_ok-bytes.ensures.bytes steady values has)
    (c.in-Some.ensures.found values is) meets

pub returns-clause-bytes : goal.returns-clause-bytes
returns-clause-bytes g c = λ steady values has.
    let is : IsRecord c.as_slice.result.now values = search (rules, c.in_ok-bytes.ensures.bytes steady values has) in
    let out : c.in-Some.met ≡ false = search rules in
    bytes_out (range c.args.bounds.now) values c.in-Some.met (c.in-Some.ensures.found values is) out
