use Rattle.std.proofs.Common.{◌≡◌, arith, false, subst, sym}
use Rattle.std.proofs.lemmas.Result.{err_from_is_err_and}
use Rattle.btree_cursor.specs.key_ranges.Ranges.{Range, has_null}
use Rattle.btree_cursor.specs.key_ranges.View.{range as key_range}
use Rattle.records_searches.proofs.LandingLemmas.{index_landing, none_in}
use Rattle.records_searches.proofs.search.first_of_index.Goals as goal

pub returns-in_default-clause-rows : goal.returns-in_default-clause-rows
returns-in_default-clause-rows g c = λ steady table levels entries holds wide. (none_in c.args.range.now entries c.in_default.ensures.none, omega arith)

pub returns-in_err-entry-clause-rows : goal.returns-in_err-entry-clause-rows
returns-in_err-entry-clause-rows g c = λ steady table levels entries holds wide.
    let p = err_from_is_err_and c.from_residual.result c.from_residual.ensures.1 in
    let lands = rw c.as_slice.ensures.value at c.in_err-entry.ensures.lands in
    rw (p.1, p.2) (lands steady levels holds.values holds.searchable)

pub returns-clause-rows : goal.returns-clause-rows
returns-clause-rows g c =
    let e = c.in-Some.ensures.found in
    let null : has_null (key_range c.in-Some.bounds) ≡ false = subst (λ (r : Range). has_null r ≡ false) (sym e.0) e.1 in
    rw (← e.0)
    (λ steady table levels entries holds wide.
    let landed = rw c.as_slice.ensures.value at c.in_ok-entry.ensures.lands in
    let lands = landed steady levels holds.values holds.searchable in
    (index_landing _ table c.args.index.now levels (key_range c.in-Some.bounds) null entries holds wide c.in_ok-entry.entry _ lands.0, lands.1))
