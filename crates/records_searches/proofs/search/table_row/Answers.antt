use Rattle.std.proofs.Common.{◌≡◌, ◌∙◌, false, true, rules, subst, sym}
use Rattle.btree_cursor.specs.key_ranges.Ranges.{Range}
use Rattle.std.proofs.lemmas.Result.{err_from_is_err_and}
use Rattle.btree.specs.Views.{cell_data}
use Rattle.records_searches.specs.Coming.{run_of}
use Rattle.records_searches.specs.Entries.{of_table}
use Rattle.records_searches.specs.Meets.{meets_range}
use Rattle.records_searches.proofs.ComingLemmas.{come_first, come_in, come_local, come_none, come_out, row_at}
use Rattle.records_searches.proofs.search.table_row.Goals as goal

pub returns-in_err-cell-clause-rows : goal.returns-in_err-cell-clause-rows
returns-in_err-cell-clause-rows g c = λ steady levels entries t. absurd (c.in_err-cell.ensures.entry _ _ _ _ _ _ t.at)

pub returns-in_default-clause-rows : goal.returns-in_default-clause-rows
returns-in_default-clause-rows g c = λ steady levels entries t.
    come_none (of_table c.args.table.now) _ levels c.args.range.now c.args.cursor.now entries t
    (rw c.in_default.is at (c.in_ok-cell.ensures.entry _ _ _ _ _ _ t.at))

pub returns-in_err-met-clause-rows : goal.returns-in_err-met-clause-rows
returns-in_err-met-clause-rows g c = λ steady levels entries t.
    let p = err_from_is_err_and c.from_residual-in_err-met.result c.from_residual-in_err-met.ensures.1 in
    let here = rw c.in-Some.is at (c.in_ok-cell.ensures.entry _ _ _ _ _ _ t.at) in
    let first = come_first (of_table c.args.table.now) _ levels c.args.range.now c.args.cursor.now entries t (cell_data c.in-Some.cell) here in
    rw (p.1, p.2) (c.in_err-met.ensures.met steady first.place first.entry first.is first.at)

pub returns-then-not-met-clause-rows : goal.returns-then-not-met-clause-rows
returns-then-not-met-clause-rows g c = λ steady levels entries t.
    let here = rw c.in-Some.is at (c.in_ok-cell.ensures.entry _ _ _ _ _ _ t.at) in
    let first = come_first (of_table c.args.table.now) _ levels c.args.range.now c.args.cursor.now entries t (cell_data c.in-Some.cell) here in
    let met = subst (λ (r : Range). c.in_ok-met.met ≡ meets_range r first.entry.values) c.key_range.ensures
    (c.in_ok-met.ensures.met steady first.place first.entry first.is first.at) in
    let out : c.in_ok-met.met ≡ false = search rules in
    come_out (of_table c.args.table.now) _ levels c.args.range.now c.args.cursor.now entries t (cell_data c.in-Some.cell) here (sym met ∙ out)

pub returns-clause-rows : goal.returns-clause-rows
returns-clause-rows g c = λ steady levels entries t.
    let here = rw c.in-Some.is at (c.in_ok-cell.ensures.entry _ _ _ _ _ _ t.at) in
    let first = come_first (of_table c.args.table.now) _ levels c.args.range.now c.args.cursor.now entries t (cell_data c.in-Some.cell) here in
    let met = subst (λ (r : Range). c.in_ok-met.met ≡ meets_range r first.entry.values) c.key_range.ensures
    (c.in_ok-met.ensures.met steady first.place first.entry first.is first.at) in
    let meets : c.in_ok-met.met ≡ true = search rules in (
      first.entry,
      run_of c.args.range.now first.more,
      come_in (of_table c.args.table.now) _ levels c.args.range.now c.args.cursor.now entries t (cell_data c.in-Some.cell) here (sym met ∙ meets),
      row_at _ c.args.table.now first.place first.entry (cell_data c.in-Some.cell) first.is first.at,
    )

pub returns-clause-more : goal.returns-clause-more
returns-clause-more g c = rw c.in-Some.is at c.in_ok-cell.ensures.more

pub returns-in_err-met-clause-local : goal.returns-in_err-met-clause-local
returns-in_err-met-clause-local g c = λ steady levels entries t none.
    let here = rw c.in-Some.is at (c.in_ok-cell.ensures.entry _ _ _ _ _ _ t.at) in
    c.row_is_in_range.ensures.local
    (come_local (of_table c.args.table.now) _ levels c.args.range.now c.args.cursor.now entries t none (cell_data c.in-Some.cell) here)

pub returns-then-not-met-clause-local : goal.returns-then-not-met-clause-local
returns-then-not-met-clause-local g c = λ steady levels entries t none.
    let here = rw c.in-Some.is at (c.in_ok-cell.ensures.entry _ _ _ _ _ _ t.at) in
    c.row_is_in_range.ensures.local
    (come_local (of_table c.args.table.now) _ levels c.args.range.now c.args.cursor.now entries t none (cell_data c.in-Some.cell) here)

pub returns-clause-local : goal.returns-clause-local
returns-clause-local g c = λ steady levels entries t none.
    let here = rw c.in-Some.is at (c.in_ok-cell.ensures.entry _ _ _ _ _ _ t.at) in
    c.row_is_in_range.ensures.local
    (come_local (of_table c.args.table.now) _ levels c.args.range.now c.args.cursor.now entries t none (cell_data c.in-Some.cell) here)

pub returns-clause-flat : goal.returns-clause-flat
returns-clause-flat g c = λ steady levels entries t none.
    let here = rw c.in-Some.is at (c.in_ok-cell.ensures.entry _ _ _ _ _ _ t.at) in
    come_local (of_table c.args.table.now) _ levels c.args.range.now c.args.cursor.now entries t none (cell_data c.in-Some.cell) here
