use Rattle.std.proofs.lemmas.Result.{err_from_is_err_and}
use Rattle.std.proofs.Common.{◌++◌, ◌∙◌}
use Rattle.shell_sessions.proofs.SlotLemmas.{collecting_ends, collecting_stops, kept_trans, one_more_behind}
use Rattle.shell_sessions.proofs.slot.rows_behind.Goals as goal

pub returns-in_err-row-clause-rows : goal.returns-in_err-row-clause-rows
returns-in_err-row-clause-rows g c = λ query given stands.
    let p = err_from_is_err_and c.from_residual.result c.from_residual.ensures.1 in
    let step = c.in_err-row.ensures.step query (given ++ c.loop-rows.rows.items) (c.loop-rows.invariant.behind query given stands) in
    rw (p.1, p.2)
    (collecting_stops c.args.engine.now c.loop-rows.engine c.next_row.new.self query (given ++ c.loop-rows.rows.items) c.next_row.new.statement c.in_err-row.field-0.0
    c.loop-rows.invariant.image step.only step.rows given)

pub returns-clause-rows : goal.returns-clause-rows
returns-clause-rows g c = λ query given stands.
    collecting_ends c.args.engine.now c.loop-rows.engine query (given ++ c.loop-rows.rows.items) c.loop-rows.invariant.image
    (rw c.in_default.is at (c.in_ok-row.ensures.step query (given ++ c.loop-rows.rows.items) (c.loop-rows.invariant.behind query given stands)).rows)

pub loop-rows-preserved : goal.loop-rows-preserved
loop-rows-preserved g c = record {
  behind = λ query given stands.
      let step = rw c.in-Some.is at (c.in_ok-row.ensures.step query (given ++ c.loop-rows.rows.items) (c.loop-rows.invariant.behind query given stands)).rows in
      one_more_behind c.next_row.new.self query c.next_row.new.statement given c.loop-rows.rows.items c.push.new.self.items c.in-Some.row c.in_ok-push.ensures.items
      step.stands;
  over = c.in_ok-row.ensures.over;
  image = kept_trans c.args.engine.now c.loop-rows.engine c.next_row.new.self c.loop-rows.invariant.image
      (record { image = c.in_ok-row.ensures.reads.pages.image; tables = c.in_ok-row.ensures.reads.tables });
  unfailed = c.in_ok-row.ensures.reads.pages.failures ∙ c.loop-rows.invariant.unfailed;
}
