use Rattle.std.proofs.Common.{◌+◌}
use Rattle.records_searches.specs.Entries.{kind_in}
use Rattle.records_searches.proofs.ComingLemmas.{at_count, come_later}
use Rattle.records_searches.proofs.search.next_entry.Goals as goal

pub returns-in-Ok-clause-rows : goal.returns-in-Ok-clause-rows
returns-in-Ok-clause-rows g c = λ steady searched levels range first later t.
    let asked = c.args.pager.now.state.asked in
    let gone = c.in-Ok.ensures.outcome.lists steady (kind_in searched) levels t.places (asked + t.budget)
    (at_count searched _ levels range c.args.cursor.now first later t asked) in (
      come_later searched _ levels range c.args.cursor.now first later t c.next.new.self c.next.new.pager.state.asked (asked + t.budget) gone.0,
      gone.1,
    )

pub returns-in-Err-clause-rows : goal.returns-in-Err-clause-rows
returns-in-Err-clause-rows g c = λ steady searched levels range first later t.
    let asked = c.args.pager.now.state.asked in
    let sound = c.in-Err.ensures.outcome.sound steady (kind_in searched) levels t.places (asked + t.budget)
    (at_count searched _ levels range c.args.cursor.now first later t asked) in
    rw (c.search_fault.ensures.read sound) sound
