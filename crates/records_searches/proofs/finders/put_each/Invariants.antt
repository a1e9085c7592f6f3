use Rattle.std.proofs.Common.{◌≡◌, ◌++◌, drop}
use Rattle.records_tables.specs.primary_rows.Firsts.{firsts}
use Rattle.records_searches.proofs.finders.put_each.Given as goal

abbrev pub invariant-loop-number : goal.invariant-loop-number
invariant-loop-number l = l.met.items ++ firsts l.met.items (drop l.number-index l.numbers) ≡ l.fn.met.items ++ firsts l.fn.met.items l.numbers
