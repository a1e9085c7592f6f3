use Rattle.std.proofs.Common.{map}
use Rattle.values.specs.Datum.{datum_of}
use Rattle.btree_cursor.specs.key_ranges.View.{edge_option}
use Rattle.records_searches.proofs.MeetsLemmas.{ArePassed}
use Rattle.records_searches.proofs.meets.entry_meets.Given as goal

abbrev pub invariant-loop-value : goal.invariant-loop-value
invariant-loop-value l =
    ArePassed (map datum_of l.bounds.equal.now) (edge_option l.bounds.lower) (edge_option l.bounds.upper) l.value-index l.fn.entry l.entry
