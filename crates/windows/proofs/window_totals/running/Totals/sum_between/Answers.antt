use Rattle.std.proofs.Common.{◌∙◌, ◌<◌, length, map, pos, arith}
use Rattle.std.proofs.lemmas.Int.{ints}
use Rattle.values.specs.Datum.{datum_of}
use Rattle.windows.proofs.lemmas.window_totals.TotalLemmas.{part_bounded, read_at, sum_of_part}
use Rattle.windows.proofs.window_totals.running.Totals.sum_between.Goals as goal

pub overflow_sub-result : goal.overflow_sub-result
overflow_sub-result c =
    let s = c.args.self.now in
    let xs = map datum_of s.values.items in
    let sums = s.sums.items in
    let last : c.args.to < length sums = omega (arith, s.totals.sums_size, c.requires.within) in
    let first : c.args.from < length sums = omega (arith, last, c.requires.ordered) in
    let to = c.index.ensures ∙ read_at sums c.args.to c.index.result.now (pos 0) last in
    let from = c.index-2.ensures ∙ read_at sums c.args.from c.index-2.result.now (pos 0) first in
    let part = sum_of_part xs sums s.counts.items s.totals c.args.from c.args.to c.requires.ordered c.requires.within in
    let bound = part_bounded xs sums s.counts.items s.totals c.args.from c.args.to c.requires.ordered c.requires.within in
    omega (arith, ints, to, from, part, bound.low, bound.high)

pub returns : goal.returns
returns c =
    let s = c.args.self.now in
    let xs = map datum_of s.values.items in
    let sums = s.sums.items in
    let last : c.args.to < length sums = omega (arith, s.totals.sums_size, c.requires.within) in
    let first : c.args.from < length sums = omega (arith, last, c.requires.ordered) in
    let to = c.index.ensures ∙ read_at sums c.args.to c.index.result.now (pos 0) last in
    let from = c.index-2.ensures ∙ read_at sums c.args.from c.index-2.result.now (pos 0) first in
    let part = sum_of_part xs sums s.counts.items s.totals c.args.from c.args.to c.requires.ordered c.requires.within in
    let bound = part_bounded xs sums s.counts.items s.totals c.args.from c.args.to c.requires.ordered c.requires.within in
    record {
      sum = omega (arith, ints, to, from, part, bound.low, bound.high);
      low = omega (arith, ints, to, from, part, bound.low, bound.high);
      high = omega (arith, ints, to, from, part, bound.low, bound.high);
    }
