use Rattle.std.proofs.Common.{◌∙◌, ◌<◌, length, map, arith}
use Rattle.values.specs.Datum.{datum_of}
use Rattle.windows.proofs.lemmas.window_totals.TotalLemmas.{count_of_part, part_few, read_at}
use Rattle.windows.proofs.window_totals.running.Totals.count_between.Goals as goal

pub overflow_sub-result : goal.overflow_sub-result
overflow_sub-result c =
    let s = c.args.self.now in
    let xs = map datum_of s.values.items in
    let counts = s.counts.items in
    let last : c.args.to < length counts = omega (arith, s.totals.counts_size, c.requires.within) in
    let first : c.args.from < length counts = omega (arith, last, c.requires.ordered) in
    let to = c.index.ensures ∙ read_at counts c.args.to c.index.result.now 0 last in
    let from = c.index-2.ensures ∙ read_at counts c.args.from c.index-2.result.now 0 first in
    let part = count_of_part xs s.sums.items counts s.totals c.args.from c.args.to c.requires.ordered c.requires.within in
    omega (arith, to, from, part)

pub returns : goal.returns
returns c =
    let s = c.args.self.now in
    let xs = map datum_of s.values.items in
    let counts = s.counts.items in
    let last : c.args.to < length counts = omega (arith, s.totals.counts_size, c.requires.within) in
    let first : c.args.from < length counts = omega (arith, last, c.requires.ordered) in
    let to = c.index.ensures ∙ read_at counts c.args.to c.index.result.now 0 last in
    let from = c.index-2.ensures ∙ read_at counts c.args.from c.index-2.result.now 0 first in
    let part = count_of_part xs s.sums.items counts s.totals c.args.from c.args.to c.requires.ordered c.requires.within in
    let few = part_few xs s.sums.items counts s.totals c.args.from c.args.to c.requires.ordered c.requires.within in
    record { count = omega (arith, to, from, part); few = omega (arith, to, from, part, few) }
