use Rattle.std.proofs.Common.{◌≡◌, ◌∙◌, ◌<◌, ◌+◌, List, length, map, get_or, sym, ap, subst, arith}
use Rattle.std.proofs.lemmas.List.{get_or-map, length-map, length-set, map-set}
use Rattle.std.proofs.lemmas.Result.{err_from_is_err_and}
use Rattle.values.specs.Datum.{Datum, datum_of}
use Rattle.windows_groups.specs.declared.window_order.sorting.Entry.{Entry}
use Rattle.windows_groups.specs.window_order.Placed.{rows_in}
use Rattle.windows.specs.window_results.Put.{numbers_in}
use Rattle.windows.proofs.lemmas.window_results.PutLemmas.{ArePut, all_put, length-range, one_more_put, range_at}
use Rattle.windows.proofs.window_results.computed.Computed.put_along.Goals as goal

pub index_mut-requires : goal.index_mut-requires
index_mut-requires c =
    let entries = c.args.sequence.now.entries.now in
    let e = c.index-entries-here.result in
    let size = length-map entries (λ (e : Entry). e.index) in
    let number = get_or-map (λ (e : Entry). e.index) entries c.loop-here.here e 0 c.loop-here-test.true in
    let within = c.requires.within c.loop-here.here 0 (omega (arith, c.loop-here-test.true, size)) in
    omega (arith, within, number, c.loop-here.invariant.size)

pub loop-here-preserved : goal.loop-here-preserved
loop-here-preserved c =
    let entries = c.args.sequence.now.entries.now in
    let e = c.index-entries-here.result in
    let i = (get_or entries c.loop-here.here e).index in
    let v = c.in_ok-value.value in
    let results = c.loop-here.results.items in
    let numbers = numbers_in c.args.sequence.now in
    let size = length-map entries (λ (e : Entry). e.index) in
    let number = get_or-map (λ (e : Entry). e.index) entries c.loop-here.here e 0 c.loop-here-test.true in
    let inside : c.loop-here.here < length numbers = omega (arith, c.loop-here-test.true, size) in
    let long = length-map results datum_of in
    let within = c.requires.within c.loop-here.here 0 inside in
    record {
      size = length-set results i v ∙ c.loop-here.invariant.size;
      puts = λ value o window f want over known wanted.
          subst (λ (l : List Datum). ArePut want numbers (map datum_of c.args.results.now.items) l (c.loop-here.here + 1)) (sym (map-set datum_of results i v))
          (one_more_put want numbers (map datum_of c.args.results.now.items) (map datum_of results) c.loop-here.here i (datum_of v)
          (omega (arith, long, within, number, c.loop-here.invariant.size)) number
          (ap want (sym number) ∙ wanted c.loop-here.here inside ∙ c.in_ok-value.ensures.value value o window f over known)
          (c.loop-here.invariant.puts value o window f want over known wanted));
    }

pub returns-clause-values : goal.returns-clause-values
returns-clause-values c = λ value o window f want over known wanted.
    let entries = c.args.sequence.now.entries.now in
    let size = length-map entries (λ (e : Entry). e.index) in
    let all : c.loop-here.here ≡ length entries = omega arith in
    all_put want (numbers_in c.args.sequence.now) (map datum_of c.args.results.now.items) (map datum_of c.loop-here.results.items) c.loop-here.here (all ∙ sym size)
    (c.loop-here.invariant.puts value o window f want over known wanted)

pub returns-in_err-value-clause-overflow : goal.returns-in_err-value-clause-overflow
returns-in_err-value-clause-overflow c = λ is value window f over known.
    let p = err_from_is_err_and c.from_residual.result c.from_residual.ensures.1 in
    let entries = c.args.sequence.now.entries.now in
    let here = c.loop-here.here in
    let size = length-map entries (λ (e : Entry). map datum_of e.row.now) in
    let all = length-range (length (rows_in c.args.sequence.now)) 0 in
    let inside : here < length (rows_in c.args.sequence.now) = omega (arith, c.loop-here-test.true, size) in (
      here,
      here,
      omega (arith, inside, all),
      range_at (length (rows_in c.args.sequence.now)) 0 here here inside ∙ (let none : 0 + here ≡ here = omega arith in none),
      c.in_err-value.ensures.overflow (cc (is, p.1, p.2)) value window f over known,
    )
