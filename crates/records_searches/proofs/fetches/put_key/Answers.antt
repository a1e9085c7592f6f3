use Rattle.std.proofs.Common.{◌≡◌, ◌∙◌, ◌+◌, length, map, take, arith, ap, rules}
use Rattle.values.specs.Datum.{datum_of, datum_of_ref}
use Rattle.records_searches.proofs.FetchLemmas.{key_all, key_more, no_field}
use Rattle.records_searches.proofs.fetches.put_key.Goals as goal

pub returns-in_default-clause-key : goal.returns-in_default-clause-key
returns-in_default-clause-key c = λ values is all.
    absurd (no_field values c.args.places.now c.loop-next.next c.loop-next-test.true all (c.in_default.ensures.none values is))

pub loop-next-preserved : goal.loop-next-preserved
loop-next-preserved c =
    let here = take c.loop-next.next (map datum_of c.loop-next.key.items) in
    let there = take (c.loop-next.next + 1) (map datum_of c.put_value.new.values.items) in
    record {
      puts = λ values is.
          key_more values c.args.places.now c.loop-next.next here there (datum_of_ref c.in-Some.value) c.loop-next-test.true
          (c.in-Some.ensures.found values is) (c.loop-next.invariant.puts values is) c.in_ok-put_value.ensures.value;
      long = c.in_ok-put_value.ensures.long;
    }

pub returns-clause-key : goal.returns-clause-key
returns-clause-key c = λ values is all.
    let done : c.loop-next.next ≡ length c.args.places.now = search rules in
    ap (map datum_of) c.truncate.ensures.items
    ∙ key_all values c.args.places.now c.loop-next.next c.loop-next.key.items (omega arith) (c.loop-next.invariant.puts values is) done
