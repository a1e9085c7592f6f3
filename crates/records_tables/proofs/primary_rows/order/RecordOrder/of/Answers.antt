use Rattle.std.proofs.Common.{◌≡◌, ◌∙◌, ℕ, List, [], ◌++◌, length, map, ap, subst, arith, rules}
use Rattle.std.specs.List.{range_with_len}
use Rattle.records_tables.specs.primary_rows.Firsts.{firsts, place_of}
use Rattle.records_tables.specs.primary_rows.Order.{primary_of, record_order}
use Rattle.records_tables.proofs.lemmas.primary_rows.FirstLemmas.{order_of}
use Rattle.records_tables.proofs.primary_rows.order.RecordOrder.of.Goals as goal

pub returns : goal.returns
returns c =
    let table = c.args.table.now in
    let none : c.new-order.result.items ≡ [] = search rules in
    let places : c.primary_places.result.now ≡ primary_of table.key = c.primary_places.ensures ∙ ap primary_of c.key.ensures.same in
    let key = c.put_firsts.new.met.items in
    let key_is : key ≡ [] ++ firsts [] (primary_of table.key) =
    subst (λ (l : List ℕ). key ≡ [] ++ firsts [] l) places (subst (λ (l : List ℕ). key ≡ l ++ firsts l c.primary_places.result.now) none c.in_ok-put_firsts.ensures) in
    let count : length c.columns-count.result.now ≡ length table.columns = ap length c.columns-count.ensures in
    let columns : c.as_slice.result.now ≡ range_with_len 0 (length table.columns) =
    c.as_slice.ensures.value ∙ c.in_ok-columns.ensures ∙ ap (λ (n : ℕ). range_with_len 0 n) count in
    let order = c.put_firsts-2.new.met.items in
    let order_is : order ≡ record_order table =
    order_of (primary_of table.key) (range_with_len 0 (length table.columns)) key order key_is
    (subst (λ (l : List ℕ). order ≡ key ++ firsts key l) columns c.in_ok-put_firsts-2.ensures) in
    record {
      key_is = let l = c.len-key.ensures in let e = ap length key_is in omega (arith, l, e);
      most_is = let l = c.len.ensures in let e = ap length order_is in omega (arith, l, e);
      places_are = c.in_ok-places.ensures ∙ ap (λ (l : List ℕ). map (place_of l) (range_with_len 0 (length c.columns-count.result.now))) (c.as_slice-2.ensures.value ∙ order_is)
          ∙ ap (λ (n : ℕ). map (place_of (record_order table)) (range_with_len 0 n)) count;
    }
