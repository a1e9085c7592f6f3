use Rattle.std.proofs.Common.{◌∙◌, ◌≤◌, inl, inr, length, map, sym, ap, arith}
use Rattle.std.proofs.lemmas.Result.{IfOk-weaker, err_from_is_err_and, on_ok_weaker}
use Rattle.values.specs.Datum.{datum_of}
use Rattle.windows_groups.specs.window_order.Entries.{rows_of}
use Rattle.windows.proofs.lemmas.window_partitions.AlikeLemmas.{as_many_entries}
use Rattle.windows.specs.Wanted.{wanted}
use Rattle.windows.proofs.PartLemmas.{all_wanted, leaves}
use Rattle.windows.proofs.OrderedLemmas.{is_sequence, keys_agree, numbers_within, ordered_same, put_on_rows, reached_by_function, reached_by_order}
use Rattle.windows.proofs.parts.put_part.Goals as goal
use Rattle.resolver_terms.specs.SelectView.{call_of}

pub put_in_order-requires-clause-within : goal.put_in_order-requires-clause-within
put_in_order-requires-clause-within c =
    let call = c.args.call.now in
    let e = c.in_ok-entries.ensures in
    let of = ordered_same c.as_slice-order.result.now call.window.order.items c.args.part.now c.in_ok-entries.entries.items c.as_slice-placed.result.now
    c.as_slice-order.ensures.value (sym c.as_slice-placed.ensures.value) (record { same = e.same; alike = e.ties; keys = e.keys; in_order = e.sequence }) in
    numbers_within call c.args.part.now c.as_slice-placed.result.now of (length c.args.results.now.items) c.requires

pub returns-clause-values : goal.returns-clause-values
returns-clause-values c =
    let call = c.args.call.now in
    let part = c.args.part.now in
    let placed = c.as_slice-placed.result.now in
    let e = c.in_ok-entries.ensures in
    let of = ordered_same c.as_slice-order.result.now call.window.order.items part c.in_ok-entries.entries.items placed
    c.as_slice-order.ensures.value (sym c.as_slice-placed.ensures.value) (record { same = e.same; alike = e.ties; keys = e.keys; in_order = e.sequence }) in
    on_ok_weaker c.put_in_order.result
    (λ h. λ w o rows is.
    put_on_rows call part placed of (wanted w o (call_of call) rows) (map datum_of c.args.results.now.items) (map datum_of c.put_in_order.new.results.items)
    (h w o (wanted w o (call_of call) rows) (keys_agree call part placed of w) (all_wanted w (call_of call) rows part placed is of.same of.alike (is_sequence call part placed of w) o)))
    c.put_in_order.ensures.values

pub returns-clause-added : goal.returns-clause-added
returns-clause-added c =
    let part = c.args.part.now in
    let placed = c.as_slice-placed.result.now in
    let size = ap length c.as_slice-placed.ensures.value ∙ as_many_entries part c.in_ok-entries.entries.items c.in_ok-entries.ensures.same in
    IfOk-weaker c.put_in_order.result (λ added. added ≤ length placed) (λ added. added ≤ length part) (λ added few. omega (arith, few, size)) c.put_in_order.ensures.added

pub returns-clause-overflow : goal.returns-clause-overflow
returns-clause-overflow c = λ is.
    let call = c.args.call.now in
    let part = c.args.part.now in
    let placed = c.as_slice-placed.result.now in
    let e = c.in_ok-entries.ensures in
    let of = ordered_same c.as_slice-order.result.now call.window.order.items part c.in_ok-entries.entries.items placed
    c.as_slice-order.ensures.value (sym c.as_slice-placed.ensures.value) (record { same = e.same; alike = e.ties; keys = e.keys; in_order = e.sequence }) in
    elim (c.put_in_order.ensures.overflow is) [
      | inl some ↦ inl (reached_by_function call part placed of some)
      | inr leave ↦ inr (λ w rows part_is. leaves w (call_of call) rows part placed part_is of.same of.alike (is_sequence call part placed of w) (leave w (keys_agree call part placed of w)))
    ]

pub returns-in_err-entries-clause-overflow : goal.returns-in_err-entries-clause-overflow
returns-in_err-entries-clause-overflow c = λ is.
    let p = err_from_is_err_and c.from_residual-in_err-entries.result c.from_residual-in_err-entries.ensures.1 in
    inl (reached_by_order c.args.call.now c.as_slice-order.result.now (rows_of c.args.part.now) c.as_slice-order.ensures.value (c.in_err-entries.ensures.overflow (cc (is, p.1, p.2))))
