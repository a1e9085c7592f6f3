use Rattle.std.proofs.Common.{◌≡◌, ◌∙◌, ◌+◌, ◌++◌, ◌∷◌, [], length, map, refl, sym, ap, Vec, Global, arith}
use Rattle.std.proofs.lemmas.Iterator.Adapters.{YieldsList-from_vec}
use Rattle.std.proofs.lemmas.Iterator.Consumers.{YieldsList-end}
use Rattle.std.proofs.lemmas.List.{length-map, map_push}
use Rattle.std.proofs.lemmas.Result.{err_from_is_err_and}
use Rattle.values.specs.Datum.{datum_of}
use Rattle.values.specs.declared.value.Value.{Value}
use Rattle.semantics.proofs.ScanLemmas.{map-identity}
use Rattle.windows.specs.Wanted.{column_of}
use Rattle.windows.proofs.BehindLemmas.{as_many, behind, behind_more, behind_windowed, values_at}
use Rattle.windows.proofs.windowed.windowed_rows.Goals as goal
use Rattle.resolver_terms.specs.SelectView.{call_of}

pub loop-given-init : goal.loop-given-init
loop-given-init c = rw c.in_ok-whole.ensures.items refl

pub loop-given-preserved : goal.loop-given-preserved
loop-given-preserved c =
    let shown = λ (row : Vec Value Global). map datum_of row.items in
    let columns = map shown c.in_ok-columns.columns.items in
    let done = map shown c.loop-given.yielded in
    let many : 0 + length done ≡ length c.loop-given.whole.items =
    let size = as_many columns 0 shown shown c.loop-given.whole.items c.loop-given.yielded c.loop-given.invariant in
    let long = length-map c.loop-given.yielded shown in
    omega (arith, size, long) in
    let here : c.len-in-loop-given.result ≡ 0 + length done =
    let told = c.len-in-loop-given.ensures in
    let whole = c.loop-given.whole.ok.0 in
    omega (arith, told, whole, many) in
    ap (map shown) c.in_ok-push.ensures.items ∙ map_push shown c.loop-given.whole.items _
    ∙ (λ j. c.loop-given.invariant j ++ (rw c.as_slice-in-loop-given.ensures.value at c.in_ok-push_values.ensures) j ∷ [])
    ∙ ap (λ at. behind columns 0 done ++ (shown c.in-Some.given ++ values_at columns at) ∷ []) here
    ∙ sym (behind_more columns 0 done (shown c.in-Some.given)) ∙ ap (behind columns 0) (sym (map_push shown c.loop-given.yielded c.in-Some.given))

pub returns-in_err-columns-clause-overflow : goal.returns-in_err-columns-clause-overflow
returns-in_err-columns-clause-overflow c = λ is.
    let p = err_from_is_err_and c.from_residual.result c.from_residual.ensures.1 in
    rw c.as_slice.ensures.value at (c.in_err-columns.ensures.overflow (cc (is, p.1, p.2)))

pub returns-clause-rows : goal.returns-clause-rows
returns-clause-rows c = λ w.
    let shown = λ (row : Vec Value Global). map datum_of row.items in
    let given = c.into_iter-given-iterator.ensures.into_iter_gives in
    let end = YieldsList-end (YieldsList-from_vec c.args.rows.items given.0 (given.1 ∙ c.args.rows.ok.0))
    c.loop-given.yielded _ c.loop-given.yielded_by _ c.next.new.self c.in-None.is c.next.ensures.steps in
    let all = sym (map-identity c.loop-given.yielded) ∙ end.0 in
    let columns : map shown c.in_ok-columns.columns.items ≡ map (column_of w (map shown c.args.rows.items)) (map call_of c.args.calls.now) =
    rw c.as_slice.ensures.value at (c.in_ok-columns.ensures.columns w) in
    c.loop-given.invariant ∙ (λ j. behind (columns j) 0 (map shown (all j))) ∙ behind_windowed w (map call_of c.args.calls.now) (map shown c.args.rows.items)

pub returns-clause-size : goal.returns-clause-size
returns-clause-size c =
    let shown = λ (row : Vec Value Global). map datum_of row.items in
    let given = c.into_iter-given-iterator.ensures.into_iter_gives in
    let end = YieldsList-end (YieldsList-from_vec c.args.rows.items given.0 (given.1 ∙ c.args.rows.ok.0))
    c.loop-given.yielded _ c.loop-given.yielded_by _ c.next.new.self c.in-None.is c.next.ensures.steps in
    as_many (map shown c.in_ok-columns.columns.items) 0 shown shown c.loop-given.whole.items c.loop-given.yielded c.loop-given.invariant
    ∙ ap length (sym (map-identity c.loop-given.yielded) ∙ end.0)
