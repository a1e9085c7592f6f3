use Rattle.std.proofs.Common.{◌≡◌, ◌∙◌, ◌++◌, ◌∷◌, ◌-◌, [], map, sym, ap, take}
use Rattle.std.proofs.lemmas.Iterator.Adapters.{YieldsList-from_vec}
use Rattle.std.proofs.lemmas.Iterator.Consumers.{YieldsList-end}
use Rattle.std.proofs.lemmas.List.{length-map, map_push, take-map}
use Rattle.values.specs.Datum.{datum_of}
use Rattle.semantics.proofs.ScanLemmas.{map-identity}
use Rattle.values.specs.Row.{rows_data}
use Rattle.operators_results.specs.Slices.{sliced}
use Rattle.logical_plan.specs.answers.Answers.{without}
use Rattle.windows_groups.proofs.FirstLemmas.{row_of}
use Rattle.operators_results.proofs.lemmas.sorted_results.ShownLemmas.{shown_more, slice_gives, slice_passes, slice_whole}
use Rattle.operators_results.proofs.sorted_results.gathered.shown_rows.Goals as goal

pub loop-row-preserved-in-Continue-1 : goal.loop-row-preserved-in-Continue-1
loop-row-preserved-in-Continue-1 c = λ rest.
    let hidden = c.args.hidden in
    let before = rows_data c.loop-row.shown.items in
    let row = without hidden (map datum_of c.in-Some.row.items) in
    let kept : map datum_of (take c.saturating_sub.result c.in-Some.row.items) ≡ row =
    sym (take-map datum_of c.saturating_sub.result c.in-Some.row.items)
    ∙ ap (λ n. take n (map datum_of c.in-Some.row.items))
    (c.saturating_sub.ensures ∙ ap (λ n. n - hidden) (c.len.ensures ∙ c.in-Some.row.ok.0 ∙ sym (length-map c.in-Some.row.items datum_of))) in
    let shown : rows_data c.push.new.self.items ≡ before ++ row ∷ [] =
    ap rows_data c.in_ok-push.ensures.items ∙ map_push row_of c.loop-row.shown.items c.truncate.new.self
    ∙ ap (λ row. before ++ row ∷ []) (ap (map datum_of) c.truncate.ensures.items ∙ kept) in
    ap (λ rows. sliced c.args.slice (rows ++ rest)) (shown_more hidden c.loop-row.yielded c.in-Some.row)
    ∙ slice_gives c.args.slice c.loop-row.slice c.gives.new.self (map (without hidden) (rows_data c.loop-row.yielded)) before row c.loop-row.invariant
    (λ row rows. c.gives.ensures.given c.if-gives.true row rows) rest
    ∙ ap (λ rows. rows ++ sliced c.gives.new.self rest) (sym shown)

pub loop-row-preserved : goal.loop-row-preserved
loop-row-preserved c = λ rest.
    let hidden = c.args.hidden in
    let row = without hidden (map datum_of c.in-Some.row.items) in
    ap (λ rows. sliced c.args.slice (rows ++ rest)) (shown_more hidden c.loop-row.yielded c.in-Some.row)
    ∙ slice_passes c.args.slice c.loop-row.slice c.gives.new.self (map (without hidden) (rows_data c.loop-row.yielded)) (rows_data c.loop-row.shown.items) row c.loop-row.invariant
    (λ row rows. c.gives.ensures.passed c.if-gives.false row rows) rest

pub returns : goal.returns
returns c =
    let given = c.into_iter-row-iterator.ensures.into_iter_gives in
    let end = YieldsList-end (YieldsList-from_vec c.args.rows.items given.0 (given.1 ∙ c.args.rows.ok.0))
    c.loop-row.yielded _ c.loop-row.yielded_by _ c.next.new.self c.in-None.is c.next.ensures.steps in
    slice_whole c.args.slice c.loop-row.slice (map (without c.args.hidden) (rows_data c.loop-row.yielded)) _ c.loop-row.invariant
    ∙ ap (λ rows. sliced c.args.slice (map (without c.args.hidden) (rows_data rows))) (sym (map-identity c.loop-row.yielded) ∙ end.0)
