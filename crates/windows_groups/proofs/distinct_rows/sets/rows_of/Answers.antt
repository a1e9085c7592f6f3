use Rattle.std.proofs.Common.{◌∙◌, ◌++◌, List, ap, append-nil, map, refl, sym}
use Rattle.std.proofs.lemmas.List.{map_push}
use Rattle.values.specs.Datum.{datum_of}
use Rattle.values.specs.Row.{Row, rows_data}
use Rattle.windows_groups.proofs.lemmas.distinct_rows.FirstLemmas.{taken_more}
use Rattle.windows_groups.proofs.distinct_rows.sets.rows_of.Goals as goal

pub loop-row-init : goal.loop-row-init
loop-row-init c = rw c.new-rows.ensures.items refl

pub loop-row-preserved : goal.loop-row-preserved
loop-row-preserved c =
    let before = rows_data c.loop-row.rows.items in
    rw (c.in_ok-push.ensures.items, map_push (λ row. map datum_of row.items) c.loop-row.rows.items c.into_values.result)
    (rw c.into_values.ensures (taken_more before c.in-Some.row c.loop-row.row-iterator c.next.new.self _ c.in-Some.ensures.steps c.loop-row.invariant))

pub returns : goal.returns
returns c =
    let given = c.into_iter-row-iterator.ensures.into_iter_gives in
    sym (append-nil (rows_data c.loop-row.rows.items))
    ∙ ap (λ (rest : List Row). rows_data c.loop-row.rows.items ++ rest) (sym c.in-None.ensures.steps.0)
    ∙ c.loop-row.invariant ∙ given.0
