use Rattle.std.proofs.Common.{◌≡◌, ◌∙◌, ◌++◌, List, [], ◌∷◌, ap, map, sym, arith}
use Rattle.std.specs.List.{range_with_len}
use Rattle.std.proofs.lemmas.List.{map_push}
use Rattle.expr.specs.Term.{Term, column}
use Rattle.expr.specs.View.{term}
use Rattle.operators_runs.proofs.lemmas.execution.ColumnLemmas.{columns_more}
use Rattle.operators_runs.proofs.execution.columns.whole_row.Goals as goal

pub loop-at-preserved : goal.loop-at-preserved
loop-at-preserved c =
    ap (map term) c.in_ok-push.ensures.items
    ∙ map_push term c.loop-at.columns.items c.column_at.result
    ∙ ap (λ (ts : List Term). ts ++ term c.column_at.result ∷ []) c.loop-at.invariant
    ∙ ap (λ (t : Term). map column (range_with_len 0 c.loop-at.at) ++ t ∷ []) c.column_at.ensures
    ∙ sym (columns_more c.loop-at.at)

pub returns : goal.returns
returns c =
    let end = c.loop-at.auto.at-end in
    let e : c.loop-at.at ≡ c.args.width = omega (arith, end, c.loop-at-test.false) in
    c.loop-at.invariant ∙ ap (λ n. map column (range_with_len 0 n)) e
