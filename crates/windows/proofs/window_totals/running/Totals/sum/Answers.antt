use Rattle.std.proofs.Common.{◌≡◌, ◌∙◌, None, length, map, ap, sym, to_z, of_z, arith}
use Rattle.std.specs.Int.{w128}
use Rattle.std.proofs.lemmas.Int.{ints}
use Rattle.std.proofs.lemmas.Result.{IfOk-weaker}
use Rattle.values.specs.Datum.{datum_of}
use Rattle.expr.specs.operations.Operations.{settle}
use Rattle.semantics.specs.Groups.{total}
use Rattle.windows.specs.frames.Slices.{slices}
use Rattle.windows.specs.window_totals.Totals.{kept}
use Rattle.windows.proofs.lemmas.window_totals.TotalLemmas.{measure-sum, total-kept}
use Rattle.windows.proofs.window_totals.running.Totals.sum.Goals as goal

pub returns-clause-value : goal.returns-clause-value
returns-clause-value c =
    let values = slices c.args.ranges.now (map datum_of c.args.self.now.values.items) in
    let some : length (kept values) ≡ 0 → ⊥ = λ none. c.if-count_in-eq0.false (c.count_in.ensures ∙ none) in
    let off : to_z w128 (of_z w128 c.total_in.result) ≡ c.total_in.result = omega (arith, ints) in
    let number : to_z w128 (of_z w128 c.total_in.result) ≡ total (kept values) = off ∙ c.total_in.ensures ∙ sym (total-kept values) in
    IfOk-weaker c.whole_number.result _ _ (λ v settled o. measure-sum o (kept values) some ∙ ap (settle o) (sym number) ∙ settled o) c.whole_number.ensures.value

pub returns-clause-overflow : goal.returns-clause-overflow
returns-clause-overflow c = λ is.
    let values = slices c.args.ranges.now (map datum_of c.args.self.now.values.items) in
    let some : length (kept values) ≡ 0 → ⊥ = λ none. c.if-count_in-eq0.false (c.count_in.ensures ∙ none) in
    let off : to_z w128 (of_z w128 c.total_in.result) ≡ c.total_in.result = omega (arith, ints) in
    let number : to_z w128 (of_z w128 c.total_in.result) ≡ total (kept values) = off ∙ c.total_in.ensures ∙ sym (total-kept values) in
    measure-sum None (kept values) some ∙ ap (settle None) (sym number) ∙ c.whole_number.ensures.overflow is
