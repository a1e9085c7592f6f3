use Rattle.std.proofs.Common.{◌≡◌, ◌∙◌, ◌++◌, ◌∷◌, Err, Some, drop, map, slice_get, suc, sym, ap, arith}
use Rattle.std.proofs.lemmas.List.{length-map}
use Rattle.std.proofs.lemmas.Result.{err_from_is_err_and}
use Rattle.values.specs.Datum.{datum_of}
use Rattle.values.specs.declared.fault.Fault.TheVariants.{Overflow}
use Rattle.expr.specs.Meaning.{eval}
use Rattle.semantics.specs.Groups.{aggregate_value, group_of, group_row}
use Rattle.windows_groups.specs.aggregates.State.{state_of, states_after}
use Rattle.windows_groups.specs.row_groups.Gathered.{first_keys, gathered_rows}
use Rattle.windows_groups.proofs.lemmas.row_groups.GatherLemmas.{states_there}
use Rattle.windows_groups.proofs.lemmas.row_groups.KeyLemmas.{read_there, rest_there, within_there}
use Rattle.windows_groups.proofs.row_groups.gathered.Groups.row_at.Goals as goal

pub returns-in_err-push_values-clause-overflow : goal.returns-in_err-push_values-clause-overflow
returns-in_err-push_values-clause-overflow c = λ is w terms rows are.
    let p = err_from_is_err_and c.from_residual-in_err-push_values.result c.from_residual-in_err-push_values.ensures.1 in
    let e : c.in_err-push_values.field-0.0 ≡ Overflow = cc (p.1, p.2, is) in
    let there : slice_get (first_keys w terms.by rows) c.args.at ≡ Some c.in-Some.key.now = ap (λ keys. slice_get keys c.args.at) (sym are.keys) ∙ sym c.in-Some.ensures.key in
    let group = group_of (eval w) terms.by rows c.in-Some.key.now in
    let kept : map state_of c.as_slice-2.result.now ≡ states_after w terms.aggregates group.members =
    ap (map state_of) c.as_slice-2.ensures.value ∙ states_there w terms rows c.args.self.now c.args.at c.in-Some.key.now c.index.result.now are there c.index.ensures in
    let within = within_there (first_keys w terms.by rows) c.args.at c.in-Some.key.now there in (
      c.args.at,
      group,
      omega (arith, within, length-map (first_keys w terms.by rows) (group_of (eval w) terms.by rows)),
      read_there (group_of (eval w) terms.by rows) (first_keys w terms.by rows) c.args.at c.in-Some.key.now group there,
      c.in_err-push_values.ensures.overflow (ap Err e) w terms.aggregates group.members kept,
    )

pub returns-clause-row : goal.returns-clause-row
returns-clause-row c = λ w terms rows are.
    let there : slice_get (first_keys w terms.by rows) c.args.at ≡ Some c.in-Some.key.now = ap (λ keys. slice_get keys c.args.at) (sym are.keys) ∙ sym c.in-Some.ensures.key in
    let group = group_of (eval w) terms.by rows c.in-Some.key.now in
    let kept : map state_of c.as_slice-2.result.now ≡ states_after w terms.aggregates group.members =
    ap (map state_of) c.as_slice-2.ensures.value ∙ states_there w terms rows c.args.self.now c.args.at c.in-Some.key.now c.index.result.now are there c.index.ensures in
    let front : map datum_of c.push_copies.new.out.items ≡ c.in-Some.key.now =
    c.in_ok-push_copies.ensures.values ∙ (λ j. map datum_of (c.clear.ensures.items j) ++ c.as_slice.ensures j) in
    let shown : map datum_of c.push_values.new.out.items ≡ group_row (eval w) w terms.aggregates group =
    c.in_ok-push_values.ensures.values w terms.aggregates group.members kept
    ∙ ap (λ key. key ++ map (aggregate_value (eval w) w group.members) terms.aggregates) front in
    rest_there (group_of (eval w) terms.by rows) (group_row (eval w) w terms.aggregates) (first_keys w terms.by rows) c.args.at c.in-Some.key.now there
    ∙ ap (λ row. row ∷ drop (suc c.args.at) (gathered_rows w terms rows)) (sym shown)
