use Rattle.std.proofs.Common.{◌≡◌, ◌∙◌, ◌≤◌, ◌++◌, [], ◌∷◌, Err, length, map, sym, ap, subst, add-one, arith}
use Rattle.std.proofs.Math.ListN.{get_or-map}
use Rattle.std.proofs.lemmas.Result.{err_from_is_err_and}
use Rattle.std.proofs.lemmas.List.{append-nil, drop_all, length-map, take_all}
use Rattle.values.specs.Datum.{datum_of}
use Rattle.values.specs.declared.fault.Fault.TheVariants.{Overflow}
use Rattle.expr.specs.Meaning.{Overflows, eval}
use Rattle.expr.specs.View.{term}
use Rattle.semantics.specs.Groups.{taken_values}
use Rattle.semantics.specs.Query as query
use Rattle.resolver_terms.specs.declared.selects.Aggregate.{Aggregate}
use Rattle.windows_groups.specs.aggregates.State.{state_after, state_of, states_after, taken}
use Rattle.windows_groups.proofs.lemmas.aggregates.MemberLemmas.{state_added}
use Rattle.windows_groups.proofs.aggregates.members.add_row.Goals as goal
use Rattle.resolver_terms.specs.SelectView.{aggregate_of}

pub returns-in_err-value-clause-overflow : goal.returns-in_err-value-clause-overflow
returns-in_err-value-clause-overflow c = λ is.
    let p = err_from_is_err_and c.from_residual.result c.from_residual.ensures.1 in
    let e : c.in_err-value.field-0.0 ≡ Overflow = cc (p.1, p.2, is) in (
      c.loop-at.at,
      aggregate_of c.index-aggregates-at.result,
      omega (arith, length-map c.args.aggregates.now aggregate_of, c.min-count.ensures),
      get_or-map aggregate_of c.args.aggregates.now c.loop-at.at c.index-aggregates-at.result ∙ ap aggregate_of (sym c.index-aggregates-at.is),
      subst (λ (x : Aggregate). Overflows (term x.argument) (map datum_of c.args.row.now)) (sym c.index-aggregates-at.is) (c.in_err-value.ensures.overflow (ap Err e)),
    )

pub loop-at-preserved : goal.loop-at-preserved
loop-at-preserved c = λ w rows same.
    let asked = map aggregate_of c.args.aggregates.now in
    rw (add-one c.loop-at.at)
    (state_added w rows (map datum_of c.args.row.now) c.loop-at.states asked c.loop-at.at (aggregate_of c.index-aggregates-at.result) c.index-states-at.result
    c.add.new.self
    (omega (arith, length-map c.args.aggregates.now aggregate_of, c.min-count.ensures))
    (ap aggregate_of c.index-aggregates-at.is ∙ sym (get_or-map aggregate_of c.args.aggregates.now c.loop-at.at c.index-aggregates-at.result))
    c.index-states-at.is (c.loop-at.invariant w rows same)
    (λ f values was. c.in_ok-add.ensures.state f values (ap state_of (sym c.index-states-at.is) ∙ was)
    ∙ ap (λ v. state_after f (values ++ taken v)) (sym (ap (λ (x : Aggregate). eval w (term x.argument) (map datum_of c.args.row.now)) c.index-aggregates-at.is ∙ c.in_ok-value.ensures.value w))))

pub returns-clause-states : goal.returns-clause-states
returns-clause-states c = λ w rows same.
    let asked = map aggregate_of c.args.aggregates.now in
    let at = c.loop-at.at in
    let row = map datum_of c.args.row.now in
    let many = length-map c.args.aggregates.now aggregate_of in
    let kept = length-map c.args.states.now state_of in
    let states = length-map asked (λ (a : query.Aggregate). state_after a.function (taken_values (eval w) a rows)) in
    let long : length asked ≤ at = omega (arith, ap length same, many, kept, states, c.min-count.ensures, c.loop-at-test.false) in
    c.loop-at.invariant w rows same
    ∙ (λ j. states_after w (take_all at asked long j) (rows ++ row ∷ []) ++ states_after w (drop_all at asked long j) rows)
    ∙ append-nil (states_after w asked (rows ++ row ∷ []))
