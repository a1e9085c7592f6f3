use Rattle.std.proofs.Common.{◌≡◌, ◌∙◌, ◌+ℤ◌, pos, Some, option_map, unwrap_or, sym, ap, arith, to_z, of_z}
use Rattle.std.specs.Int.{w128}
use Rattle.std.specs.Ordering.{flip_args}
use Rattle.std.proofs.lemmas.Int.{ints}
use Rattle.values.specs.Datum.{datum_of}
use Rattle.values.specs.Order.{datum_cmp}
use Rattle.semantics.specs.Groups.{number}
use Rattle.windows_groups.specs.aggregates.State.{first_of, greatest, least, state_of, summed}
use Rattle.windows_groups.proofs.lemmas.aggregates.StateLemmas.{greatest_more, least_more, summed_more}
use Rattle.windows_groups.proofs.aggregates.accumulator.Accumulator.take.Goals as goal

pub returns-in_ok-total_with-in-Sum-clause-state : goal.returns-in_ok-total_with-in-Sum-clause-state
returns-in_ok-total_with-in-Sum-clause-state c = λ f values is.
    let value = datum_of c.args.value in
    let sum : to_z w128 (of_z w128 c.in_ok-total_with-in-Sum.field-0) ≡ unwrap_or c.in-Sum.total (pos 0) +ℤ number value =
    omega (arith, ints, c.in_ok-total_with-in-Sum.ensures.total, c.number_of.ensures) in
    ap (λ t. summed (Some t)) sum ∙ summed_more f values c.in-Sum.total value (ap state_of (sym c.in-Sum.is) ∙ is)

pub returns-in-Min-clause-state : goal.returns-in-Min-clause-state
returns-in-Min-clause-state c = λ f values is.
    let value = datum_of c.args.value in
    let less : datum_of c.less_of.result ≡ first_of datum_cmp (option_map datum_of c.in-Min.best) value =
    c.less_of.ensures ∙ ap (λ b. first_of datum_cmp (option_map datum_of b) value) c.take.ensures.value in
    ap (λ d. least (Some d)) less ∙ least_more f values (option_map datum_of c.in-Min.best) value (ap state_of (sym c.in-Min.is) ∙ is)

pub returns-in-Max-clause-state : goal.returns-in-Max-clause-state
returns-in-Max-clause-state c = λ f values is.
    let value = datum_of c.args.value in
    let greater : datum_of c.greater_of.result ≡ first_of (flip_args datum_cmp) (option_map datum_of c.in-Max.best) value =
    c.greater_of.ensures ∙ ap (λ b. first_of (flip_args datum_cmp) (option_map datum_of b) value) c.take-in-Max.ensures.value in
    ap (λ d. greatest (Some d)) greater ∙ greatest_more f values (option_map datum_of c.in-Max.best) value (ap state_of (sym c.in-Max.is) ∙ is)
