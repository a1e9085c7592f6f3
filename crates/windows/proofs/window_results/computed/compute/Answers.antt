use Rattle.std.proofs.Common.{inl, inr, [], ◌∷◌, ap}
use Rattle.std.proofs.lemmas.Result.{err_from_is_err_and}
use Rattle.expr.specs.View.{term}
use Rattle.semantics.specs.Hits.{function_terms}
use Rattle.windows_groups.specs.window_order.Placed.{rows_in}
use Rattle.windows.proofs.lemmas.window_results.KnownLemmas.{first_reached, second_reached}
use Rattle.windows.proofs.window_results.computed.compute.Goals as goal
use Rattle.resolver_terms.specs.SelectView.{function_of}

pub returns-in_err-values-in-Aggregate-clause-overflow : goal.returns-in_err-values-in-Aggregate-clause-overflow
returns-in_err-values-in-Aggregate-clause-overflow c = λ is.
    let p = err_from_is_err_and c.from_residual.result c.from_residual.ensures.1 in
    first_reached (term c.in-Aggregate.aggregate.argument) [] (function_terms (function_of c.args.function.now)) (rows_in c.args.sequence.now) (ap (λ f. function_terms (function_of f)) c.in-Aggregate.is)
    (c.in_err-values-in-Aggregate.ensures.overflow (cc (is, p.1, p.2)))

pub returns-in_err-values-in-FirstValue-clause-overflow : goal.returns-in_err-values-in-FirstValue-clause-overflow
returns-in_err-values-in-FirstValue-clause-overflow c = λ is.
    let p = err_from_is_err_and c.from_residual-in_err-values-in-FirstValue.result c.from_residual-in_err-values-in-FirstValue.ensures.1 in
    first_reached (term c.in-FirstValue.expression) [] (function_terms (function_of c.args.function.now)) (rows_in c.args.sequence.now) (ap (λ f. function_terms (function_of f)) c.in-FirstValue.is)
    (c.in_err-values-in-FirstValue.ensures.overflow (cc (is, p.1, p.2)))

pub returns-in_err-values-in-LastValue-clause-overflow : goal.returns-in_err-values-in-LastValue-clause-overflow
returns-in_err-values-in-LastValue-clause-overflow c = λ is.
    let p = err_from_is_err_and c.from_residual-in_err-values-in-LastValue.result c.from_residual-in_err-values-in-LastValue.ensures.1 in
    first_reached (term c.in-LastValue.expression) [] (function_terms (function_of c.args.function.now)) (rows_in c.args.sequence.now) (ap (λ f. function_terms (function_of f)) c.in-LastValue.is)
    (c.in_err-values-in-LastValue.ensures.overflow (cc (is, p.1, p.2)))

pub returns-in_err-values-in-NthValue-clause-overflow : goal.returns-in_err-values-in-NthValue-clause-overflow
returns-in_err-values-in-NthValue-clause-overflow c = λ is.
    let p = err_from_is_err_and c.from_residual-in_err-values-in-NthValue.result c.from_residual-in_err-values-in-NthValue.ensures.1 in
    first_reached (term c.in-NthValue.expression) [] (function_terms (function_of c.args.function.now)) (rows_in c.args.sequence.now) (ap (λ f. function_terms (function_of f)) c.in-NthValue.is)
    (c.in_err-values-in-NthValue.ensures.overflow (cc (is, p.1, p.2)))

pub returns-in_err-lagging-in-Lag-clause-overflow : goal.returns-in_err-lagging-in-Lag-clause-overflow
returns-in_err-lagging-in-Lag-clause-overflow c = λ is.
    let p = err_from_is_err_and c.from_residual-in_err-lagging-in-Lag.result c.from_residual-in_err-lagging-in-Lag.ensures.1 in
    let ts = function_terms (function_of c.args.function.now) in
    let are = ap (λ f. function_terms (function_of f)) c.in-Lag.is in
    elim (c.in_err-lagging-in-Lag.ensures.overflow (cc (is, p.1, p.2))) [
      | inl some ↦ first_reached (term c.in-Lag.expression) (term c.in-Lag.otherwise ∷ []) ts (rows_in c.args.sequence.now) are some
      | inr some ↦ second_reached (term c.in-Lag.expression) (term c.in-Lag.otherwise) ts (rows_in c.args.sequence.now) are some
    ]

pub returns-in_err-leading-in-Lead-clause-overflow : goal.returns-in_err-leading-in-Lead-clause-overflow
returns-in_err-leading-in-Lead-clause-overflow c = λ is.
    let p = err_from_is_err_and c.from_residual-in_err-leading-in-Lead.result c.from_residual-in_err-leading-in-Lead.ensures.1 in
    let ts = function_terms (function_of c.args.function.now) in
    let are = ap (λ f. function_terms (function_of f)) c.in-Lead.is in
    elim (c.in_err-leading-in-Lead.ensures.overflow (cc (is, p.1, p.2))) [
      | inl some ↦ first_reached (term c.in-Lead.expression) (term c.in-Lead.otherwise ∷ []) ts (rows_in c.args.sequence.now) are some
      | inr some ↦ second_reached (term c.in-Lead.expression) (term c.in-Lead.otherwise) ts (rows_in c.args.sequence.now) are some
    ]
