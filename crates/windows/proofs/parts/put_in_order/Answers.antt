use Rattle.std.proofs.Common.{inl, inr, refl}
use Rattle.std.proofs.lemmas.Result.{on_ok_weaker}
use Rattle.resolver_terms.specs.SelectView.{window_of}
use Rattle.windows.proofs.parts.put_in_order.Goals as goal

pub returns-clause-values : goal.returns-clause-values
returns-clause-values c =
    on_ok_weaker c.put_values.result
    (λ h. λ w o want keys wanted. h w o (window_of c.args.call.now.window) want
    (record { ways = c.requires.ways; edges = refl; keys = keys }) wanted)
    c.put_values.ensures.values

pub returns-clause-overflow : goal.returns-clause-overflow
returns-clause-overflow c = λ is.
    elim (c.put_values.ensures.overflow is) [
      | inl some ↦ inl some
      | inr leaves ↦ inr (λ w keys. leaves w (window_of c.args.call.now.window)
          (record { ways = c.requires.ways; edges = refl; keys = keys }))
    ]
