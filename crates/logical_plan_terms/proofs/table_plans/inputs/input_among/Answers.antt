use Rattle.std.proofs.Common.{◌≡◌, ◌∙◌, false, length, map, rules, sym, arith}
use Rattle.std.proofs.lemmas.Bool.{eqb-false}
use Rattle.std.proofs.lemmas.List.{length-map}
use Rattle.resolver_bodies.specs.BodyView.{inner_of, joined_all, joined_of}
use Rattle.semantics.specs.Query.{nothing}
use Rattle.logical_plan_terms.proofs.lemmas.table_plans.InputLemmas.{not_answered}
use Rattle.logical_plan_terms.proofs.table_plans.inputs.input_among.Goals as goal

pub returns-then-not-is_empty : goal.returns-then-not-is_empty
returns-then-not-is_empty c =
    let fails : c.is_empty.result ≡ false = search rules in
    let some : length c.args.inner.now ≡ 0 → ⊥ = eqb-false (length c.args.inner.now) 0 (sym c.is_empty.ensures ∙ fails) in
    not_answered (joined_all nothing (map joined_of c.args.sources.now)) (map inner_of c.args.inner.now) (omega (arith, length-map c.args.inner.now inner_of))
