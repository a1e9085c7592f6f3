use Rattle.std.proofs.Common.{◌≡◌, ◌+◌, ◌<◌, All, List, ℕ, get_or, subst, sym, take, arith}
use Rattle.std.proofs.lemmas.List.{take_all, take_more}
use Rattle.std.proofs.lemmas.List.Elements.{All-push}
use Rattle.semantics.specs.Query.{from_width}
use Rattle.logical_plan_terms.specs.table_plans.Input.{from_of}
use Rattle.logical_plan_terms.proofs.lemmas.table_plans.InputLemmas.{is_none, is_there}
use Rattle.logical_plan_terms.proofs.table_plans.inputs.are_within.Goals as goal

pub loop-c-preserved : goal.loop-c-preserved
loop-c-preserved c =
    let w = from_width (from_of c.args.tables.now) in
    let here = get_or c.args.columns.now c.loop-c.c-index 0 in
    subst (λ (xs : List ℕ). All (λ n. n < w) xs) (sym (take_more c.args.columns.now c.loop-c.c-index 0 c.loop-c-test.true))
    (All-push (λ n. n < w) (take c.loop-c.c-index c.args.columns.now) here c.loop-c.invariant
    (is_none c.place_behind.result (here < w) (λ place. here ≡ w + place) (sym c.if-is_some.ensures) c.place_behind.ensures))

pub returns-then-is_some : goal.returns-then-is_some
returns-then-is_some c = λ all.
    let w = from_width (from_of c.args.tables.now) in
    let here = get_or c.args.columns.now c.loop-c.c-index 0 in
    let behind = is_there c.place_behind.result (here < w) (λ place. here ≡ w + place) (sym c.if-is_some.ensures) c.place_behind.ensures in
    let within : here < w = all c.loop-c.c-index 0 c.loop-c-test.true in
    let past : here ≡ w + behind.0 = behind.1 in
    omega (arith, within, past)

pub returns : goal.returns
returns c =
    subst (λ (xs : List ℕ). All (λ n. n < from_width (from_of c.args.tables.now)) xs) (take_all c.loop-c.c-index c.args.columns.now c.loop-c-test.false) c.loop-c.invariant
