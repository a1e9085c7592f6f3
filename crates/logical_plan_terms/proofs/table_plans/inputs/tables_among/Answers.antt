use Rattle.std.proofs.Common.{◌≡◌, ◌∙◌, ◌+◌, ◌++◌, ◌∷◌, ◌<◌, [], All, List, map, rules, subst, sym, take}
use Rattle.resolver_bodies.specs.BodyView.{joined_all, joined_of}
use Rattle.expr.specs.Columns.{columns_of}
use Rattle.semantics.specs.Query.{from_width, nothing}
use Rattle.logical_plan_terms.proofs.OverLemmas.{told}
use Rattle.expr.specs.View.{term}
use Rattle.logical_plan_terms.specs.table_plans.Input.{from_of}
use Rattle.logical_plan_terms.specs.table_plans.TableJoins.{AreTableJoins}
use Rattle.logical_plan_terms.specs.declared.table_plans.inputs.JoinedTable.{JoinedTable}
use Rattle.logical_plan_terms.proofs.lemmas.table_plans.InputLemmas.{one_more, outside, pushed_is, sources_are, these_joined}
use Rattle.logical_plan_terms.proofs.table_plans.inputs.tables_among.Goals as goal

pub returns-in-None : goal.returns-in-None
returns-in-None c = λ all.
    (rw c.in-None.is at c.table_joined.ensures)
    (these_joined c.args.sources.now c.loop-joined.joined-index c.joined-item.result c.loop-joined-test.true c.joined-item.is c.loop-joined.tables.items
    c.loop-joined.invariant.0 all).1

pub returns-then-not-branch : goal.returns-then-not-branch
returns-then-not-branch c =
    outside c.args.sources.now c.loop-joined.joined-index c.joined-item.result c.loop-joined-test.true c.joined-item.is c.loop-joined.tables.items
    c.loop-joined.invariant.0 c.in-Some.table (rw c.in-Some.is at c.table_joined.ensures)
    (subst (λ (ts : List JoinedTable). ¬ All (λ n. n < from_width (from_of ts)) (columns_of (term c.joined-item.result.condition)))
    (c.as_slice.ensures.value ∙ c.in_ok-push.ensures.items) (rw c.if-not-branch.true at c.in_ok-is_within.ensures))

pub loop-joined-preserved : goal.loop-joined-preserved
loop-joined-preserved c =
    let same = rw c.in-Some.is at c.table_joined.ensures in
    let sources = c.args.sources.now in
    let i = c.loop-joined.joined-index in
    let j = c.joined-item.result in
    let ts = c.loop-joined.tables.items in
    let t = c.in-Some.table in
    let within : All (λ n. n < from_width (from_of (ts ++ t ∷ []))) (columns_of (term j.condition)) =
    subst (λ (ts : List JoinedTable). All (λ n. n < from_width (from_of ts)) (columns_of (term j.condition)))
    (c.as_slice.ensures.value ∙ c.in_ok-push.ensures.items)
    (told c.in_ok-is_within.field-0 _ (search rules) c.in_ok-is_within.ensures) in
    subst (λ (pushed : List JoinedTable). (joined_all nothing (map joined_of (take (i + 1) sources)) ≡ from_of pushed) × AreTableJoins (from_of pushed))
    (sym c.in_ok-push.ensures.items) (
      sources_are sources i j c.loop-joined-test.true c.joined-item.is ts c.loop-joined.invariant.0
          ∙ pushed_is sources i j c.loop-joined-test.true c.joined-item.is ts c.loop-joined.invariant.0 t same,
      one_more sources i j c.loop-joined-test.true c.joined-item.is ts c.loop-joined.invariant.0 t same c.loop-joined.invariant.1 within,
    )
