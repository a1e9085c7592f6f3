-- The rows of arms are those of the SELECTs in whose places they are, and what arms reach these can reach.
use Rattle.std.proofs.Common.{◌≡◌, ◌∙◌, ◌⊎◌, inl, inr, Bool, true, false, List, [], ◌∷◌, ◌++◌, refl, sym, ap, subst, IsPermutation}
use Rattle.std.proofs.lemmas.List.Elements.{All-head, All-tail}
use Rattle.std.proofs.lemmas.List.Sorted.{IsPermutation-trans}
use Rattle.values.specs.Database.{Database}
use Rattle.values.specs.Datum.{Datum}
use Rattle.values.specs.Row.{Row}
use Rattle.expr.specs.Term.{Term}
use Rattle.semantics.specs.Body.{answers_in, body_rows, distinct}
use Rattle.semantics.specs.Hits.{BodyHits, FromHits, HitsOrdered, SelectHits, key_terms, order_terms}
use Rattle.semantics.specs.Query.{Body, From, Key, KeyTerm, Operator, Select, compound, select}
use Rattle.semantics.specs.Times.{once}
use Rattle.semantics.proofs.TimesLemmas.{IsPermutation-once}
use Rattle.windows_groups.specs.distinct_rows.Firsts.{firsts}
use Rattle.windows_groups.proofs.lemmas.distinct_rows.FirstLemmas.{firsts_are_once}
use Rattle.logical_plan.specs.Plan.{rows_of}
use Rattle.logical_plan.specs.answers.Arms.{ArmData, ArmsData, ArmsHit, arm_rows, each_once_if, joined, one, result_rows, rows_of_arms}
use Rattle.logical_plan.specs.answers.Joined.{joined_rows}
use Rattle.logical_plan.specs.answers.Permitted.{AreArmsOf, AreResults, ArmsHitsAreHits, HitsWithin, IsArmOf, IsResultColumn}
use Rattle.logical_plan.proofs.lemmas.answers.JoinedLemmas.{joined_is_combined}
use Rattle.logical_plan.proofs.lemmas.answers.ResultLemmas.{results_are}

arm_same : (b : Bool) (xs ys : List Row) → IsPermutation xs ys → IsPermutation (distinct b xs) (each_once_if b ys)
arm_same true xs ys same = IsPermutation-trans (once xs) (once ys) (firsts ys) (IsPermutation-once xs ys same) (firsts_are_once ys)
arm_same false xs ys same = same

module _ (w : Datum) (db : Database) where
  -- the rows of an arm are those of its SELECT, in some order
  arm_is : (from : From) (s : Select) (arm : ArmData) → IsArmOf w db from s arm → IsPermutation (body_rows w db (select from s)) (arm_rows w db arm)
  arm_is from s arm of =
      let rows = result_rows w arm.columns (rows_of w db arm.plan) in
      subst (λ (b : Bool). IsPermutation (body_rows w db (select from s)) (each_once_if b rows)) (sym of.distinct)
      (arm_same s.distinct _ rows (results_are w db from s arm.plan arm.columns of.sees))

  pub arms_are : (body : Body) (arms : ArmsData) → AreArmsOf (IsArmOf w db) body arms → IsPermutation (body_rows w db body) (rows_of_arms w db arms)
  arms_are (select from s) (one arm) of = arm_is from s arm of
  arms_are (select from s) (joined left other arm) of = absurd of
  arms_are (compound body operator from s) (one arm) of = absurd of
  arms_are (compound body operator from s) (joined left other arm) of =
      subst (λ (o : Operator). IsPermutation (body_rows w db (compound body operator from s)) (joined_rows o (rows_of_arms w db left) (arm_rows w db arm))) (sym of.1)
      (joined_is_combined operator (body_rows w db body) (rows_of_arms w db left) (body_rows w db (select from s)) (arm_rows w db arm)
      (arms_are body left of.0) (arm_is from s arm of.2))

  arms_hit : (body : Body) (arms : ArmsData) → AreArmsOf (HitsWithin w db) body arms → ArmsHit w db arms → BodyHits w db body
  arms_hit (select from s) (one arm) of hits = of hits
  arms_hit (select from s) (joined left other arm) of hits = absurd of
  arms_hit (compound body operator from s) (one arm) of hits = absurd of
  arms_hit (compound body operator from s) (joined left other arm) of (inl hits) = inl (arms_hit body left of.0 hits)
  arms_hit (compound body operator from s) (joined left other arm) of (inr hits) = inr (of.2 hits)

  ordered_hit : (order : List Key) → order_terms order ≡ [] → (body : Body) → BodyHits w db body → HitsOrdered w db order body
  ordered_hit order none (compound body operator from s) hits = hits
  ordered_hit order none (select from s) hits =
      subst (λ (terms : List Term). FromHits w db (answers_in w db from) from false ⊎ SelectHits w db from s terms) (sym none) hits

-- result columns are no terms
pub results_no_terms : (order : List Key) → AreResults order → order_terms order ≡ []
results_no_terms [] all = refl
results_no_terms (key ∷ order) all =
    ap (λ terms. terms ++ order_terms order) (of key.by (All-head (λ (k : Key). IsResultColumn k.by) key order all))
    ∙ results_no_terms order (All-tail (λ (k : Key). IsResultColumn k.by) key order all)
  where
    of : (by : KeyTerm) → IsResultColumn by → key_terms by ≡ []
    of (KeyTerm.result at) is = refl
    of (KeyTerm.term t) is = absurd is

pub arms_hits_are_hits : ArmsHitsAreHits
arms_hits_are_hits w db query arms results of hits =
    ordered_hit w db query.order (results_no_terms query.order results) query.body (arms_hit w db query.body arms of hits)
